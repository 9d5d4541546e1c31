-- Words appended one after another.
use mathlib.Core.Path.{◌≡◌, ◌∙◌}
use mathlib.Core.List.{List, ◌++◌}
use Prim.Native.Nat.{ℕ}
use native.Mathlib.Omega.{arith}
use lib.ListN.{length-append}
use Rattle.row_bytes.specs.declared.output.Output.{Output}
use Rattle.row_bytes.specs.Output.{Fits, Extended}
use Rattle.row_bytes.proofs.WrittenLaws.{written_more}

-- the same words
pub extended_as : {o p : Output} {us vs : List ℕ} → us ≡ vs → Extended o p us → Extended o p vs
extended_as e x = rw (← e) x

-- words behind words
module _ (o : Output) (us vs : List ℕ) (h : Fits o (us ++ vs)) where
  pub fits_first : Fits o us
  fits_first = omega (arith, length-append us vs)

  module _ {p : Output} (a : Extended o p us) where
    pub fits_second : Fits p vs
    fits_second = omega (arith, a.appended.end_is, a.same_long, length-append us vs)

    pub extended_both : {q : Output} → Extended p q vs → Extended o q (us ++ vs)
    extended_both b =
        record {
          same_reference = b.same_reference ∙ a.same_reference;
          same_long = b.same_long ∙ a.same_long;
          appended = record {
            file_is =
                b.appended.file_is ∙ rw (a.appended.file_is, a.appended.end_is) (written_more o.bytes.now o.end us vs (omega (arith, length-append us vs)));
            end_is = omega (arith, a.appended.end_is, b.appended.end_is, length-append us vs);
          };
        }
