-- The flags that Offer sets, one after the other.
use mathlib.Core.Path.{◌≡◌, refl, sym, ap, ◌∙◌}
use mathlib.Core.Bool.{Bool, true, false}
use mathlib.Core.List.{List}
use Prim.Native.Nat.{ℕ, ◌+◌, ◌<◌, ◌≤◌}
use native.Mathlib.Omega.{arith}
use borrow.Author.Count.{below_more}
use lib.ListN.{length, get_or, set, length-set}
use lib.Seq.{get_or-set_same, get_or-set_other, ext_get_or}
use Rattle.std.specs.Int.{from_bool}
use Rattle.limits.specs.Limits.{FLAGS}
use Rattle.script.specs.Lists.{run}
use Rattle.script.proofs.Lists.{length_run, get_d_run}
use Rattle.machine.specs.Config.{code_of}
use Rattle.machine.specs.Machine.{one_if, limits, can_move}
use Rattle.enabled.specs.Looks.{Standing}
use Rattle.calls.specs.Calls.{flags_of}

-- a flag's byte
pub byte_is : (can : Bool) → from_bool can ≡ one_if can
byte_is true = refl
byte_is false = refl

-- The first n flags are set, those of the block b.
pub record Marked (s b flags : List ℕ) (n : ℕ) : Type 0 where
  pub long : length flags ≡ FLAGS
  pub most : n ≤ FLAGS
  pub marks : (x : Standing s b) (k : ℕ) → k < n → get_or flags k 0 ≡ one_if (can_move (code_of s) limits x.config k)

module _ {s b flags : List ℕ} where
  pub mark_none : length flags ≡ FLAGS → Marked s b flags 0
  mark_none long = record { long = long; most = omega arith; marks = λ x k h. absurd (omega arith) }

  module _ {n : ℕ} (m : Marked s b flags n) where
    pub mark_more :
        {v : ℕ} {can : Bool} → n < FLAGS → ((x : Standing s b) → can ≡ can_move (code_of s) limits x.config n) → v ≡ one_if can → Marked s b (set flags n v) (n + 1)
    mark_more {v} h can is =
        record {
          long = length-set flags n v ∙ m.long;
          most = omega arith;
          marks = λ x.
              below_more (λ k. get_or (set flags n v) k 0 ≡ one_if (can_move (code_of s) limits x.config k)) n
              (λ k l. rw (get_or-set_other flags n k v 0 (λ e. omega arith)) (m.marks x k l))
              (get_or-set_same flags n v 0 (omega (arith, m.long)) ∙ is ∙ ap one_if (can x));
        }

    pub mark_all : FLAGS ≤ n → (x : Standing s b) → flags ≡ flags_of s x.config
    unfolding flags_of
    mark_all h x = ext_get_or 0 flags _ (m.long ∙ sym (length_run flag 0 FLAGS)) same
      where
        flag : ℕ → ℕ
        flag k = one_if (can_move (code_of s) limits x.config k)

        same : (k : ℕ) → k < length flags → get_or flags k 0 ≡ get_or (run flag 0 FLAGS) k 0
        same k l =
            let z : 0 + k ≡ k = omega arith in
            m.marks x k (omega (arith, m.long)) ∙ sym (get_d_run flag 0 FLAGS k 0 (omega (arith, m.long)) ∙ ap flag z)
