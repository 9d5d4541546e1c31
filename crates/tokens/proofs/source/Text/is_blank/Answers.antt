use Prim.Native.Nat.{ℕ}
use mathlib.Core.Path.{◌≡◌, refl, sym, ap, ◌∙◌}
use mathlib.Core.Bool.{Bool, true, false}
use borrow.Author.Tests.{eqb-true, eqb-false}
use lib.Dec.{eqb}
use Rattle.grammar.specs.Tokens.{blank_test}
use Rattle.tokens.specs.Kinds.{BLANK, byte_kind}
use Rattle.tokens.proofs.KindLaws.{blank_kind, other_kind}
use Rattle.tokens.proofs.source.Text.is_blank.Goals as goal

kind-blank : (b : ℕ) → eqb (byte_kind b) BLANK ≡ blank_test b
kind-blank b = go (eqb (byte_kind b) BLANK) refl
  where
    go : (q : Bool) → eqb (byte_kind b) BLANK ≡ q → q ≡ blank_test b
    go true e = sym (blank_kind b (eqb-true _ _ e))
    go false e = sym (other_kind b (eqb-false _ _ e))

pub returns : goal.returns
returns c =
    ap (λ (k : ℕ). eqb k BLANK) c.kind_at.ensures ∙ kind-blank _
