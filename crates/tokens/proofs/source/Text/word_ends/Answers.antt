use Prim.Native.Nat.{ℕ, ◌<◌}
use mathlib.Core.Path.{◌≡◌, refl, ◌∙◌}
use mathlib.Core.Bool.{Bool, true, false}
use mathlib.Core.List.{List, []}
use native.Mathlib.Omega.{arith}
use borrow.Author.Tests.{ltb-true, ltb-false, eq-eqb}
use lib.Dec.{ltb}
use lib.ListN.{length, get_or, drop}
use Rattle.grammar.specs.Tokens.{same_spelling, word_byte_test}
use Rattle.tokens.specs.Kinds.{byte_kind}
use Rattle.tokens.specs.Next.{K_NAME}
use Rattle.tokens.specs.Runs.{word_from}
use Rattle.word_kinds.proofs.RunLaws.{run_on, run_stops, run_ends}
use Rattle.tokens.proofs.KindLaws.{word_in, word_out}
use Rattle.tokens.proofs.source.Text.word_ends.Goals as goal

ends_there : (text : List ℕ) (at k : ℕ) → k ≡ byte_kind (get_or text at 0) → at < length text → ltb k K_NAME ≡ same_spelling (word_from (drop at text)) []
unfolding same_spelling
ends_there text at k t h = go (ltb k K_NAME) refl
  where
    go : (q : Bool) → ltb k K_NAME ≡ q → q ≡ same_spelling (word_from (drop at text)) []
    go true e = rw (run_stops word_byte_test text at h (word_out _ k t (ltb-true _ _ e))) refl
    go false e = rw (run_on word_byte_test text at h (word_in _ k t (ltb-false _ _ e))) refl

pub returns-then-at-self : goal.returns-then-at-self
unfolding same_spelling
returns-then-at-self c =
    eq-eqb _ _ c.if-at-self.true ∙ rw (run_ends word_byte_test c.args.self.now.bytes.now c.args.at (omega arith)) refl

pub returns-else-at-self : goal.returns-else-at-self
returns-else-at-self c =
    ends_there c.args.self.now.bytes.now c.args.at _ c.kind_at.ensures (omega arith)
