use native.Mathlib.Omega.{arith}
use Rattle.word_kinds.proofs.WordLaws.{ends_within, other_word, same_word}
use Rattle.word_kinds.proofs.word_kind.Goals as goal

pub slice_bounds-word-end : goal.slice_bounds-word-end
slice_bounds-word-end c =
    omega (arith, ends_within _ _ _ c.requires)

pub overflow_sub-end : goal.overflow_sub-end
overflow_sub-end c =
    omega (arith, ends_within _ _ _ c.requires)

pub returns-then-eq : goal.returns-then-eq
returns-then-eq c =
    same_word _ _ _ c.requires _ _ c.slot_of.ensures c.candidate-kind.ensures c.if-eq.ensures

pub returns-else-eq : goal.returns-else-eq
returns-else-eq c =
    other_word _ _ _ c.requires _ _ c.slot_of.ensures c.candidate-kind.ensures c.if-eq.ensures
