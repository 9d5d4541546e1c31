use mathlib.Core.Path.{sym, ◌∙◌}
use Rattle.interfaces.proofs.ClashLaws.{agrees_typed}
use Rattle.interfaces.proofs.clashes.agrees.Goals as goal

pub returns-then-record_word-name : goal.returns-then-record_word-name
returns-then-record_word-name c =
    λ e n. absurd (c.if-record_word-name.true (c.record_word.ensures.0 ∙ sym n))

pub returns-else-record_word-name : goal.returns-else-record_word-name
returns-else-record_word-name c =
    agrees_typed _ _ _ _ _ _ c.types_at.ensures c.eq.ensures
