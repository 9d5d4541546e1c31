use mathlib.Core.Path.{sym, ◌∙◌}
use Rattle.record_rows.proofs.RecordLaws.{join_row, list_row}
use Rattle.record_rows.proofs.interface_row.Goals as goal

pub returns-then-role-eq-TYPE : goal.returns-then-role-eq-TYPE
returns-then-role-eq-TYPE c es m =
    join_row _ _ (sym (c.role.ensures es m.roled) ∙ c.if-role-eq-TYPE.true) (c.type_word.ensures es m) (c.type_word-then-role-eq-TYPE.ensures es m)

pub returns : goal.returns
returns c es m =
    list_row _ _ (λ h. c.if-role-eq-TYPE.false (c.role.ensures es m.roled ∙ h)) (c.owned.ensures es m.roled).signatures_are
