use mathlib.Core.Path.{ap, ◌∙◌}
use Rattle.table.specs.Table.{closed_to}
use Rattle.table.proofs.fill_table.Goals as goal

pub put_rules-requires : goal.put_rules-requires
put_rules-requires c =
    c.put_closing.ensures ∙ ap (closed_to 32) c.requires
