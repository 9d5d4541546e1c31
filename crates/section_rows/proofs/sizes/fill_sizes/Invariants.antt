use mathlib.Core.Path.{◌≡◌}
use mathlib.Core.List.{List}
use lib.ListN.{drop}
use Rattle.rows.specs.Rows.{Item, sizes_of}
use Rattle.token_words.specs.Items.{Roled}
use Rattle.section_rows.proofs.sizes.fill_sizes.Given as goal

abbrev pub invariant-loop-k : goal.invariant-loop-k
invariant-loop-k l = (es : List Item) → Roled l.roles es → drop l.k l.sizes ≡ drop l.k (sizes_of es)
