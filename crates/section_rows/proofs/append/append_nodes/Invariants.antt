use mathlib.Core.Path.{◌≡◌}
use Prim.Native.Nat.{ℕ, ◌+◌, ◌-◌, ◌*◌}
use lib.ListN.{length}
use Rattle.script.specs.declared.Section.TheVariants.{Nodes as nodes-section}
use Rattle.token_words.specs.Whole.{items_in}
use Rattle.section_rows.specs.Records.{Stretch}
use Rattle.section_rows.proofs.AppendLaws.{Appending}
use Rattle.section_rows.proofs.append.append_nodes.Given as goal

abbrev pub invariant-loop-k : goal.invariant-loop-k
invariant-loop-k l =
    let t = l.source.records.items in
    (l.output.end ≡ l.initial.output.end + 8 * (l.k - l.from))
    × (length l.output.bytes.now ≡ length l.initial.output.bytes.now)
    × (l.output.bytes.ghost_name ≡ l.initial.output.bytes.ghost_name)
    × ((a b : ℕ) → Stretch t.tokens.roles.now l.from l.to a b → Appending t.tokens.roles.now (items_in t) nodes-section t.types a b l.base l.initial.output l.output l.k)
