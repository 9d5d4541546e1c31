use Rattle.flat.specs.Flat.{turn_at, pick_turn}
use Rattle.tokens.specs.Runs.{byte_run}
use Rattle.tokens.specs.Next.{lexeme_of}
use Rattle.table.specs.Table.{closed_to, table_entries, entries_from}
use Rattle.table.proofs.TableLaws.{ruled_to, ruled_none, ruled_more, ruled_all}
use native.Mathlib.Omega.{arith}
use mathlib.Core.Path.{◌≡◌, refl}
use Rattle.table.proofs.put_rules.Goals as goal

pub loop-place-init : goal.loop-place-init
loop-place-init c =
    ruled_none _ _ refl

pub loop-place-preserved : goal.loop-place-preserved
loop-place-preserved c =
    ruled_more _ _ _ _ refl c.loop-place.invariant

pub returns : goal.returns
returns c =
    let e : c.loop-place.place-index ≡ 117 = omega arith in ruled_all _ _ _ _ c.loop-place.invariant e c.requires (unfold ruled_to closed_to table_entries entries_from turn_at lexeme_of pick_turn byte_run in refl)
