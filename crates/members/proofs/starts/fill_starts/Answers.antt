use Rattle.members.proofs.LookupLaws.{starts_filled}
use Rattle.subtypes.proofs.RowLaws.{no_rows}
use Rattle.script.specs.declared.Section.TheVariants.{Interfaces as interfaces, Classes as classes}
use native.Mathlib.Omega.{arith}
use Rattle.members.proofs.starts.fill_starts.Goals as goal

pub fill_rows-requires : goal.fill_rows-requires
fill_rows-requires c =
    (c.requires.0, no_rows _ c.requires.1 c.requires.2)

pub fill_runs-requires : goal.fill_runs-requires
fill_runs-requires c =
    (c.requires.0, omega (arith, c.requires.0.counts_are.within interfaces))

pub fill_runs-requires-2 : goal.fill_runs-requires-2
fill_runs-requires-2 c =
    (c.requires.0, omega (arith, c.requires.0.counts_are.within classes))

pub fill_runs-requires-3 : goal.fill_runs-requires-3
fill_runs-requires-3 c =
    (c.requires.0, omega (arith, c.requires.0.counts_are.within classes))

pub returns : goal.returns
returns c =
    starts_filled c.requires.0 _ _ _ _ (omega arith) c.fill_rows.ensures c.fill_runs.ensures c.fill_runs-2.ensures c.fill_runs-3.ensures
