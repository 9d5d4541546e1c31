use native.Mathlib.Omega.{arith}
use mathlib.Core.Path.{sym}
use Rattle.script.specs.declared.Section.TheVariants.{Nodes as nodes}
use Rattle.machine.specs.Config.{code_of}
use Rattle.machine.proofs.Counts.{no_count}
use Rattle.silent.proofs.CountLaws.{table_has}
use Rattle.silent.proofs.silent_from.Goals as goal

pub returns-then-count_of-n : goal.returns-then-count_of-n
returns-then-count_of-n c =
    sym (no_count (code_of c.args.s.now) _ (omega (arith, c.count_of.ensures.0)))

pub bounds-counts-n : goal.bounds-counts-n
bounds-counts-n c =
    omega (arith, c.count_of.ensures.0, c.requires.counts_are.within nodes)

pub returns : goal.returns
returns c =
    table_has c.requires c.fill_counts.ensures.0 (omega (arith, c.count_of.ensures.0))
