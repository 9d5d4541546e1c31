use native.Mathlib.Omega.{arith}
use mathlib.Core.Path.{sym, ◌∙◌}
use Rattle.script.specs.declared.Section.TheVariants.{Interfaces as interfaces}
use Rattle.subtypes.proofs.RowLaws.{rows_more}
use Rattle.subtypes.proofs.subtyping.fill_rows.Goals as goal

pub loop-i-init : goal.loop-i-init
loop-i-init c =
    (c.count_of-count.ensures.0, omega arith, c.requires.1, λ j l. absurd (omega arith))

pub overflow_cast-i : goal.overflow_cast-i
overflow_cast-i c =
    omega (arith, c.loop-i.invariant.0, c.loop-i-test.true, c.requires.0.counts_are.within interfaces)

pub climb-requires : goal.climb-requires
climb-requires c =
    (c.requires.0, record { first = omega arith; last = omega (arith, c.loop-i.invariant.0, c.loop-i-test.true) }, c.loop-i.invariant.2)

pub loop-i-preserved : goal.loop-i-preserved
loop-i-preserved c =
    let z = c.loop-i.invariant in (z.0, omega arith, c.climb.ensures.rows, rows_more _ (omega (arith, z.0, c.loop-i-test.true)) c.climb.ensures z.3)

pub shape_of-rows : goal.shape_of-rows
shape_of-rows c =
    c.loop-i.invariant.2.size ∙ sym c.requires.1.size

pub returns : goal.returns
returns c j l =
    c.loop-i.invariant.3 j (omega (arith, c.loop-i.invariant.0, c.loop-i.invariant.1, c.loop-i-test.false))
