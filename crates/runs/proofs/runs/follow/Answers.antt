use native.Mathlib.Omega.{arith}
use mathlib.Core.Path.{◌≡◌, refl, ap, ◌∙◌}
use lib.ListN.{length}
use Rattle.runs.proofs.RunLaws as laws
use Rattle.runs.proofs.runs.follow.Goals as goal

pub loop-read-init : goal.loop-read-init
loop-read-init c =
    (refl, refl, laws.loop_begun c.requires.config_value)

pub take_choice-taken-requires : goal.take_choice-taken-requires
take_choice-taken-requires c =
    (rw c.loop-read.invariant.0 c.requires.blank.0, laws.loop_standing c.loop-read.invariant.2 c.requires.blank.1)

pub overflow_add-result : goal.overflow_add-result
overflow_add-result c =
    omega (arith, c.loop-read.invariant.2.few, c.requires.choices_len_bound)

pub overflow_add-moves : goal.overflow_add-moves
overflow_add-moves c =
    omega (arith, c.loop-read.invariant.2.fewer, c.loop-read.invariant.2.few, c.take_choice-taken.ensures.table_unchanged.1, c.requires.choices_len_bound)

pub shape_of-table-in-Some : goal.shape_of-table-in-Some
shape_of-table-in-Some c =
    ap length (c.take_choice-taken.ensures.table_unchanged.0 ∙ c.loop-read.invariant.0)

pub returns-in-Some : goal.returns-in-Some
returns-in-Some c =
    (record { ran_as = λ x. laws.loop_stops c.loop-read.invariant.2 (omega arith) c.take_choice-taken.ensures.table_unchanged.1 _ c.from-n.ensures c.take_choice-taken.ensures.taken_as _ c.in-Some.is x; read_in_bounds = (omega arith, omega (arith, c.loop-read.invariant.2.fewer, c.take_choice-taken.ensures.table_unchanged.1)) })

pub loop-read-preserved : goal.loop-read-preserved
loop-read-preserved c =
    (c.take_choice-taken.ensures.table_unchanged.0 ∙ c.loop-read.invariant.0, omega (arith, c.loop-read.invariant.1), laws.loop_more c.loop-read.invariant.2 (omega arith) c.take_choice-taken.ensures.table_unchanged.1 _ c.from-n.ensures c.take_choice-taken.ensures.taken_as c.in_default.is)

pub shape_of-table : goal.shape_of-table
shape_of-table c =
    ap length c.loop-read.invariant.0

pub returns : goal.returns
returns c =
    let read : length c.args.choices.now ≡ c.loop-read.read = omega (arith, c.loop-read.invariant.2.few) in
    record { ran_as = λ x. rw read (laws.loop_spent c.loop-read.invariant.2 (omega arith) x); read_in_bounds = (omega arith, omega (arith, c.loop-read.invariant.2.few, c.loop-read.invariant.2.fewer)) }
