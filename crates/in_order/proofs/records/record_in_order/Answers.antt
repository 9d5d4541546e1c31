use native.Mathlib.Omega.{arith}
use Rattle.machine.specs.Machine.{field_count}
use Rattle.block.specs.declared.Area.TheVariants.{Objects, Bindings, Positions, Frames}
use Rattle.in_order.proofs.EachLaws as laws
use Rattle.in_order.proofs.records.record_in_order.Goals as goal

pub object_in_order-requires : goal.object_in_order-requires
object_in_order-requires c =
    (c.requires.0, laws.place_there _ Objects _ c.in-Objects.is c.requires.1)

pub value_in_order-requires : goal.value_in_order-requires
value_in_order-requires c =
    (laws.place_there _ Bindings _ c.in-Bindings.is c.requires.1, omega arith)

pub position_in_order-requires : goal.position_in_order-requires
position_in_order-requires c =
    laws.place_there _ Positions _ c.in-Positions.is c.requires.1

pub frame_in_order-requires : goal.frame_in_order-requires
frame_in_order-requires c =
    laws.place_there _ Frames _ c.in-Frames.is c.requires.1

pub returns-in-Objects : goal.returns-in-Objects
returns-in-Objects c =
    let args = c.args in
    laws.record_there (field_count args.s.now) args.block.now args.a Objects args.i c.in-Objects.is c.object_in_order.ensures

pub returns-in-Bindings : goal.returns-in-Bindings
returns-in-Bindings c =
    let args = c.args in
    laws.record_there (field_count args.s.now) args.block.now args.a Bindings args.i c.in-Bindings.is c.value_in_order.ensures

pub returns-in-Positions : goal.returns-in-Positions
returns-in-Positions c =
    let args = c.args in
    laws.record_there (field_count args.s.now) args.block.now args.a Positions args.i c.in-Positions.is c.position_in_order.ensures

pub returns-in-Frames : goal.returns-in-Frames
returns-in-Frames c =
    let args = c.args in
    laws.record_there (field_count args.s.now) args.block.now args.a Frames args.i c.in-Frames.is c.frame_in_order.ensures
