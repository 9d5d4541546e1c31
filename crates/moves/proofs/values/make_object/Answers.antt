use native.Mathlib.Omega.{arith}
use mathlib.Core.Path.{◌∙◌}
use Rattle.machine.specs.Config.{code_of}
use Rattle.state.proofs.Seeing.{seen_length, objects_counted, some_state}
use Rattle.moves.proofs.Laws as laws
use Rattle.moves.specs.Performs.{performs_full}
use Rattle.moves.proofs.values.make_object.Goals as goal

pub returns-then-n-ge-OBJECTS : goal.returns-then-n-ge-OBJECTS
returns-then-n-ge-OBJECTS c =
    λ x st a e fs seen. rw (laws.no_room c.count-n.ensures.0 c.if-n-ge-OBJECTS.true) performs_full

pub new_object-requires : goal.new_object-requires
new_object-requires c =
    omega (arith, c.count-n.ensures.0)

pub start_fields-requires : goal.start_fields-requires
start_fields-requires c =
    laws.object_new _ _ c.requires.seen c.count-n.ensures.0 (omega arith) c.new_object.ensures _

pub gives-requires : goal.gives-requires
gives-requires c =
    (some_state (laws.objects_more _ _ c.requires.seen c.count-n.ensures.0 (omega arith) c.new_object.ensures (code_of c.args.script.now.bytes.now) c.start_fields.ensures), omega arith)

pub returns : goal.returns
returns c =
    λ x st a e fs seen. laws.performs_as (laws.makes st fs (code_of c.args.script.now.bytes.now) _ _ _ c.count-n.ensures.0 (omega arith) (c.count-n.ensures.0 ∙ objects_counted seen)) (c.gives.ensures _ x _ a e fs (laws.objects_more _ _ seen c.count-n.ensures.0 (omega arith) c.new_object.ensures (code_of c.args.script.now.bytes.now) c.start_fields.ensures))
