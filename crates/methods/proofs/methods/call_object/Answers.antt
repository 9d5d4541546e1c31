use native.Mathlib.Omega.{arith}
use mathlib.Core.Path.{refl}
use Rattle.machine.specs.Config.{running}
use Rattle.block.specs.declared.Area.TheVariants.{Objects}
use Rattle.subtypes.proofs.SubtypeLaws.{laid}
use Rattle.classes.proofs.MethodLaws.{defined_at}
use Rattle.state.proofs.Seeing.{some_state, seen_length, seen_few}
use Rattle.state.proofs.Moves.{lies}
use Rattle.moves.proofs.Laws.{performs_as}
use Rattle.moves.proofs.FrameLaws.{still_waiting}
use Rattle.methods.proofs.MethodLaws.{enters_none, enters_full, enters}
use Rattle.moves.specs.Performs.{performs_still, performs_full, performs_moved}
use Rattle.methods.proofs.methods.call_object.Goals as goal

pub word-class-requires : goal.word-class-requires
word-class-requires c =
    (omega (arith, c.requires.1, seen_few c.requires.0.here.seen Objects), omega arith)

pub returns-in_default : goal.returns-in_default
returns-in_default c =
    λ rest st g fs s. performs_as (enters_none s _ fs _ _ _ _ c.requires.1 c.word-class.ensures.0 _ c.method_record.ensures c.in_default.is) performs_still

pub returns-then-n-gt-BINDINGS : goal.returns-then-n-gt-BINDINGS
returns-then-n-gt-BINDINGS c =
    λ rest st g fs s. performs_as (enters_full s _ fs _ _ _ _ c.requires.1 c.word-class.ensures.0 _ c.method_record.ensures _ _ c.in-Some.is c.count-n.ensures.0 c.if-n-gt-BINDINGS.true) performs_full

pub record_word-param-requires : goal.record_word-param-requires
record_word-param-requires c =
    (laid c.args.script.now.within_layout, (defined_at c.method_record.ensures c.in-Some.is).0, omega arith)

pub record_word-body-requires : goal.record_word-body-requires
record_word-body-requires c =
    (laid c.args.script.now.within_layout, (defined_at c.method_record.ensures c.in-Some.is).0, omega arith)

pub add_call-requires : goal.add_call-requires
add_call-requires c =
    let seen = c.requires.0.here in
    (c.count-n.ensures.0, omega (arith, c.if-n-gt-BINDINGS.false), omega (arith, c.requires.1, seen_few seen.seen Objects), c.requires.0.word, (lies seen.seen, seen.seen.block))

pub pop-requires : goal.pop-requires
pop-requires c =
    let now = c.add_call.ensures _ _ _ _ c.requires.0.here.seen in
    (some_state now, still_waiting c.requires.0.here.seen now c.requires.0.waiting, omega arith)

pub returns : goal.returns
returns c =
    λ rest st g fs s.
    performs_as (enters s _ fs _ _ _ _ c.requires.1 c.word-class.ensures.0 _ c.method_record.ensures _ _ c.in-Some.is c.count-n.ensures.0 _ _ c.args.script.now.within_layout (omega (arith, c.if-n-gt-BINDINGS.false)) c.record_word-param.ensures.0 c.record_word-body.ensures.0)
    (performs_moved (c.pop.ensures rest _ _ _ fs (running _ _ fs) refl refl refl (c.add_call.ensures _ _ _ _ s)))
