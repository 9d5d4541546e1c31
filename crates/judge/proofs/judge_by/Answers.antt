use native.Mathlib.Omega.{arith}
use Rattle.judge.proofs.JudgeLaws.{begun, starts_below, room_here, top_here, refused_here, goes_on, goes_plainly, ended_here}
use Rattle.judge.proofs.judge_by.Goals as goal

pub loop-t-init : goal.loop-t-init
loop-t-init c =
    begun _ _ _ _

pub go-s-requires : goal.go-s-requires
go-s-requires c =
    let next = c.in-Some.ensures in
    let room = room_here c.loop-t.invariant next c.requires in
    record {
      tokens_in_bounds = (room.roles_room, room.offsets_room, c.entry_at-e.ensures.tight);
      start_bound = (omega (arith, starts_below c.loop-t.invariant next, c.requires.short), c.is_plain.ensures c.if-is_plain.true);
    }

pub loop-t-smaller-then-is_plain : goal.loop-t-smaller-then-is_plain
loop-t-smaller-then-is_plain c =
    let next = c.in-Some.ensures in
    omega (arith, next.from, next.some, starts_below c.loop-t.invariant next)

pub loop-t-preserved-then-is_plain : goal.loop-t-preserved-then-is_plain
loop-t-preserved-then-is_plain c =
    let next = c.in-Some.ensures in
    goes_plainly c.loop-t.invariant next c.entry_at-e.result.bits c.go-s.result _ _ c.entry_at-e.ensures (c.is_plain.ensures c.if-is_plain.true)
    (room_here c.loop-t.invariant next c.requires).offsets_room c.go-s.ensures.gone c.go-s.ensures.offsets_after c.go-s.auto.roles c.go-s.auto.offsets

pub top_of-top-requires : goal.top_of-top-requires
top_of-top-requires c =
    omega (arith, (room_here c.loop-t.invariant c.in-Some.ensures c.requires).closers_room)

pub returns-then-m-eq-STUCK : goal.returns-then-m-eq-STUCK
returns-then-m-eq-STUCK c =
    let next = c.in-Some.ensures in
    refused_here c.loop-t.invariant next c.turn_under-m.result c.top_of-top.result c.turn_under-m.ensures
    (top_here c.loop-t.invariant next c.top_of-top.result c.top_of-top.ensures) c.if-m-eq-STUCK.true

pub advance-s-requires : goal.advance-s-requires
advance-s-requires c =
    let next = c.in-Some.ensures in
    let room = room_here c.loop-t.invariant next c.requires in
    record {
      tokens_in_bounds = (room.roles_room, room.offsets_room, room.closers_room, c.turn_under-m.ensures.tight);
      parameter_in_bounds = (c.loop-t.invariant.parameter_within, starts_below c.loop-t.invariant next, c.requires.short);
      text_value = next.name_ends;
    }

pub loop-t-smaller : goal.loop-t-smaller
loop-t-smaller c =
    let next = c.in-Some.ensures in
    omega (arith, next.from, next.some, starts_below c.loop-t.invariant next)

pub loop-t-preserved : goal.loop-t-preserved
loop-t-preserved c =
    let next = c.in-Some.ensures in
    goes_on c.loop-t.invariant next c.turn_under-m.result c.top_of-top.result c.advance-s.result _ _ _ c.turn_under-m.ensures
    (top_here c.loop-t.invariant next c.top_of-top.result c.top_of-top.ensures) c.if-m-eq-STUCK.false (room_here c.loop-t.invariant next c.requires).offsets_room
    c.advance-s.ensures.advanced c.advance-s.ensures.offsets_after c.advance-s.auto.roles c.advance-s.auto.offsets c.advance-s.auto.closers

pub returns : goal.returns
returns c =
    ended_here c.ended.result c.loop-t.invariant c.in_default.ensures c.ended.ensures
