use native.Mathlib.Omega.{arith}
use Prim.Native.Nat.{◌<◌}
use Rattle.script.specs.Section.{count_of}
use Rattle.sections.specs.Laid.{owner_of, fresh_in}
use Rattle.sections.proofs.Access.{count_within}
use Rattle.script.proofs.Lists.{sum_start}
use Rattle.sections.proofs.CodeLaws.{owner_is}
use Rattle.sections.proofs.Search.{search_start, found_end, lowest_here, lowest_none}
use Rattle.records.proofs.NameLaws.{OwnRun, run_within, run_next, run_at, run_there, run_none, runs_end}
use Rattle.records.proofs.names.check_fresh.Goals as goal

pub loop-o-init : goal.loop-o-init
loop-o-init c =
    (omega arith, sum_start _, search_start (fresh_in c.args.file.now.bytes.now c.args.k) _)

pub own_count-requires : goal.own_count-requires
own_count-requires c =
    let owner : c.loop-o.o < count_of c.args.file.now.bytes.now (owner_of c.args.k) = owner_is _ c.args.k _ _ _ c.owner_of.ensures c.count_of-n.ensures.0 c.loop-o-test.true in
    owner

pub overflow_add-end : goal.overflow_add-end
overflow_add-end c =
    let owner : c.loop-o.o < count_of c.args.file.now.bytes.now (owner_of c.args.k) = owner_is _ c.args.k _ _ _ c.owner_of.ensures c.count_of-n.ensures.0 c.loop-o-test.true in
    let run : OwnRun c.args.file.now.bytes.now c.args.k c.loop-o.start c.loop-o.o c.own_count.result = record { total = c.requires; among = owner; starts = c.loop-o.invariant.1; sized = c.own_count.ensures.0 } in
    omega (arith, run_within (run), count_within c.args.file.now.bytes.now c.args.k c.args.file.now.laid)

pub repeated_in-requires : goal.repeated_in-requires
repeated_in-requires c =
    let owner : c.loop-o.o < count_of c.args.file.now.bytes.now (owner_of c.args.k) = owner_is _ c.args.k _ _ _ c.owner_of.ensures c.count_of-n.ensures.0 c.loop-o-test.true in
    let run : OwnRun c.args.file.now.bytes.now c.args.k c.loop-o.start c.loop-o.o c.own_count.result = record { total = c.requires; among = owner; starts = c.loop-o.invariant.1; sized = c.own_count.ensures.0 } in
    (omega arith, run_within (run))

pub record_at-requires : goal.record_at-requires
record_at-requires c =
    let owner : c.loop-o.o < count_of c.args.file.now.bytes.now (owner_of c.args.k) = owner_is _ c.args.k _ _ _ c.owner_of.ensures c.count_of-n.ensures.0 c.loop-o-test.true in
    let run : OwnRun c.args.file.now.bytes.now c.args.k c.loop-o.start c.loop-o.o c.own_count.result = record { total = c.requires; among = owner; starts = c.loop-o.invariant.1; sized = c.own_count.ensures.0 } in
    (run_there (run) _ c.loop-o.invariant.2 _ c.repeated_in.ensures _ c.in-Some.is)

pub returns-in-Some : goal.returns-in-Some
returns-in-Some c =
    let owner : c.loop-o.o < count_of c.args.file.now.bytes.now (owner_of c.args.k) = owner_is _ c.args.k _ _ _ c.owner_of.ensures c.count_of-n.ensures.0 c.loop-o-test.true in
    let run : OwnRun c.args.file.now.bytes.now c.args.k c.loop-o.start c.loop-o.o c.own_count.result = record { total = c.requires; among = owner; starts = c.loop-o.invariant.1; sized = c.own_count.ensures.0 } in
    lowest_here _ _ _ _ _ (run_at (run) _ c.loop-o.invariant.2 _ c.repeated_in.ensures _ c.in-Some.is) c.record_at.ensures.0

pub loop-o-preserved : goal.loop-o-preserved
loop-o-preserved c =
    let owner : c.loop-o.o < count_of c.args.file.now.bytes.now (owner_of c.args.k) = owner_is _ c.args.k _ _ _ c.owner_of.ensures c.count_of-n.ensures.0 c.loop-o-test.true in
    let run : OwnRun c.args.file.now.bytes.now c.args.k c.loop-o.start c.loop-o.o c.own_count.result = record { total = c.requires; among = owner; starts = c.loop-o.invariant.1; sized = c.own_count.ensures.0 } in
    let this = run in (omega (arith, c.loop-o-test.true), run_next this, run_none this _ c.loop-o.invariant.2 _ c.repeated_in.ensures c.in_default.is)

pub returns : goal.returns
returns c =
    lowest_none _ _ _ (found_end (fresh_in c.args.file.now.bytes.now c.args.k) _ _ _ c.loop-o.invariant.2 (runs_end c.args.file.now.bytes.now c.args.k _ _ c.loop-o.start c.loop-o.o c.requires c.owner_of.ensures c.count_of-n.ensures.0 c.loop-o.invariant.1 c.loop-o.invariant.0 c.loop-o-test.false))
