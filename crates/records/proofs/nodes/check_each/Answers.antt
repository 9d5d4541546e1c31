use Prim.Native.Nat.{◌<◌, ◌≤◌}
use mathlib.Core.Path.{sym, ◌∙◌}
use native.Mathlib.Omega.{arith}
use Rattle.script.specs.Section.{count_of}
use Rattle.script.specs.Asking.{first_out_of}
use Rattle.sections.proofs.Search.{search_start, search_pass, found_end, found_fail, lowest_here, lowest_none}
use Rattle.records.proofs.nodes.check_each.Goals as goal

pub loop-i-init : goal.loop-i-init
loop-i-init g c =
    λ test h. search_start test _

pub returns-then-not-fits : goal.returns-then-not-fits
returns-then-not-fits g c =
    λ test h.
    let there : c.loop-i.i < count_of c.args.file.now.bytes.now c.args.k = omega (arith, c.count_of-i-end.ensures.0) in
    lowest_here c.args.file.now.bytes.now c.args.k test c.loop-i.i c.record_at.result (found_fail test (first_out_of test 0 (count_of c.args.file.now.bytes.now c.args.k)) c.loop-i.i (count_of c.args.file.now.bytes.now c.args.k) (c.loop-i.invariant test h) there (sym (h c.loop-i.i c.fits.result there c.fits.ensures) ∙ c.if-not-fits.true)) c.record_at.ensures.0

pub loop-i-preserved : goal.loop-i-preserved
loop-i-preserved g c =
    λ test h.
    let there : c.loop-i.i < count_of c.args.file.now.bytes.now c.args.k = omega (arith, c.count_of-i-end.ensures.0) in
    search_pass test (first_out_of test 0 (count_of c.args.file.now.bytes.now c.args.k)) c.loop-i.i (count_of c.args.file.now.bytes.now c.args.k) (c.loop-i.invariant test h) there (sym (h c.loop-i.i c.fits.result there c.fits.ensures) ∙ c.if-not-fits.false)

pub returns : goal.returns
returns g c =
    λ test h.
    let past : count_of c.args.file.now.bytes.now c.args.k ≤ c.loop-i.i = omega (arith, c.count_of-i-end.ensures.0) in
    lowest_none c.args.file.now.bytes.now c.args.k test (found_end test (first_out_of test 0 (count_of c.args.file.now.bytes.now c.args.k)) c.loop-i.i (count_of c.args.file.now.bytes.now c.args.k) (c.loop-i.invariant test h) past)
