use mathlib.Core.Path.{refl}
use native.Mathlib.Omega.{arith}
use Rattle.sections.specs.Laid.{name_of, new_in}
use Rattle.sections.proofs.Search.{search_pass, found_end, found_fail, name_old, name_new}
use Rattle.records.proofs.names.repeated_in.Goals as goal

pub loop-i-init : goal.loop-i-init
loop-i-init c =
    (omega arith, c.requires.0, refl)

pub returns-in-Some : goal.returns-in-Some
returns-in-Some c =
    found_fail (new_in (name_of c.args.file.now.bytes.now c.args.k) c.args.start) _ _ _ c.loop-i.invariant.2 c.loop-i-test.true (name_old _ _ _ _ _ _ c.record_word-name.ensures.0 c.find_name.ensures _ c.in-Some.is)

pub loop-i-preserved : goal.loop-i-preserved
loop-i-preserved c =
    (omega arith, omega arith, search_pass (new_in (name_of c.args.file.now.bytes.now c.args.k) c.args.start) _ _ _ c.loop-i.invariant.2 c.loop-i-test.true (name_new _ _ _ _ _ _ c.record_word-name.ensures.0 c.find_name.ensures c.in_default.is))

pub returns : goal.returns
returns c =
    found_end (new_in (name_of c.args.file.now.bytes.now c.args.k) c.args.start) _ _ _ c.loop-i.invariant.2 c.loop-i-test.false
