use mathlib.Core.Path.{refl, sym, ◌∙◌}
use Rattle.script.specs.Section.{entry_of}
use Rattle.std.proofs.Common.{Some}
use Rattle.bounds.specs.Counting.{entry_begun}
use Rattle.bounds.proofs.Pass.{entry_below, fits}
use Rattle.bounds.proofs.Counters.{entry_upto}
use Rattle.bounds.proofs.PlaceLaws.{start_is}
use Rattle.bounds.proofs.Answers.{going, gone, full, outside, gone_on, gone_past}
use Rattle.bounds.proofs.records.count_records.Goals as goal
use Rattle.bounds.proofs.records.count_records.Goals.{then-is_full-via-then-is_full, then-is_full-via-else-is_full+then-is_outside}

pub loop-i-init : goal.loop-i-init
loop-i-init c =
    going _ _ _ _ c.requires

pub loop-i-preserved-in_default : goal.loop-i-preserved-in_default
loop-i-preserved-in_default c =
    gone_past _ _ _ _ _ _ c.loop-i.invariant c.loop-i-test.true (entry_begun c.section_begun.result) (c.section_begun.ensures, entry_upto _) (rw c.in_default.is)

pub returns-then-is_full-clause-counted_as : goal.returns-then-is_full-clause-counted_as
returns-then-is_full-clause-counted_as c ls s =
    let g = c.loop-i.invariant in
    let h = c.loop-i-test.true in
    elim c.then-is_full.branch [
      | then-is_full-via-then-is_full w ↦ full _ _ _ _ _ _ g h (entry_of c.in-Some.section) (c.in-Some.ensures, entry_upto (Some c.in-Some.section)) (sym c.is_full.ensures ∙ w.if-is_full.true) ls s
      | then-is_full-via-else-is_full+then-is_outside w ↦ outside _ _ _ _ _ _ g h (entry_of c.in-Some.section) (c.in-Some.ensures, entry_upto (Some c.in-Some.section)) _ w.is_outside.ensures w.if-is_outside.true ls s
    ]

pub count_one-requires : goal.count_one-requires
count_one-requires c =
    fits _ _ (entry_below c.in-Some.section) (sym c.is_full.ensures ∙ c.if-is_full.false)

pub loop-i-preserved : goal.loop-i-preserved
loop-i-preserved c =
    gone_on _ _ _ _ _ _ c.loop-i.invariant c.loop-i-test.true (entry_of c.in-Some.section) (c.in-Some.ensures, entry_upto (Some c.in-Some.section)) _ c.is_outside.ensures (sym c.is_full.ensures ∙ c.if-is_full.false) c.if-is_outside.false _ _
    c.count_one.ensures (rw (start_is c.in-Some.section) c.put_place.ensures)

pub returns-clause-counted_as : goal.returns-clause-counted_as
returns-clause-counted_as c ls s =
    gone _ _ _ _ _ _ c.loop-i.invariant _ c.loop-i-test.false refl ls s
