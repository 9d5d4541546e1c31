use native.Mathlib.Omega.{arith}
use Rattle.script.specs.declared.Section.TheVariants.{Interfaces as interfaces}
use Rattle.subtypes.proofs.SubtypeLaws.{leads_unit, leads_later, led}
use Rattle.subtypes.proofs.RowLaws.{tells_bit}
use Rattle.subtypes.proofs.scripts.Script.leads.Goals as goal

pub returns-then-u-gt-INTERFACES : goal.returns-then-u-gt-INTERFACES
returns-then-u-gt-INTERFACES c =
    let w = c.args.self.now.within_layout in
    leads_later w _ _ c.requires (omega (arith, c.if-u-gt-INTERFACES.true, w.counts_are.within interfaces))

pub returns-then-goal-eq0 : goal.returns-then-goal-eq0
returns-then-goal-eq0 c =
    leads_unit c.args.self.now.within_layout _ _ c.requires (omega (arith, c.if-u-gt-INTERFACES.false, c.if-goal-eq0.true))

pub has_bit-requires : goal.has_bit-requires
has_bit-requires c =
    let s = c.args.self.now in
    (s.starts_are.size, omega (arith, c.requires, s.within_layout.counts_are.within interfaces), omega (arith, c.if-u-gt-INTERFACES.false))

pub returns : goal.returns
returns c =
    led _ _ _ _ _ (omega (arith, c.if-u-gt-INTERFACES.false))
    (tells_bit _ c.args.self.now.starts_are _ _ c.requires _ c.if-goal-eq0.false (omega (arith, c.if-u-gt-INTERFACES.false)) c.has_bit.ensures)
