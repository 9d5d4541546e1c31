use native.Mathlib.Omega.{arith}
use mathlib.Core.Path.{◌≡◌}
use Prim.Native.Nat.{suc, ◌-◌}
use Rattle.script.specs.declared.Section.TheVariants.{Interfaces as interfaces}
use Rattle.subtypes.proofs.SubtypeLaws.{interface_there, class_there, below_interface, below_class, below_neither, below_itself, class_interface}
use Rattle.subtypes.proofs.SubtypeLaws.{laid}
use Rattle.subtypes.proofs.scripts.Script.is_below.Goals as goal

pub returns-then-t-u : goal.returns-then-t-u
returns-then-t-u c =
    below_itself _ _ _ c.if-t-u.true

pub leads-requires : goal.leads-requires
leads-requires c =
    omega (arith, (interface_there c.declared_as.ensures c.in-Interface.is).0, c.args.self.now.within_layout.counts_are.within interfaces)

pub record_word-i-requires : goal.record_word-i-requires
record_word-i-requires c =
    (laid c.args.self.now.within_layout, (class_there c.declared_as.ensures c.in-Class.is).0, omega arith)

pub overflow_sub-i : goal.overflow_sub-i
overflow_sub-i c =
    omega (arith, (class_interface c.args.self.now.within_layout _ _ (class_there c.declared_as.ensures c.in-Class.is).0 c.record_word-i.ensures.0).first)

pub leads-requires-in-Class : goal.leads-requires-in-Class
leads-requires-in-Class c =
    let x = class_interface c.args.self.now.within_layout _ _ (class_there c.declared_as.ensures c.in-Class.is).0 c.record_word-i.ensures.0 in
    omega (arith, x.first, x.last, c.args.self.now.within_layout.counts_are.within interfaces)

pub returns-in-Interface : goal.returns-in-Interface
returns-in-Interface c =
    let d = interface_there c.declared_as.ensures c.in-Interface.is in
    below_interface c.declared_as.ensures _ c.if-t-u.false _ c.in-Interface.is (rw d.1 (c.leads.ensures))

pub returns-in-Class : goal.returns-in-Class
returns-in-Class c =
    let x = class_interface c.args.self.now.within_layout _ _ (class_there c.declared_as.ensures c.in-Class.is).0 c.record_word-i.ensures.0 in
    let e : suc (c.record_word-i.result - 1) ≡ c.record_word-i.result = omega (arith, x.first) in
    below_class c.declared_as.ensures _ c.if-t-u.false _ _ c.in-Class.is c.record_word-i.ensures.0 (rw e at c.leads-in-Class.ensures)

pub returns-in-Neither : goal.returns-in-Neither
returns-in-Neither c =
    below_neither c.declared_as.ensures _ c.if-t-u.false c.in-Neither.is
