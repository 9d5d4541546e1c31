use Rattle.members.proofs.MemberLaws.{word_at, meaning_missing, meaning_types, method_missing, method_types, method_neither}
use Rattle.subtypes.proofs.SubtypeLaws.{laid}
use Rattle.members.proofs.LookupLaws.{own_there}
use Rattle.subtypes.proofs.SubtypeLaws.{interface_there, class_there}
use Rattle.script.specs.declared.Section.TheVariants.{Methods as methods}
use native.Mathlib.Omega.{arith}
use Rattle.members.proofs.lookup.method_of.Goals as goal

pub meaning_in-word-requires : goal.meaning_in-word-requires
meaning_in-word-requires c =
    (interface_there c.declared_as.ensures c.in-Interface.is).0

pub returns-then-word-eq0 : goal.returns-then-word-eq0
returns-then-word-eq0 c =
    meaning_missing c.declared_as.ensures _ c.in-Interface.is c.meaning_in-word.ensures c.if-word-eq0.true

pub types_at-requires : goal.types_at-requires
types_at-requires c =
    (laid c.args.script.now.within_layout, (word_at c.meaning_in-word.ensures c.if-word-eq0.false).0, omega arith)

pub find_own-requires : goal.find_own-requires
find_own-requires c =
    (class_there c.declared_as.ensures c.in-Class.is).0

pub returns-in_err-j-in-Class : goal.returns-in_err-j-in-Class
returns-in_err-j-in-Class c =
    rw c.from_residual.ensures (method_missing c.declared_as.ensures _ c.in-Class.is _ c.find_own.ensures c.in_err-j-in-Class.was)

pub types_at-requires-in-Class : goal.types_at-requires-in-Class
types_at-requires-in-Class c =
    (laid c.args.script.now.within_layout, own_there c.args.script.now.within_layout methods _ _ _ _ (class_there c.declared_as.ensures c.in-Class.is).0 c.find_own.ensures c.in_ok-j-in-Class.was, omega arith)

pub returns-else-word-eq0 : goal.returns-else-word-eq0
returns-else-word-eq0 c =
    meaning_types c.declared_as.ensures _ c.in-Interface.is c.meaning_in-word.ensures _ c.if-word-eq0.false c.types_at.ensures

pub returns-in_ok-j-in-Class : goal.returns-in_ok-j-in-Class
returns-in_ok-j-in-Class c =
    method_types c.declared_as.ensures _ c.in-Class.is _ c.find_own.ensures _ _ c.in_ok-j-in-Class.was c.types_at-in-Class.ensures

pub returns-in-Neither : goal.returns-in-Neither
returns-in-Neither c =
    method_neither c.declared_as.ensures _ c.in-Neither.is
