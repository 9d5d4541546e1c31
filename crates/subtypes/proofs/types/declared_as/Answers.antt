use Rattle.subtypes.proofs.SubtypeLaws.{declares_unit, declares_interface, declares_class, declares_none}
use Rattle.subtypes.proofs.types.declared_as.Goals as goal

pub returns-then-t-eq0 : goal.returns-then-t-eq0
returns-then-t-eq0 c =
    declares_unit _ _ c.if-t-eq0.true

pub returns-then-i-interfaces : goal.returns-then-i-interfaces
returns-then-i-interfaces c =
    declares_interface _ _ _ c.count_of-interfaces.ensures.0 c.if-t-eq0.false c.if-i-interfaces.true

pub returns-then-c-classes : goal.returns-then-c-classes
returns-then-c-classes c =
    declares_class _ _ _ c.count_of-interfaces.ensures.0 c.if-t-eq0.false c.if-i-interfaces.false _ c.count_of-classes.ensures.0 c.if-c-classes.true

pub returns : goal.returns
returns c =
    declares_none _ _ _ c.count_of-interfaces.ensures.0 c.if-t-eq0.false c.if-i-interfaces.false _ c.count_of-classes.ensures.0 c.if-c-classes.false
