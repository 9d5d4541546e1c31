use Rattle.moves.proofs.Laws.{performs_as}
use Rattle.moves.proofs.TargetLaws as targets
use Rattle.moves.specs.Performs.{performs_still}
use Rattle.machine.specs.Config.{code_of}
use Rattle.methods.proofs.methods.enter_method.Goals as goal

pub returns-in_default : goal.returns-in_default
returns-in_default c =
    λ rest st g fs s. performs_as (targets.no_target (targets.calls (code_of c.args.script.now.bytes.now) st fs _ _ _) (c.target_of.ensures _ rest st _ s) c.in_default.is) performs_still

pub returns-in_default-value : goal.returns-in_default-value
returns-in_default-value c =
    λ rest st g fs s. performs_as (targets.null_target (targets.calls (code_of c.args.script.now.bytes.now) st fs _ _ _) (c.target_of.ensures _ rest st _ s) c.in-Some.is c.in_default-value.not-Ref) (c.fails.ensures rest st _ s)

pub call_object-requires : goal.call_object-requires
call_object-requires c =
    (c.requires.frame, (targets.found_below c.requires.frame.here.seen (targets.object_found (c.target_of.ensures _ _ _ _ c.requires.frame.here.seen) c.in-Some.is c.in-Ref.is)).0)

pub returns : goal.returns
returns c =
    λ rest st g fs s. performs_as (targets.object_target (targets.calls (code_of c.args.script.now.bytes.now) st fs _ _ _) (c.target_of.ensures _ rest st _ s) c.in-Some.is c.in-Ref.is) (c.call_object.ensures rest st g fs s)
