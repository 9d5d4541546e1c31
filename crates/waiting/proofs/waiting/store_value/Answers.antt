use borrow.Author.Rules.{rules}
use mathlib.Core.Path.{refl, ap, ◌∙◌}
use Rattle.machine.specs.declared.Value.TheVariants.{Null as nil}
use Rattle.machine.specs.Config.{returning}
use Rattle.machine.specs.Machine.{update_object}
use Rattle.moves.proofs.Laws.{performs_as}
use Rattle.moves.proofs.TargetLaws as targets
use Rattle.moves.specs.Performs.{performs_still, performs_moved}
use Rattle.machine.specs.Config.{code_of}
use Rattle.waiting.proofs.waiting.store_value.Goals as goal

pub returns-in_default : goal.returns-in_default
returns-in_default c =
    λ rest st g fs s own. performs_as (targets.no_target (targets.updates (code_of c.args.script.now.bytes.now) st fs _ _) (c.target_of.ensures _ rest st _ s) c.in_default.is) performs_still

pub returns-in_default-value : goal.returns-in_default-value
returns-in_default-value c =
    λ rest st g fs s own. performs_as (targets.null_target (targets.updates (code_of c.args.script.now.bytes.now) st fs _ _) (c.target_of.ensures _ rest st _ s) c.in-Some.is c.in_default-value.not-Ref) (c.fails.ensures rest st _ s)

pub write_field-requires : goal.write_field-requires
write_field-requires c =
    ((targets.found_below c.requires.frame.here.seen (targets.object_found (c.target_of.ensures _ _ _ _ c.requires.frame.here.seen) c.in-Some.is c.in-Ref.is)).1, c.requires.frame.word)

pub returns : goal.returns
returns c =
    λ rest st g fs s own.
    let y = targets.object_found (c.target_of.ensures _ rest st _ s) c.in-Some.is c.in-Ref.is in
    performs_as (targets.object_target (targets.updates (code_of c.args.script.now.bytes.now) st fs _ _) (c.target_of.ensures _ rest st _ s) c.in-Some.is c.in-Ref.is ∙ ap (update_object (code_of c.args.script.now.bytes.now) st fs _ _ _) y.there)
    (performs_moved (c.write_field.ensures _ rest st _ y.object (c.pop.ensures rest st _ _ fs (returning nil fs) refl refl refl s) own y.there))
