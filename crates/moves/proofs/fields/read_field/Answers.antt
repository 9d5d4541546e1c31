use mathlib.Core.Path.{◌∙◌}
use Rattle.state.proofs.Moves.{lies}
use Rattle.state.proofs.Seeing.{seen_length}
use Rattle.moves.proofs.Laws.{performs_as}
use Rattle.moves.proofs.TargetLaws as targets
use Rattle.moves.proofs.ReadLaws as laws
use Rattle.block.specs.declared.Area.TheVariants.{Objects}
use Rattle.moves.specs.Performs.{performs_still}
use Rattle.machine.specs.Config.{code_of}
use Rattle.moves.proofs.fields.read_field.Goals as goal

pub returns-in_default : goal.returns-in_default
returns-in_default c =
    λ rest st a fs own seen. performs_as (targets.no_target (targets.selects (code_of c.args.script.now.bytes.now) st fs _) (c.target_of.ensures _ rest st _ seen) c.in_default.is) performs_still

pub returns-in_default-value : goal.returns-in_default-value
returns-in_default-value c =
    λ rest st a fs own seen. performs_as (targets.null_target (targets.selects (code_of c.args.script.now.bytes.now) st fs _) (c.target_of.ensures _ rest st _ seen) c.in-Some.is c.in_default-value.not-Ref) (c.fails.ensures rest st _ seen)

pub field_value-requires : goal.field_value-requires
field_value-requires c =
    (targets.found_below c.requires.0.seen (targets.object_found (c.target_of.ensures _ _ _ _ c.requires.0.seen) c.in-Some.is c.in-Ref.is)).1

pub returns-in_default-field_value : goal.returns-in_default-field_value
returns-in_default-field_value c =
    λ rest st a fs own seen.
    let aim = c.target_of.ensures _ rest st _ seen in
    let y = targets.object_found aim c.in-Some.is c.in-Ref.is in
    let field = c.field_value.ensures.value (lies seen) y.object seen.block seen.few (seen.storable Objects) own y.there in
    performs_as (targets.object_target (targets.selects (code_of c.args.script.now.bytes.now) st fs _) aim c.in-Some.is c.in-Ref.is ∙ laws.reads_nothing (code_of c.args.script.now.bytes.now) st fs _ y.object _ y.there field c.in_default-field_value.is) performs_still

pub gives-requires : goal.gives-requires
gives-requires c =
    (c.requires.0, c.field_value.ensures.storable _ c.in-Some-field_value.is)

pub returns : goal.returns
returns c =
    λ rest st a fs own seen.
    let aim = c.target_of.ensures _ rest st _ seen in
    let y = targets.object_found aim c.in-Some.is c.in-Ref.is in
    let field = c.field_value.ensures.value (lies seen) y.object seen.block seen.few (seen.storable Objects) own y.there in
    performs_as (targets.object_target (targets.selects (code_of c.args.script.now.bytes.now) st fs _) aim c.in-Some.is c.in-Ref.is ∙ laws.reads (code_of c.args.script.now.bytes.now) st fs _ y.object _ y.there field _ c.in-Some-field_value.is) (c.gives.ensures _ rest st a _ fs seen)
