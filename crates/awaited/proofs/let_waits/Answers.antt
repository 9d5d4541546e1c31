use Rattle.awaited.proofs.AwaitedLaws as laws
use Rattle.awaited.proofs.ReadyLaws as ready
use Rattle.awaited.proofs.let_waits.Goals as goal

pub infer_under-requires : goal.infer_under-requires
infer_under-requires c =
    let w = c.args.code.now.script.within_layout in
    let y = c.requires.scoped_block in
    record { blank = (c.requires.blank, c.requires.node_under.0.node); chain = (ready.chain w y _ c.requires.node_under.0.environment, ready.typed w y, ready.well w y _) }

pub returns-in_err-g-clause-waits_as : goal.returns-in_err-g-clause-waits_as
returns-in_err-g-clause-waits_as c =
    let w = c.args.code.now.script.within_layout in
    let under = ready.scoped_at w c.requires.scoped_block c.requires.node_under.0 in
    let no = laws.was_err _ _ c.ok.ensures.value c.in_err-g.was in
    rw c.from_residual.ensures (laws.let_faulty w under c.requires.node_under.1 _ c.infer_under.ensures.given_in no.0 no.1, laws.never_small)

pub first_type-requires-clause-blank : goal.first_type-requires-clause-blank
first_type-requires-clause-blank c =
    let w = c.args.code.now.script.within_layout in
    let under = ready.scoped_at w c.requires.scoped_block c.requires.node_under.0 in
    (rw c.infer_under.ensures.table_unchanged c.requires.blank, laws.first_there w under c.requires.node_under.1 c.node_word-a.ensures.0)

pub first_type-requires-clause-chain : goal.first_type-requires-clause-chain
first_type-requires-clause-chain c =
    let w = c.args.code.now.script.within_layout in
    let y = c.requires.scoped_block in
    (ready.chain w y _ c.requires.node_under.0.environment, ready.typed w y, ready.well w y _)

pub first_type-requires-clause-inferable : goal.first_type-requires-clause-inferable
first_type-requires-clause-inferable c =
    let w = c.args.code.now.script.within_layout in
    let under = ready.scoped_at w c.requires.scoped_block c.requires.node_under.0 in
    laws.first_inferable w under c.requires.node_under.1 _ c.infer_under.ensures.given_in _ (laws.was_ok _ _ _ c.ok.ensures.value c.in_ok-g.was) _ c.node_word-a.ensures.0

pub returns-in_err-t-clause-waits_as : goal.returns-in_err-t-clause-waits_as
returns-in_err-t-clause-waits_as c =
    let w = c.args.code.now.script.within_layout in
    let under = ready.scoped_at w c.requires.scoped_block c.requires.node_under.0 in
    let so = laws.was_ok _ _ _ c.ok.ensures.value c.in_ok-g.was in
    let no = laws.was_err _ _ c.ok-2.ensures.value c.in_err-t.was in
    rw c.from_residual-in_err-t.ensures
    (laws.first_faulty w under c.requires.node_under.1 _ c.infer_under.ensures.given_in _ so _ c.node_word-a.ensures.0 _ c.first_type.ensures.value no.0 no.1, laws.never_small)

pub returns-clause-waits_as : goal.returns-clause-waits_as
returns-clause-waits_as c =
    let w = c.args.code.now.script.within_layout in
    let under = ready.scoped_at w c.requires.scoped_block c.requires.node_under.0 in
    let so = laws.was_ok _ _ _ c.ok.ensures.value c.in_ok-g.was in
    let first = laws.was_ok _ _ _ c.ok-2.ensures.value c.in_ok-t.was in (
      laws.let_waits w under c.requires.node_under.1 _ c.infer_under.ensures.given_in _ so _ c.node_word-a.ensures.0 _ c.first_type.ensures.value _ first _ c.waits_by.ensures,
      laws.let_small w under c.requires.node_under.1 _ c.infer_under.ensures.given_in _ so _ _ c.waits_by.ensures,
    )
