use mathlib.Core.Path.{refl}
use Rattle.moves.proofs.Laws.{performs_as}
use Rattle.moves.proofs.Ready.{let_part}
use Rattle.choices.proofs.NodeLaws.{words}
use Rattle.choices.proofs.WakeLaws as laws
use Rattle.moves.specs.Performs.{performs_still}
use Rattle.choices.proofs.nodes.wake.Goals as goal

pub bind_value-requires : goal.bind_value-requires
bind_value-requires c =
    let view = laws.let_view (words c.kind_at.ensures c.node_word-x.ensures.0 c.node_word-y.ensures.0 c.node_word-z.ensures.0) c.in-Let.is in
    record { at_typed_frame = c.requires.at_typed_frame; first_bound = (let_part _ _ _ _ c.args.code.now.script.within_layout c.requires.node_bound.0 view, c.requires.node_bound.1 _ _ _ view) }

pub returns-in-Update : goal.returns-in-Update
returns-in-Update c =
    record { wakes = λ c₀ p rest g fs own h. laws.wakes_write _ c₀ _ fs _ _ (words c.kind_at.ensures c.node_word-x.ensures.0 c.node_word-y.ensures.0 c.node_word-z.ensures.0) c.in-Update.is (c.store_value.ensures rest c₀.stores g fs h.seen own); table_unchanged = refl }

pub returns-in-Call : goal.returns-in-Call
returns-in-Call c =
    record { wakes = λ c₀ p rest g fs own h. laws.wakes_call _ c₀ _ fs _ _ (words c.kind_at.ensures c.node_word-x.ensures.0 c.node_word-y.ensures.0 c.node_word-z.ensures.0) h.represents c.in-Call.is (c.enter_method.ensures rest c₀.stores g fs h.seen); table_unchanged = refl }

pub returns-in-Let : goal.returns-in-Let
returns-in-Let c =
    record { wakes = λ c₀ p rest g fs own h. laws.wakes_let _ c₀ _ fs _ _ (words c.kind_at.ensures c.node_word-x.ensures.0 c.node_word-y.ensures.0 c.node_word-z.ensures.0) h.represents c.in-Let.is (c.bind_value.ensures.performs rest c₀.stores fs g h.seen); table_unchanged = c.bind_value.ensures.table_unchanged }

pub returns-in_default : goal.returns-in_default
returns-in_default c =
    record { wakes = λ c₀ p rest g fs own h. performs_as (laws.wakes_none _ c₀ _ fs _ _ (words c.kind_at.ensures c.node_word-x.ensures.0 c.node_word-y.ensures.0 c.node_word-z.ensures.0) c.in_default.not-Update c.in_default.not-Call c.in_default.not-Let) performs_still; table_unchanged = refl }
