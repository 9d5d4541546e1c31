use mathlib.Core.Logic.{⊎_elim}
use Rattle.choices.proofs.NodeLaws as laws
use Rattle.choices.proofs.nodes.run_node.Goals as goal

pub give_value-requires : goal.give_value-requires
give_value-requires c =
    (c.requires.there.1, c.requires.chain.0, c.requires.chain.1)

pub returns-in-Variable : goal.returns-in-Variable
returns-in-Variable c =
    λ c₀ p rest fs own h. laws.at_var _ c₀ p fs _ _ (laws.words c.kind_at.ensures c.node_word-x.ensures.0 c.node_word-y.ensures.0 c.node_word-z.ensures.0) c.in-Variable.is (c.give_value.ensures rest c₀.stores _ fs h.seen)

pub returns-in-Select : goal.returns-in-Select
returns-in-Select c =
    λ c₀ p rest fs own h. laws.at_select _ c₀ p fs _ _ (laws.words c.kind_at.ensures c.node_word-x.ensures.0 c.node_word-y.ensures.0 c.node_word-z.ensures.0) c.in-Select.is (c.read_field.ensures rest c₀.stores _ fs own h.seen)

pub returns-in-Update : goal.returns-in-Update
returns-in-Update c =
    λ c₀ p rest fs own h. ⊎_elim (λ k. laws.at_update _ c₀ p fs _ _ (laws.words c.kind_at.ensures c.node_word-x.ensures.0 c.node_word-y.ensures.0 c.node_word-z.ensures.0) h.represents k (c.leave_frame.ensures rest c₀.stores _ fs h.seen)) (λ k. laws.at_call _ c₀ p fs _ _ (laws.words c.kind_at.ensures c.node_word-x.ensures.0 c.node_word-y.ensures.0 c.node_word-z.ensures.0) h.represents k (c.leave_frame.ensures rest c₀.stores _ fs h.seen)) c.in-Update.is

pub returns-in-Let : goal.returns-in-Let
returns-in-Let c =
    λ c₀ p rest fs own h. laws.at_let _ c₀ p fs _ _ (laws.words c.kind_at.ensures c.node_word-x.ensures.0 c.node_word-y.ensures.0 c.node_word-z.ensures.0) h.represents c.in-Let.is (c.leave_frame-in-Let.ensures rest c₀.stores _ fs h.seen)

pub returns-in-New : goal.returns-in-New
returns-in-New c =
    λ c₀ p rest fs own h. laws.at_new _ c₀ p fs _ _ (laws.words c.kind_at.ensures c.node_word-x.ensures.0 c.node_word-y.ensures.0 c.node_word-z.ensures.0) h.represents c.in-New.is (c.make_object.ensures rest c₀.stores _ _ fs h.seen)

pub returns-in-Cast : goal.returns-in-Cast
returns-in-Cast c =
    λ c₀ p rest fs own h. laws.at_cast _ c₀ p fs _ _ (laws.words c.kind_at.ensures c.node_word-x.ensures.0 c.node_word-y.ensures.0 c.node_word-z.ensures.0) h.represents c.in-Cast.is (c.leave_frame-in-Cast.ensures rest c₀.stores _ fs h.seen)

pub returns-in-Fork : goal.returns-in-Fork
returns-in-Fork c =
    λ c₀ p rest fs own h. laws.at_fork _ c₀ p fs _ _ (laws.words c.kind_at.ensures c.node_word-x.ensures.0 c.node_word-y.ensures.0 c.node_word-z.ensures.0) c.in-Fork.is (c.become_join.ensures c₀ rest c₀.stores _ fs h.represents h.seen)

pub returns-in-Lock : goal.returns-in-Lock
returns-in-Lock c =
    λ c₀ p rest fs own h. laws.at_lock _ c₀ p fs _ _ (laws.words c.kind_at.ensures c.node_word-x.ensures.0 c.node_word-y.ensures.0 c.node_word-z.ensures.0) h.represents c.in-Lock.is (c.enter_lock.ensures c₀ p rest _ fs h)

pub returns-in-Constant : goal.returns-in-Constant
returns-in-Constant c =
    λ c₀ p rest fs own h. laws.at_constant _ c₀ p fs _ _ (laws.words c.kind_at.ensures c.node_word-x.ensures.0 c.node_word-y.ensures.0 c.node_word-z.ensures.0) c.in-Constant.is (c.become_number.ensures rest c₀.stores _ _ fs h.seen)

pub returns-in-Sum : goal.returns-in-Sum
returns-in-Sum c =
    λ c₀ p rest fs own h. laws.at_add _ c₀ p fs _ _ (laws.words c.kind_at.ensures c.node_word-x.ensures.0 c.node_word-y.ensures.0 c.node_word-z.ensures.0) c.in-Sum.is (c.add_variables.ensures rest c₀.stores _ fs h.seen)

pub returns-in-Null : goal.returns-in-Null
returns-in-Null c =
    λ c₀ p rest fs own h. laws.at_null _ c₀ p fs _ _ (laws.words c.kind_at.ensures c.node_word-x.ensures.0 c.node_word-y.ensures.0 c.node_word-z.ensures.0) c.in-Null.is (c.become_null.ensures rest c₀.stores _ _ fs h.seen)
