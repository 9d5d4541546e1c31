use mathlib.Core.Path.{sym, ◌∙◌}
use mathlib.Core.Logic.{⊎_elim}
use Rattle.environments.proofs.KnownLaws as laws
use Rattle.environments.proofs.known.known_type.Goals as goal

pub read_type-requires : goal.read_type-requires
read_type-requires c =
    (c.requires.0, sym c.kind_at.ensures ∙ c.in-Select.is)

pub call_type-requires : goal.call_type-requires
call_type-requires c =
    (c.requires.0, sym c.kind_at.ensures ∙ c.in-Call.is, c.requires.1)

pub returns-in-Variable : goal.returns-in-Variable
returns-in-Variable c =
    laws.told_var c.args.script.now.within_layout c.requires.0 _ c.node_word-w.ensures.0 (sym c.kind_at.ensures ∙ c.in-Variable.is) _ c.variable_type.ensures

pub returns-in-Update : goal.returns-in-Update
returns-in-Update c =
    laws.told_write c.args.script.now.within_layout c.requires.0 (sym c.kind_at.ensures ∙ c.in-Update.is) c.requires.1

pub returns-in_default : goal.returns-in_default
returns-in_default c =
    laws.told_nothing _ _ _ _

pub returns-in-New : goal.returns-in-New
returns-in-New c =
    ⊎_elim
    (λ k. laws.told_new c.args.script.now.within_layout c.requires.0 _ c.node_word-w.ensures.0 (sym c.kind_at.ensures ∙ k))
    (λ k. laws.told_cast c.args.script.now.within_layout c.requires.0 _ c.node_word-w.ensures.0 (sym c.kind_at.ensures ∙ k) c.requires.1)
    c.in-New.is

pub returns-in-Constant : goal.returns-in-Constant
returns-in-Constant c =
    ⊎_elim
    (λ k. laws.told_constant c.args.script.now.within_layout c.requires.0 _ c.int_of.ensures.0 (sym c.kind_at.ensures ∙ k))
    (λ k. laws.told_sum c.args.script.now.within_layout c.requires.0 _ c.int_of.ensures.0 (sym c.kind_at.ensures ∙ k) c.requires.1)
    c.in-Constant.is
