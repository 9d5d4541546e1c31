use mathlib.Core.Path.{◌≡◌, refl, sym, ap, ◌∙◌}
use mathlib.Core.Logic.{⊎_elim}
use native.Mathlib.Omega.{arith}
use Rattle.script.proofs.Reading.{second}
use Rattle.script.specs.declared.Kind.TheVariants.{Null, Unknown}
use Rattle.inference.specs.declared.Given.TheVariants.{Typed}
use Rattle.inference.specs.Given.{given_by}
use Rattle.inference.proofs.InferLaws as laws
use Rattle.inference.proofs.expressions.+walk.Goals as goal

pub check_part-infer_var-requires : goal.check_part-infer_var-requires
check_part-infer_var-requires t c =
    laws.var_target (laws.at c.args.code.now c.requires) (sym c.kind_at.ensures ∙ c.in-Variable.is)

pub check_part-returns-in_err-u-clause-checked : goal.check_part-returns-in_err-u-clause-checked
check_part-returns-in_err-u-clause-checked t c =
    let a = laws.at c.args.code.now c.requires in let k = sym c.kind_at.ensures ∙ c.in-Variable.is in
    rw (laws.exit _ c.from_residual.ensures.1) ((laws.given_fault _ _ (laws.at_plain a _ k refl refl (laws.at_var a _ k c.infer_var.ensures)) _ (ap (given_by _) c.in_err-u.was)).1 _)

pub check_part-returns-clause-checked : goal.check_part-returns-clause-checked
check_part-returns-clause-checked t c =
    let a = laws.at c.args.code.now c.requires in let k = sym c.kind_at.ensures ∙ c.in-Variable.is in
    laws.given_checked _ _ (laws.at_plain a _ k refl refl (laws.at_var a _ k c.infer_var.ensures)) (Typed c.in_ok-u.u c.args.n) _ (ap (given_by _) c.in_ok-u.was) c.given_fits.ensures

pub infer-infer_var-requires : goal.infer-infer_var-requires
infer-infer_var-requires t c =
    laws.var_target (laws.at c.args.code.now c.requires) (sym c.kind_at.ensures ∙ c.in-Variable.is)

pub infer-infer_select-requires : goal.infer-infer_select-requires
infer-infer_select-requires t c =
    laws.select_target_lem (laws.at c.args.code.now c.requires) (sym c.kind_at.ensures ∙ c.in-Select.is)

pub infer-infer_add-requires : goal.infer-infer_add-requires
infer-infer_add-requires t c =
    laws.add_targets (laws.at c.args.code.now c.requires) (sym c.kind_at.ensures ∙ c.in-Sum.is)

pub infer-returns-in-Variable-clause-given_as : goal.infer-returns-in-Variable-clause-given_as
infer-returns-in-Variable-clause-given_as t c =
    let a = laws.at c.args.code.now c.requires in let k = sym c.kind_at.ensures ∙ c.in-Variable.is in rw c.given_by.ensures (laws.at_plain a _ k refl refl (laws.at_var a _ k c.infer_var.ensures))

pub infer-returns-in-Select-clause-given_as : goal.infer-returns-in-Select-clause-given_as
infer-returns-in-Select-clause-given_as t c =
    let a = laws.at c.args.code.now c.requires in let k = sym c.kind_at.ensures ∙ c.in-Select.is in rw c.given_by-in-Select.ensures (laws.at_plain a _ k refl refl (laws.at_select a _ k c.infer_select.ensures))

pub infer-returns-in-Update-clause-given_as : goal.infer-returns-in-Update-clause-given_as
infer-returns-in-Update-clause-given_as t c =
    let a = laws.at c.args.code.now c.requires in rw c.given_by-in-Update.ensures (laws.at_plain a _ (sym c.kind_at.ensures ∙ c.in-Update.is) refl refl c.infer_update.ensures.inferred)

pub infer-returns-in-Call-clause-given_as : goal.infer-returns-in-Call-clause-given_as
infer-returns-in-Call-clause-given_as t c =
    let a = laws.at c.args.code.now c.requires in rw c.given_by-in-Call.ensures (laws.at_plain a _ (sym c.kind_at.ensures ∙ c.in-Call.is) refl refl c.infer_call.ensures.inferred)

pub infer-returns-in-New-clause-given_as : goal.infer-returns-in-New-clause-given_as
infer-returns-in-New-clause-given_as t c =
    let a = laws.at c.args.code.now c.requires in let k = sym c.kind_at.ensures ∙ c.in-New.is in laws.at_plain a _ k refl refl (laws.at_new a _ k c.node_word.ensures.0)

pub infer-returns-in-Cast-clause-given_as : goal.infer-returns-in-Cast-clause-given_as
infer-returns-in-Cast-clause-given_as t c =
    let a = laws.at c.args.code.now c.requires in rw c.given_by-in-Cast.ensures (laws.at_plain a _ (sym c.kind_at.ensures ∙ c.in-Cast.is) refl refl c.infer_cast.ensures.inferred)

pub infer-returns-in-Constant-clause-given_as : goal.infer-returns-in-Constant-clause-given_as
infer-returns-in-Constant-clause-given_as t c =
    let a = laws.at c.args.code.now c.requires in let k = sym c.kind_at.ensures ∙ c.in-Constant.is in laws.at_plain a _ k refl refl (laws.at_constant a _ k c.int_of.ensures.0)

pub infer-returns-in-Sum-clause-given_as : goal.infer-returns-in-Sum-clause-given_as
infer-returns-in-Sum-clause-given_as t c =
    let a = laws.at c.args.code.now c.requires in let k = sym c.kind_at.ensures ∙ c.in-Sum.is in rw c.given_by-in-Sum.ensures (laws.at_plain a _ k refl refl (laws.at_add a _ k c.infer_add.ensures))

pub infer-returns-in-Null-clause-given_as : goal.infer-returns-in-Null-clause-given_as
infer-returns-in-Null-clause-given_as t c =
    let a = laws.at c.args.code.now c.requires in
    ⊎_elim (λ (e : c.kind_at.result ≡ Null). laws.at_null a _ (sym c.kind_at.ensures ∙ e) refl) (λ (e : c.kind_at.result ≡ Unknown). laws.at_null a _ (sym c.kind_at.ensures ∙ e) refl) c.in-Null.is

pub infer_call-infer_var-requires : goal.infer_call-infer_var-requires
infer_call-infer_var-requires t c =
    laws.call_target_lem (laws.at c.args.code.now c.requires.0) c.requires.1

pub infer_call-returns-in_err-t-clause-inferred : goal.infer_call-returns-in_err-t-clause-inferred
infer_call-returns-in_err-t-clause-inferred t c =
    rw (laws.exit _ c.from_residual.ensures.1) (laws.call_unbound (laws.at c.args.code.now c.requires.0) c.requires.1 _ c.infer_var.ensures _ c.in_err-t.was)

pub infer_call-returns-in_err-types-clause-inferred : goal.infer_call-returns-in_err-types-clause-inferred
infer_call-returns-in_err-types-clause-inferred t c =
    let m = laws.missing _ _ (sym c.ok_or.ensures.value ∙ c.in_err-types.was) in
    rw (laws.exit _ c.from_residual-in_err-types.ensures.1, m.1) (laws.call_missing (laws.at c.args.code.now c.requires.0) c.requires.1 _ c.infer_var.ensures _ _ _ c.in_ok-t.was c.node_word-m.ensures.0 c.method_of.ensures m.0)

pub infer_call-returns-in_err-check_part-clause-inferred : goal.infer_call-returns-in_err-check_part-clause-inferred
infer_call-returns-in_err-check_part-clause-inferred t c =
    rw (laws.exit _ c.from_residual-in_err-check_part.ensures.1) (laws.call_argument (laws.at c.args.code.now c.requires.0) c.requires.1 _ c.infer_var.ensures _ _ _ c.in_ok-t.was c.node_word-m.ensures.0 c.method_of.ensures _ _ _ (laws.present _ _ (sym c.ok_or.ensures.value ∙ c.in_ok-types.was)) c.node_word-argument.ensures.0 c.check_part.ensures.checked _ c.in_err-check_part.was)

pub infer_call-returns-clause-inferred : goal.infer_call-returns-clause-inferred
infer_call-returns-clause-inferred t c =
    laws.call_done (laws.at c.args.code.now c.requires.0) c.requires.1 _ c.infer_var.ensures _ _ _ c.in_ok-t.was c.node_word-m.ensures.0 c.method_of.ensures _ _ _ (laws.present _ _ (sym c.ok_or.ensures.value ∙ c.in_ok-types.was)) c.node_word-argument.ensures.0 c.check_part.ensures.checked _ c.in_ok-check_part.was

pub infer_cast-returns-clause-inferred : goal.infer_cast-returns-clause-inferred
infer_cast-returns-clause-inferred t c =
    laws.at_cast (laws.at c.args.code.now c.requires.0) _ _ _ c.requires.1 c.node_word-t.ensures.0 c.node_word-operand.ensures.0 c.check_part.ensures.checked

pub infer_fork-bounds-code-n : goal.infer_fork-bounds-code-n
infer_fork-bounds-code-n t c =
    let a = laws.at c.args.code.now c.requires.0 in omega (arith, laws.fact_there a.known a.within a.there)

pub infer_fork-returns-then-code-n-eq1-clause-given_as : goal.infer_fork-returns-then-code-n-eq1-clause-given_as
infer_fork-returns-then-code-n-eq1-clause-given_as t c =
    laws.fork_shared (laws.at c.args.code.now c.requires.0) c.requires.1 c.if-code-n-eq1.true

pub infer_fork-returns-in_err-infer_type-clause-given_as : goal.infer_fork-returns-in_err-infer_type-clause-given_as
infer_fork-returns-in_err-infer_type-clause-given_as t c =
    rw (laws.exit _ c.from_residual.ensures.1) (laws.fork_left (laws.at c.args.code.now c.requires.0) c.requires.1 c.if-code-n-eq1.false _ _ c.node_word-a.ensures.0 c.infer_type.ensures.inferred _ c.in_err-infer_type.was)

pub infer_fork-returns-in_err-infer_type-2-clause-given_as : goal.infer_fork-returns-in_err-infer_type-2-clause-given_as
infer_fork-returns-in_err-infer_type-2-clause-given_as t c =
    rw (laws.exit _ c.from_residual-in_err-infer_type-2.ensures.1) (laws.fork_right (laws.at c.args.code.now c.requires.0) c.requires.1 c.if-code-n-eq1.false _ _ c.node_word-a.ensures.0 c.infer_type.ensures.inferred _ c.in_ok-infer_type.was _ _ c.node_word-b.ensures.0 (laws.same_table _ _ _ _ c.infer_type.ensures.env_unchanged c.infer_type-2.ensures.inferred) _ c.in_err-infer_type-2.was)

pub infer_fork-returns-clause-given_as : goal.infer_fork-returns-clause-given_as
infer_fork-returns-clause-given_as t c =
    laws.fork_last (laws.at c.args.code.now c.requires.0) c.requires.1 c.if-code-n-eq1.false _ _ c.node_word-a.ensures.0 c.infer_type.ensures.inferred _ c.in_ok-infer_type.was _ _ c.node_word-b.ensures.0 (laws.same_table _ _ _ _ c.infer_type.ensures.env_unchanged c.infer_type-2.ensures.inferred) _ _ _ c.in_ok-infer_type-2.was c.node_word-c.ensures.0 (laws.same_env _ _ _ _ (c.infer_type-2.ensures.env_unchanged ∙ c.infer_type.ensures.env_unchanged) c.infer.ensures.given_as)

pub infer_let-returns-in_err-t-clause-given_as : goal.infer_let-returns-in_err-t-clause-given_as
infer_let-returns-in_err-t-clause-given_as t c =
    rw (laws.exit _ c.from_residual.ensures.1) (laws.let_first (laws.at c.args.code.now c.requires.0) _ _ c.requires.1 c.node_word-value.ensures.0 c.infer_type.ensures.inferred _ c.in_err-t.was)

pub infer_let-bounds-code-n : goal.infer_let-bounds-code-n
infer_let-bounds-code-n t c =
    let a = laws.at c.args.code.now c.requires.0 in omega (arith, laws.fact_there a.known a.within a.there)

pub infer_let-bounds-env-rank : goal.infer_let-bounds-env-rank
infer_let-bounds-env-rank t c =
    laws.word_there c.infer_type.ensures.env_unchanged (laws.let_there (laws.at c.args.code.now c.requires.0) c.requires.1)

pub infer_let-overflow_add-env : goal.infer_let-overflow_add-env
infer_let-overflow_add-env t c =
    omega (arith, laws.let_small (laws.at c.args.code.now c.requires.0) _ _ c.requires.1 c.node_word-value.ensures.0 c.infer_type.ensures.inferred _ c.in_ok-t.was)

pub infer_let-bounds-env-rank-2 : goal.infer_let-bounds-env-rank-2
infer_let-bounds-env-rank-2 t c =
    laws.word_there c.infer_type.ensures.env_unchanged (laws.let_there (laws.at c.args.code.now c.requires.0) c.requires.1)

pub infer_let-infer-last-requires : goal.infer_let-infer-last-requires
infer_let-infer-last-requires t c =
    let a = laws.at c.args.code.now c.requires.0 in let h = laws.part a _ _ _ c.requires.1 c.node_word-body.ensures.0 second in (omega (arith, h.later, h.there, c.requires.0.there), laws.let_under a _ _ c.requires.1 c.node_word-value.ensures.0 c.infer_type.ensures.inferred _ c.in_ok-t.was _ c.infer_type.ensures.env_unchanged _ h)

pub infer_let-bounds-env-rank-3 : goal.infer_let-bounds-env-rank-3
infer_let-bounds-env-rank-3 t c =
    laws.word_still _ _ c.infer_type.ensures.env_unchanged (laws.let_there (laws.at c.args.code.now c.requires.0) c.requires.1) c.infer-last.ensures.env_unchanged

pub infer_let-returns-clause-given_as : goal.infer_let-returns-clause-given_as
infer_let-returns-clause-given_as t c =
    laws.let_last (laws.at c.args.code.now c.requires.0) _ _ c.requires.1 c.node_word-value.ensures.0 c.infer_type.ensures.inferred _ c.in_ok-t.was _ c.infer_type.ensures.env_unchanged _ _ c.node_word-body.ensures.0 c.infer-last.ensures.given_as

pub infer_let-returns-clause-env_unchanged : goal.infer_let-returns-clause-env_unchanged
infer_let-returns-clause-env_unchanged t c =
    laws.word_back _ _ c.infer_type.ensures.env_unchanged c.infer-last.ensures.env_unchanged

pub infer_lock-lock_target-requires : goal.infer_lock-lock_target-requires
infer_lock-lock_target-requires t c =
    laws.lock_target_lem (laws.at c.args.code.now c.requires.0) c.requires.1

pub infer_lock-returns-in_err-lock_target-clause-given_as : goal.infer_lock-returns-in_err-lock_target-clause-given_as
infer_lock-returns-in_err-lock_target-clause-given_as t c =
    rw (laws.exit _ c.from_residual.ensures.1) (laws.lock_unbound (laws.at c.args.code.now c.requires.0) c.requires.1 _ c.lock_target.ensures _ c.in_err-lock_target.was)

pub infer_lock-returns-clause-given_as : goal.infer_lock-returns-clause-given_as
infer_lock-returns-clause-given_as t c =
    laws.lock_part (laws.at c.args.code.now c.requires.0) c.requires.1 _ c.lock_target.ensures _ _ _ c.in_ok-lock_target.was c.node_word-part.ensures.0 c.infer.ensures.given_as

pub infer_update-infer_select-requires : goal.infer_update-infer_select-requires
infer_update-infer_select-requires t c =
    laws.update_target_lem (laws.at c.args.code.now c.requires.0) c.requires.1

pub infer_update-returns-in_err-t-clause-inferred : goal.infer_update-returns-in_err-t-clause-inferred
infer_update-returns-in_err-t-clause-inferred t c =
    rw (laws.exit _ c.from_residual.ensures.1) (laws.update_field (laws.at c.args.code.now c.requires.0) c.requires.1 _ c.infer_select.ensures _ c.in_err-t.was)

pub infer_update-returns-in_err-check_part-clause-inferred : goal.infer_update-returns-in_err-check_part-clause-inferred
infer_update-returns-in_err-check_part-clause-inferred t c =
    rw (laws.exit _ c.from_residual-in_err-check_part.ensures.1) (laws.update_value (laws.at c.args.code.now c.requires.0) c.requires.1 _ c.infer_select.ensures _ _ _ c.in_ok-t.was c.node_word-value.ensures.0 c.check_part.ensures.checked _ c.in_err-check_part.was)

pub infer_update-returns-clause-inferred : goal.infer_update-returns-clause-inferred
infer_update-returns-clause-inferred t c =
    laws.update_done (laws.at c.args.code.now c.requires.0) c.requires.1 _ c.infer_select.ensures _ _ _ c.in_ok-t.was c.node_word-value.ensures.0 c.check_part.ensures.checked _ c.in_ok-check_part.was
