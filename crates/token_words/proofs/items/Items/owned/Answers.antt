use mathlib.Core.Logic.{inl, inr}
use native.Mathlib.Omega.{arith}
use Rattle.token_words.proofs.TokenLaws.{members_step, stops_at_end, stops_between, all_members}
use Rattle.token_words.proofs.items.Items.owned.Goals as goal
use Rattle.token_words.proofs.items.Items.owned.Goals.{in-4, in-5, in-3, in_default+then-this-lt1, in_default+else-this-lt1+else-this-lt3}

pub overflow_add-signatures : goal.overflow_add-signatures
overflow_add-signatures c = omega (arith, c.loop-i.invariant.signatures.bound)

pub overflow_add-fields : goal.overflow_add-fields
overflow_add-fields c = omega (arith, c.loop-i.invariant.fields.bound)

pub overflow_add-methods : goal.overflow_add-methods
overflow_add-methods c = omega (arith, c.loop-i.invariant.methods.bound)

pub loop-i-preserved : goal.loop-i-preserved
loop-i-preserved c =
    let n = c.loop-i.invariant in
    let h = c.loop-i-test.true in
    elim c.match-self-i.branch [
      | in-4 w ↦ members_step n h (λ e. omega arith) (λ e. omega arith) (inl (w.in-4.is, w.signatures-is)) (inr ((λ e. omega arith), w.fields-is)) (inr ((λ e. omega arith), w.methods-is))
      | in-5 w ↦ members_step n h (λ e. omega arith) (λ e. omega arith) (inr ((λ e. omega arith), w.signatures-is)) (inl (w.in-5.is, w.fields-is)) (inr ((λ e. omega arith), w.methods-is))
      | in-3 w ↦ members_step n h (λ e. omega arith) (λ e. omega arith) (inr ((λ e. omega arith), w.signatures-is)) (inr ((λ e. omega arith), w.fields-is)) (inl (w.in-3.is, w.methods-is))
      | in_default+then-this-lt1 w ↦ members_step n h (λ e. omega arith) (λ e. omega arith) (inr ((λ e. omega arith), w.signatures-is)) (inr ((λ e. omega arith), w.fields-is)) (inr ((λ e. omega arith), w.methods-is))
      | in_default+else-this-lt1+else-this-lt3 w ↦ members_step n h (λ e. omega arith) (λ e. omega arith) (inr ((λ e. omega arith), w.signatures-is)) (inr ((λ e. omega arith), w.fields-is)) (inr ((λ e. omega arith), w.methods-is))
    ]

pub returns-after-loop-i : goal.returns-after-loop-i
returns-after-loop-i c = all_members c.loop-i.invariant (stops_at_end c.loop-i-test.false)

pub returns-in-1 : goal.returns-in-1
returns-in-1 c = all_members c.loop-i.invariant (stops_between c.loop-i-test.true (omega arith) (omega arith))
