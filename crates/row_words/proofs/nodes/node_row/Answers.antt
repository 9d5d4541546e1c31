use mathlib.Core.Path.{◌≡◌, refl, sym, ap, ◌∙◌}
use Prim.Native.Nat.{ℕ, ◌%◌}
use native.Mathlib.Omega.{arith}
use native.Mathlib.Nat.{add-zero}
use lib.ListN.{drop}
use Rattle.rows.specs.Rows.{row_item}
use Rattle.token_words.proofs.TokenLaws.{role_in, value_in_lem}
use Rattle.row_words.proofs.NodeLaws.{null_node, variable_node, select_node, update_node, call_node, let_node, new_node, cast_node, fork_node, lock_node}
use Rattle.row_words.proofs.NodeLaws.{integer_node, negative_node, sum_node, sum_in_node}
use Rattle.row_words.proofs.nodes.node_row.Goals as goal

pub returns-in-16 : goal.returns-in-16
returns-in-16 c es m =
    null_node _ _ _ _ (sym (ap (λ (r : ℕ). r % 32) (c.role-role.ensures es m.marks.roled)) ∙ c.in-16.is)

pub returns-in-17 : goal.returns-in-17
returns-in-17 c es m =
    variable_node _ _ _ _ (sym (ap (λ (r : ℕ). r % 32) (c.role-role.ensures es m.marks.roled)) ∙ c.in-17.is) (c.variable_word.ensures es m.marks)

pub returns-in-18 : goal.returns-in-18
returns-in-18 c es m =
    select_node _ _ _ _ (sym (ap (λ (r : ℕ). r % 32) (c.role-role.ensures es m.marks.roled)) ∙ c.in-18.is) (c.variable_word-in-18.ensures es m.marks) (c.value.ensures es m.marks)

pub returns-in-19 : goal.returns-in-19
returns-in-19 c es m =
    update_node _ _ _ _ (sym (ap (λ (r : ℕ). r % 32) (c.role-role.ensures es m.marks.roled)) ∙ c.in-19.is) (c.variable_word-in-19.ensures es m.marks) (c.value-in-19.ensures es m.marks)

pub returns-in-20 : goal.returns-in-20
returns-in-20 c es m =
    call_node _ _ _ _ (sym (ap (λ (r : ℕ). r % 32) (c.role-role.ensures es m.marks.roled)) ∙ c.in-20.is) (c.variable_word-in-20.ensures es m.marks) (c.value-in-20.ensures es m.marks)

pub returns-in-21 : goal.returns-in-21
returns-in-21 c es m =
    c.let_row.ensures ∙ let_node _ _ _ _ (sym (ap (λ (r : ℕ). r % 32) (c.role-role.ensures es m.marks.roled)) ∙ c.in-21.is) (sym (value_in_lem m.marks c.args.from.now.i 1 refl))

pub returns-in-22 : goal.returns-in-22
returns-in-22 c es m =
    new_node _ _ _ _ (sym (ap (λ (r : ℕ). r % 32) (c.role-role.ensures es m.marks.roled)) ∙ c.in-22.is) (c.type_word.ensures es m.marks)

pub returns-in-23 : goal.returns-in-23
returns-in-23 c es m =
    cast_node _ _ _ _ (sym (ap (λ (r : ℕ). r % 32) (c.role-role.ensures es m.marks.roled)) ∙ c.in-23.is) (c.type_word-in-23.ensures es m.marks)

pub returns-in-24 : goal.returns-in-24
returns-in-24 c es m =
    c.fork_row.ensures ∙ fork_node _ _ _ _ (sym (ap (λ (r : ℕ). r % 32) (c.role-role.ensures es m.marks.roled)) ∙ c.in-24.is)

pub returns-in-25 : goal.returns-in-25
returns-in-25 c es m =
    lock_node _ _ _ _ (sym (ap (λ (r : ℕ). r % 32) (c.role-role.ensures es m.marks.roled)) ∙ c.in-25.is) (c.variable_word-in-25.ensures es m.marks)

pub returns-in-26 : goal.returns-in-26
returns-in-26 c es m =
    c.constant_row.ensures ∙ integer_node _ _ _ _ (sym (ap (λ (r : ℕ). r % 32) (c.role-role.ensures es m.marks.roled)) ∙ c.in-26.is) (c.amount.ensures.value es m.amounts)

pub returns-in-29 : goal.returns-in-29
returns-in-29 c es m =
    c.constant_row-in-29.ensures ∙ negative_node _ _ _ _ (sym (ap (λ (r : ℕ). r % 32) (c.role-role.ensures es m.marks.roled)) ∙ c.in-29.is) (c.amount-in-29.ensures.value es m.amounts) c.negated_bits.ensures

pub returns-in-27 : goal.returns-in-27
returns-in-27 c es m =
    c.sum_row.ensures es m.marks ∙ sum_node _ _ _ _ (sym (ap (λ (r : ℕ). r % 32) (c.role-role.ensures es m.marks.roled)) ∙ c.in-27.is)

pub returns-in_default : goal.returns-in_default
returns-in_default c es m =
    let e : (row_item (drop c.args.from.now.i es) 0).role % 32 ≡ c.role-role.result % 32 = sym (ap (λ (r : ℕ). r % 32) (c.role-role.ensures es m.marks.roled)) in
    let f = ap (λ (r : ℕ). r % 32) (role_in m.marks.roled c.args.from.now.i 0 (add-zero _)) in
    c.sum_row-in_default.ensures es m.marks ∙ sum_in_node _ _ _ _ (omega (arith, f)) (λ h. omega arith) (λ h. omega arith)
