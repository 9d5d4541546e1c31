use native.Mathlib.Omega.{arith}
use Prim.Native.Nat.{ℕ, ◌+◌, ◌*◌, ◌≤◌}
use Rattle.block.specs.Layout.{END, most}
use Rattle.in_order.proofs.ZeroLaws as laws
use Rattle.in_order.proofs.blanks.blank.Goals as goal

pub overflow_mul-wide : goal.overflow_mul-wide
overflow_mul-wide c =
    let ends : (n : ℕ) → n ≤ most c.args.a → c.begins_of-first.result + c.width_of-wide.result * n ≤ END = λ n h. laws.records_end c.args.a _ _ c.begins_of-first.ensures c.width_of-wide.ensures n h in
    omega (arith, ends c.count-n.result (omega (arith, c.count-n.ensures.0, c.requires)))

pub overflow_add-first : goal.overflow_add-first
overflow_add-first c =
    let ends : (n : ℕ) → n ≤ most c.args.a → c.begins_of-first.result + c.width_of-wide.result * n ≤ END = λ n h. laws.records_end c.args.a _ _ c.begins_of-first.ensures c.width_of-wide.ensures n h in
    omega (arith, ends c.count-n.result (omega (arith, c.count-n.ensures.0, c.requires)))

pub overflow_mul-wide-2 : goal.overflow_mul-wide-2
overflow_mul-wide-2 c =
    let ends : (n : ℕ) → n ≤ most c.args.a → c.begins_of-first.result + c.width_of-wide.result * n ≤ END = λ n h. laws.records_end c.args.a _ _ c.begins_of-first.ensures c.width_of-wide.ensures n h in
    omega (arith, ends c.most_of-all.result (omega (arith, c.most_of-all.ensures)))

pub overflow_add-first-2 : goal.overflow_add-first-2
overflow_add-first-2 c =
    let ends : (n : ℕ) → n ≤ most c.args.a → c.begins_of-first.result + c.width_of-wide.result * n ≤ END = λ n h. laws.records_end c.args.a _ _ c.begins_of-first.ensures c.width_of-wide.ensures n h in
    omega (arith, ends c.most_of-all.result (omega (arith, c.most_of-all.ensures)))

pub zeros-requires : goal.zeros-requires
zeros-requires c =
    let ends : (n : ℕ) → n ≤ most c.args.a → c.begins_of-first.result + c.width_of-wide.result * n ≤ END = λ n h. laws.records_end c.args.a _ _ c.begins_of-first.ensures c.width_of-wide.ensures n h in omega (arith, ends c.most_of-all.result (omega (arith, c.most_of-all.ensures)))

pub returns : goal.returns
returns c =
    laws.blank_asked c.args.a _ _ c.begins_of-first.ensures c.width_of-wide.ensures c.args.block.now _ _ c.count-n.ensures.0 c.most_of-all.ensures c.zeros.ensures
