use native.Mathlib.Omega.{arith}
use Prim.Native.Nat.{ℕ, ◌+◌, ◌*◌, ◌≤◌}
use Rattle.block.specs.Layout.{END, width}
use Rattle.in_order.proofs.ZeroLaws as laws
use Rattle.in_order.proofs.blanks.unused.Goals as goal

pub overflow_mul-at : goal.overflow_mul-at
overflow_mul-at c =
    let ends : (k : ℕ) → k ≤ width c.args.a → c.begins_of-first.result + c.width_of-wide.result * c.args.i + k ≤ END = λ k h. laws.record_ends c.args.a _ _ c.begins_of-first.ensures c.width_of-wide.ensures _ k c.requires.0 h in
    omega (arith, ends 0 (omega arith))

pub overflow_add-at : goal.overflow_add-at
overflow_add-at c =
    let ends : (k : ℕ) → k ≤ width c.args.a → c.begins_of-first.result + c.width_of-wide.result * c.args.i + k ≤ END = λ k h. laws.record_ends c.args.a _ _ c.begins_of-first.ensures c.width_of-wide.ensures _ k c.requires.0 h in
    omega (arith, ends 0 (omega arith))

pub overflow_add-at-2 : goal.overflow_add-at-2
overflow_add-at-2 c =
    let ends : (k : ℕ) → k ≤ width c.args.a → c.begins_of-first.result + c.width_of-wide.result * c.args.i + k ≤ END = λ k h. laws.record_ends c.args.a _ _ c.begins_of-first.ensures c.width_of-wide.ensures _ k c.requires.0 h in
    omega (arith, ends c.args.from c.requires.1)

pub overflow_add-at-3 : goal.overflow_add-at-3
overflow_add-at-3 c =
    let ends : (k : ℕ) → k ≤ width c.args.a → c.begins_of-first.result + c.width_of-wide.result * c.args.i + k ≤ END = λ k h. laws.record_ends c.args.a _ _ c.begins_of-first.ensures c.width_of-wide.ensures _ k c.requires.0 h in
    omega (arith, ends c.args.to c.requires.2)

pub zeros-requires : goal.zeros-requires
zeros-requires c =
    let ends : (k : ℕ) → k ≤ width c.args.a → c.begins_of-first.result + c.width_of-wide.result * c.args.i + k ≤ END = λ k h. laws.record_ends c.args.a _ _ c.begins_of-first.ensures c.width_of-wide.ensures _ k c.requires.0 h in omega (arith, ends c.args.to c.requires.2)

pub returns : goal.returns
returns c =
    let args = c.args in
    laws.unused_asked args.a _ _ c.begins_of-first.ensures c.width_of-wide.ensures args.block.now args.i args.from args.to c.zeros.ensures
