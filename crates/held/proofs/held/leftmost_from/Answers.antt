use mathlib.Core.Path.{sym, ap, ◌∙◌}
use mathlib.Core.Path.{◌≡◌}
use Prim.Native.Nat.{◌+◌, ◌-◌}
use native.Mathlib.Omega.{arith}
use Rattle.tree.specs.declared.Entry.{Entry}
use Rattle.tree.specs.Entries.{beneath_cell}
use Rattle.tree.proofs.Walks.{joins_more, leftmost_stop, leftmost_root}
use Rattle.state.specs.Positions.{entries_in}
use Rattle.state.proofs.Taking.{entry_there}
use Rattle.held.proofs.held.leftmost_from.Goals as goal

pub loop-k-init : goal.loop-k-init
loop-k-init c =
    (omega arith, λ j lo hi. absurd (omega arith))

pub returns-then-beneath_at-eq0 : goal.returns-then-beneath_at-eq0
returns-then-beneath_at-eq0 c =
    let b = c.args.block.now in
    let l = c.loop-k in
    let beneath = c.beneath_at.ensures.0 ∙ ap (λ (x : Entry). beneath_cell x.cell) (sym (entry_there b (l.k - 1) (omega arith))) in
    let e : l.k - 1 + 1 ≡ l.k = omega arith in
    rw e (leftmost_stop (entries_in b) c.args.i l.k l.invariant.0 l.invariant.1 _ (omega arith) beneath c.if-beneath_at-eq0.true)

pub loop-k-preserved : goal.loop-k-preserved
loop-k-preserved c =
    let b = c.args.block.now in
    let l = c.loop-k in
    let beneath = c.beneath_at.ensures.0 ∙ ap (λ (x : Entry). beneath_cell x.cell) (sym (entry_there b (l.k - 1) (omega arith))) in
    (omega arith, joins_more (entries_in b) l.k c.args.i _ (omega arith) l.invariant.1 beneath c.if-beneath_at-eq0.false)

pub returns : goal.returns
returns c =
    let l = c.loop-k in
    let e : l.k ≡ 0 = omega arith in
    rw e at (leftmost_root (entries_in c.args.block.now) c.args.i l.k l.invariant.0 l.invariant.1 e)
