use mathlib.Core.Path.{◌≡◌, refl, sym, ap, ◌∙◌}
use Prim.Native.Nat.{ℕ}
use native.Mathlib.Omega.{arith}
use lib.ListN.{drop}
use Rattle.tree.specs.declared.Entry.{Entry}
use Rattle.tree.specs.Entries.{beneath_cell}
use Rattle.tree.proofs.Trees.{span, span_zero}
use Rattle.tree.proofs.Walks.{walk_turn, walk_end, ends}
use Rattle.state.specs.Positions.{entries_in}
use Rattle.state.proofs.Taking.{entries_many, entry_there}
use Rattle.state.proofs.reading.part_end.Goals as goal

pub loop-p-init : goal.loop-p-init
loop-p-init c =
    (omega (arith, c.count-n.ensures.0), omega arith, refl)

pub returns-then-need-eq0 : goal.returns-then-need-eq0
returns-then-need-eq0 c =
    let b = c.args.block.now in
    let l = c.loop-p in
    ends (entries_in b) c.args.i l.p (omega (arith, entries_many b))
    (omega (arith, l.invariant.2, ap (λ (n : ℕ). span (drop l.p (entries_in b)) n) c.if-need-eq0.true, span_zero (drop l.p (entries_in b))))

pub beneath_at-requires : goal.beneath_at-requires
beneath_at-requires c =
    omega (arith, c.count-n.ensures.0)

pub loop-p-preserved : goal.loop-p-preserved
loop-p-preserved c =
    let b = c.args.block.now in
    let l = c.loop-p in
    let beneath = c.beneath_at.ensures.0 ∙ ap (λ (x : Entry). beneath_cell x.cell) (sym (entry_there b l.p (omega (arith, c.count-n.ensures.0)))) in
    let turn = walk_turn (entries_in b) l.p l.need _ (omega (arith, entries_many b, c.count-n.ensures.0)) c.if-need-eq0.false beneath in
    (omega arith, omega (arith, c.beneath_at.ensures.1), turn ∙ l.invariant.2)

pub returns : goal.returns
returns c =
    let b = c.args.block.now in
    let l = c.loop-p in
    let e : c.count-n.result ≡ l.p = omega arith in
    rw e (ends (entries_in b) c.args.i l.p (omega (arith, entries_many b)) (omega (arith, l.invariant.2, walk_end (entries_in b) l.p l.need (omega (arith, entries_many b, c.count-n.ensures.0)))))
