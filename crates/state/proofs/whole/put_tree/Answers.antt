use native.Mathlib.Omega.{arith}
use mathlib.Core.Path.{◌≡◌, refl}
use Rattle.state.proofs.Putting.{write_none, write_more, written}
use Rattle.state.proofs.whole.put_tree.Goals as goal

pub rows_of-n-requires : goal.rows_of-n-requires
rows_of-n-requires c =
    (c.requires.0, c.requires.1.small)

pub loop-i-init : goal.loop-i-init
loop-i-init c =
    (refl, omega arith, write_none _ c.args.tree)

pub offset_bounds-tree-i : goal.offset_bounds-tree-i
offset_bounds-tree-i c =
    omega (arith, c.rows_of-n.ensures.2)

pub bounds-tree-i : goal.bounds-tree-i
bounds-tree-i c =
    omega (arith, c.rows_of-n.ensures.2)

pub put_row-requires : goal.put_row-requires
put_row-requires c =
    (omega (arith, c.rows_of-n.ensures.2), c.row_at-row.ensures.0)

pub loop-i-preserved : goal.loop-i-preserved
loop-i-preserved c = (
  omega (arith, c.put_row.auto.block),
  omega arith,
  write_more _ c.args.tree _ _ _ _ c.loop-i.invariant.2 (λ ts is. c.row_at-row.ensures.1 c.args.tree ts c.requires.1 is refl refl) c.put_row.ensures,
)

pub returns : goal.returns
returns c =
    let e : c.loop-i.i ≡ c.rows_of-n.result = omega arith in
    written _ c.args.tree _ _ _ c.requires.1 c.rows_of-n.ensures.0 c.rows_of-n.ensures.1 c.rows_of-n.ensures.2 (rw e at c.loop-i.invariant.2) c.put_count.ensures
