use native.Mathlib.Omega.{arith}
use mathlib.Core.Path.{◌≡◌, refl, ap, ◌∙◌}
use mathlib.Core.List.{List}
use Prim.Native.Nat.{ℕ, ◌+◌, ◌*◌}
use lib.ListN.{take}
use lib.Seq.{sets, take_all}
use Rattle.words.specs.Word.{bytes}
use Rattle.block.specs.declared.Area.TheVariants.{Positions}
use Rattle.block.specs.Layout.{width, begins}
use Rattle.state.proofs.Putting.{word_put}
use Rattle.state.proofs.whole.put_row.Goals as goal

pub loop-j-init : goal.loop-j-init
loop-j-init c =
    (refl, omega arith, λ ws is. is)

pub put-requires : goal.put-requires
put-requires c =
    (omega arith, omega arith)

pub loop-j-preserved : goal.loop-j-preserved
loop-j-preserved c = (
  omega (arith, c.put.auto.block),
  omega arith,
  λ ws is. word_put _ _ ws _ _ _ _ c.requires.1 (omega arith) refl (c.loop-j.invariant.2 ws is) c.put.ensures,
)

pub returns : goal.returns
returns c ws is =
    let row = c.args.row in
    let e : c.loop-j.j ≡ width Positions = omega arith in
    c.loop-j.invariant.2 ws is ∙ ap (λ (vs : List ℕ). bytes (sets ws (begins Positions + width Positions * c.args.i) vs)) (ap (λ (k : ℕ). take k row) e ∙ take_all (width Positions) row (omega arith))
