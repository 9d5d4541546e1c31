use native.Mathlib.Omega.{arith}
use mathlib.Core.Path.{◌≡◌, ap}
use Prim.Native.Nat.{◌+◌, ◌-◌}
use Rattle.block.specs.declared.Area.TheVariants.{Positions, Frames}
use Rattle.state.specs.Positions.{entry_at}
use Rattle.state.proofs.Seeing.{seen_length, seen_few, seen_inside, waiting_few}
use Rattle.state.proofs.Moves.{top_read}
use Rattle.state.proofs.part.top_frame.Goals as goal

pub frames_before-requires : goal.frames_before-requires
frames_before-requires c =
    (omega (arith, seen_inside c.requires.0.seen), seen_few c.requires.0.seen Positions)

pub overflow_add-frames_before : goal.overflow_add-frames_before
overflow_add-frames_before c =
    omega (arith, waiting_few c.requires.0.seen, c.frames_before.ensures, c.frames_at-left.ensures, seen_few c.requires.0.seen Frames)

pub frame-requires : goal.frame-requires
frame-requires c =
    omega (arith, waiting_few c.requires.0.seen, c.frames_before.ensures, c.frames_at-left.ensures, c.requires.1, seen_few c.requires.0.seen Frames)

pub returns : goal.returns
returns c =
    λ x st u f fs e s.
    let n = c.frames_at-left.result - 1 in
    let m : n + 1 ≡ (entry_at c.args.block.now c.args.i).frames = omega (arith, c.frames_at-left.ensures, c.requires.1) in
    top_read _ n m (ap (λ r. r + n) c.frames_before.ensures) c.frame.ensures e s
