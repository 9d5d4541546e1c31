use native.Mathlib.Omega.{arith}
use mathlib.Core.Path.{◌≡◌, ap}
use Prim.Native.Nat.{◌+◌, ◌-◌}
use Rattle.block.specs.declared.Area.TheVariants.{Positions, Frames}
use Rattle.state.specs.Positions.{entry_at}
use Rattle.state.proofs.Seeing.{seen_length, seen_few, seen_inside, seen_room, waiting_few}
use Rattle.state.proofs.Moves.{popped}
use Rattle.state.proofs.part.pop.Goals as goal

pub frames_before-requires : goal.frames_before-requires
frames_before-requires c =
    (omega (arith, seen_inside c.requires.0.seen), seen_few c.requires.0.seen Positions)

pub overflow_add-at : goal.overflow_add-at
overflow_add-at c =
    omega (arith, waiting_few c.requires.0.seen, c.frames_before.ensures, c.frames_at-left.ensures, seen_few c.requires.0.seen Frames)

pub remove_frames-requires : goal.remove_frames-requires
remove_frames-requires c =
    (omega (arith, waiting_few c.requires.0.seen, c.frames_before.ensures, c.frames_at-left.ensures, c.requires.1), seen_few c.requires.0.seen Frames)

pub put_entry-requires : goal.put_entry-requires
put_entry-requires c =
    (seen_room c.requires.0.seen, c.requires.2)

pub returns : goal.returns
returns c =
    λ x st v f fs w one e k s.
    let n = c.frames_at-left.result - 1 in
    let m : n + 1 ≡ (entry_at c.args.block.now c.args.i).frames = omega (arith, c.frames_at-left.ensures, c.requires.1) in
    popped _ n c.args.cell m (ap (λ r. r + n) c.frames_before.ensures) c.remove_frames.ensures c.put_entry.ensures c.requires.2 one e k s
