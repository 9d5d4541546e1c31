use native.Mathlib.Omega.{arith}
use mathlib.Core.Path.{ap}
use Prim.Native.Nat.{◌+◌}
use Rattle.block.specs.declared.Area.TheVariants.{Positions}
use Rattle.state.proofs.Seeing.{seen_length, seen_few, seen_inside, seen_room, waiting_few}
use Rattle.state.proofs.Moves.{pushed}
use Rattle.state.proofs.part.push.Goals as goal

pub frames_before-requires : goal.frames_before-requires
frames_before-requires c =
    (omega (arith, seen_inside c.requires.0.seen), seen_few c.requires.0.seen Positions)

pub overflow_add-at : goal.overflow_add-at
overflow_add-at c =
    omega (arith, waiting_few c.requires.0.seen, c.frames_before.ensures, c.frames_at-frames.ensures, c.requires.1)

pub insert_frame-requires : goal.insert_frame-requires
insert_frame-requires c =
    (omega (arith, waiting_few c.requires.0.seen, c.frames_before.ensures, c.frames_at-frames.ensures), c.requires.1)

pub overflow_add-frames : goal.overflow_add-frames
overflow_add-frames c =
    omega (arith, waiting_few c.requires.0.seen, c.frames_at-frames.ensures, c.requires.1)

pub put_entry-requires : goal.put_entry-requires
put_entry-requires c =
    (seen_room c.requires.0.seen, omega arith)

pub returns : goal.returns
returns c =
    λ x st a₀ e₀ fs s.
    pushed _ c.frames_at-frames.result _ _ _ c.requires.1 c.frames_at-frames.ensures (ap (λ n. n + c.frames_at-frames.result) c.frames_before.ensures) c.insert_frame.ensures c.put_entry.ensures s
