-- "A thread holds exactly the objects of the lock frames it will resume (a join's are resumed by its leftmost thread)."
use Rattle.std.specs.Prelude.{ℕ, ◌+◌, ◌≤◌, ◌≡◌, Bool, false, List, [], eqb, ltb, length}
use Rattle.std.proofs.Math.Option.{some}
use Rattle.std.proofs.Math.Seq.{slice}
use Rattle.words.specs.Word.{bytes}
use Rattle.machine.specs.declared.Frame.{Frame}
use Rattle.machine.specs.declared.Frame.TheVariants.{Awaits as awaits, Casts as casts, Locks as locks}
use Rattle.machine.specs.Config as machine
use Rattle.machine.specs.Config.{Config}
use Rattle.machine.specs.Machine.{lock_frames, Path, locate, part}
use Rattle.block.specs.Block.{waiting, Parts, laid}
use Rattle.representation.specs.Preorder.{frames_above}
use Rattle.state.specs.Represents.{Represents}

-- Is a frame a lock frame of object o?
abbrev pub is_lock : ℕ → Frame → Bool
is_lock o (awaits n e) = false
is_lock o (casts n) = false
is_lock o (locks p) = eqb o p

-- r says whether a frame from number `from` up to `to` of the block b is a lock frame of object o.
abbrev pub LockWithin : List ℕ → ℕ → ℕ → ℕ → Bool → Type 0
LockWithin b from to o r = (p : Parts) → b ≡ bytes (laid p) → to ≤ length p.frames → r ≡ ltb 0 (lock_frames o (slice from to p.frames))

-- r says whether the thread at position i holds object o: by its own frames, or by those of the joins whose leftmost thread it is.
abbrev pub Held : List ℕ → ℕ → ℕ → Bool → Type 0
Held b i o r =
    (c : Config) (p : Path) (u : machine.Tree)
    → Represents b c
    → locate c.tree i ≡ some p
    → part c.tree p ≡ some u
    → r ≡ ltb 0 (lock_frames o (waiting u) + lock_frames o (frames_above [] c.tree p))
