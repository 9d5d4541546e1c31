-- What a move finds at a lock.
use Rattle.std.specs.Prelude.{ℕ, List}
use Rattle.machine.specs.declared.Frame.{Frame}
use Rattle.machine.specs.Config.{Stores, running, failed}
use Rattle.machine.specs.Machine.{Outcome, still, moved, shut_and_enter}
use Rattle.locking.specs.declared.Access.{Access}
use Rattle.locking.specs.declared.Access.TheVariants.{Stays, Null, Open, Held}

-- What a lock comes to by what the thread finds there, k the places left for frames: "null fails; open shuts and leaves a lock frame; held by this thread
-- enters with no frame; shut and not held by this thread cannot move."
abbrev pub entered : Stores → List Frame → ℕ → ℕ → ℕ → Access → Outcome
entered st fs a env k Stays = still
entered st fs a env k Null = moved st failed
entered st fs a env k (Open o) = shut_and_enter st fs a env o k
entered st fs a env k Held = moved st (running a env fs)
