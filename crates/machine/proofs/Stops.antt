-- The number of a stop says which stop it is.
use Prim.Native.Nat.{ℕ, zero, suc}
use mathlib.Core.Path.{◌≡◌, refl, sym, ◌∙◌, ap}
use Rattle.machine.specs.declared.Store.TheVariants.{Objects, Bindings, Frames, Threads}
use Rattle.machine.specs.declared.Ending.TheVariants.{Finished, Failed, Deadlocked}
use Rattle.machine.specs.declared.Stop.{Stop}
use Rattle.machine.specs.declared.Stop.TheVariants.{Spent, Ended, Full}
use Rattle.machine.specs.Stops.{stop_number}

-- the stop with this number
abbrev numbered : ℕ → Stop
numbered zero = Spent
numbered (suc zero) = Ended Finished
numbered (suc (suc zero)) = Ended Failed
numbered (suc (suc (suc zero))) = Ended Deadlocked
numbered (suc (suc (suc (suc zero)))) = Full Objects
numbered (suc (suc (suc (suc (suc zero))))) = Full Bindings
numbered (suc (suc (suc (suc (suc (suc zero)))))) = Full Frames
numbered (suc (suc (suc (suc (suc (suc (suc n))))))) = Full Threads

numbered_stop : (j : Stop) → numbered (stop_number j) ≡ j
numbered_stop Spent = refl
numbered_stop (Ended Finished) = refl
numbered_stop (Ended Failed) = refl
numbered_stop (Ended Deadlocked) = refl
numbered_stop (Full Objects) = refl
numbered_stop (Full Bindings) = refl
numbered_stop (Full Frames) = refl
numbered_stop (Full Threads) = refl

pub one_stop : (i j : Stop) → stop_number i ≡ stop_number j → i ≡ j
one_stop i j e = sym (numbered_stop i) ∙ ap numbered e ∙ numbered_stop j
