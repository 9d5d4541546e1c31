-- The numbers of the stops: "For each case of an enum answer, a definition gives this paper's number".
use Rattle.std.specs.Prelude.{ℕ}
use Rattle.machine.specs.declared.Store.{Store}
use Rattle.machine.specs.declared.Store.TheVariants.{Objects, Bindings, Frames, Threads}
use Rattle.machine.specs.declared.Ending.{Ending}
use Rattle.machine.specs.declared.Ending.TheVariants.{Finished, Failed, Deadlocked}
use Rattle.machine.specs.declared.Stop.{Stop}
use Rattle.machine.specs.declared.Stop.TheVariants.{Spent, Ended, Full}

-- "4 objects, 5 bindings, 6 frames, 7 threads"
abbrev pub store_number : Store → ℕ
store_number Objects = 4
store_number Bindings = 5
store_number Frames = 6
store_number Threads = 7

-- "1 the root is a finished thread, 2 the root is a failed thread, 3 neither and no position can move"
abbrev pub ending_number : Ending → ℕ
ending_number Finished = 1
ending_number Failed = 2
ending_number Deadlocked = 3

-- "Otherwise 0, choices spent"
abbrev pub stop_number : Stop → ℕ
stop_number Spent = 0
stop_number (Ended k) = ending_number k
stop_number (Full k) = store_number k
