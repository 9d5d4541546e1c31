-- What the code of the three questions answers.
use Rattle.machine.specs.Config.{Config}
use Rattle.calls.specs.Calls.{Questioned, no_at, yes_with, lent_number}
use Rattle.calls.specs.declared.LentQuestion.{LentQuestion}
use Rattle.std.specs.Bool.{⊤}
use Rattle.std.specs.declared.result.Result.{Result}
use Rattle.std.specs.declared.result.Result.TheVariants.{Ok, Err}

-- Document 01: "For each case of an enum answer, a definition gives this paper's number and values." Where every part is sound the configuration is this one.
abbrev pub examined_as : Result ⊤ LentQuestion → Config → Questioned
examined_as (Ok tt) c = yes_with c
examined_as (Err q) c = no_at (lent_number q) 0
