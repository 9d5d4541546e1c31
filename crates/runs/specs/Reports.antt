-- What the code of a run answers, against the machine's report.
use Rattle.std.specs.Prelude.{ℕ, ◌+◌, ◌≡◌, List, ◌∷◌}
use Rattle.std.proofs.Math.Option.{none}
use Rattle.machine.specs.declared.Stop.{Stop}
use Rattle.machine.specs.Config.{code_of, Config}
use Rattle.machine.specs.Machine.{limits}
use Rattle.machine.specs.WellFormed.{WellFormed}
use Rattle.machine.specs.Runs.{look, Report, report}
use Rattle.state.specs.Represents.{Represents}
use Rattle.std.specs.declared.option.Option.TheVariants.{Some, None}
use Rattle.runs.specs.declared.Taken.{Taken}
use Rattle.runs.specs.declared.Ran.{Ran}

-- A report with choices read and moves made before it.
abbrev pub added : ℕ → ℕ → Report → Report
added read moves r = record { stop = r.stop; read = read + r.read; moves = moves + r.moves; config = r.config }

-- What choice n did to the configuration c, in which something can move; the block is b after it.
pub data TakenAs (s b : List ℕ) (t : ℕ) (c : Config) (n : ℕ) : Taken → Type 0 where
  taken_on : {made : ℕ} {d : Config} → Represents b d → WellFormed (code_of s) limits t d → look (code_of s) limits d ≡ none
      → ((ns : List ℕ) → report (code_of s) limits c (n ∷ ns) ≡ added 1 made (report (code_of s) limits d ns))
      → TakenAs s b t c n (record { made = made; next = None })
  taken_stops : {made : ℕ} {stop : Stop} {d : Config} → Represents b d
      → ((ns : List ℕ) → report (code_of s) limits c (n ∷ ns) ≡ record { stop = stop; read = 1; moves = made; config = d })
      → TakenAs s b t c n (record { made = made; next = Some stop })

-- The answer is the report's, and the block is the configuration that the run leaves.
pub record RanAs (rep : Report) (b : List ℕ) (r : Ran) : Type 0 where
  pub stop : r.stop ≡ rep.stop
  pub read : r.read ≡ rep.read
  pub moves : r.moves ≡ rep.moves
  pub represents : Represents b rep.config
