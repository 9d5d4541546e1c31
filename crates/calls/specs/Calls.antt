-- The four calls of document 01 and Silent, request 6's, on byte lists: each gives its reply's numbers and every lent byte that the call may write, for all
-- inputs. The script and the choices are lent to be read only.
use Rattle.std.specs.Prelude.{ℕ, Bool, true, false, List, eqb, leb, length}
use Rattle.std.proofs.Math.Option.{Option, none, some}
use Rattle.limits.specs.Limits.{BLOCK, CHOICES, FLAGS}
use Rattle.script.specs.Lists.{run}
use Rattle.script.specs.Asking.{number_of}
use Rattle.std.specs.declared.result.Result.TheVariants.{Ok, Err}
use Rattle.typing.specs.Answers.{Verdict, refusal}
use Rattle.typing.specs.Check.{check_of, verdict_number, verdict_place, verdict_type}
use Rattle.machine.specs.Stops.{stop_number}
use Rattle.machine.specs.Config.{Config, code_of}
use Rattle.machine.specs.Machine.{field_count, one_if, limits, can_move, initial}
use Rattle.machine.specs.Silent.{silent_from, most_silent}
use Rattle.machine.specs.Decide.{only, well_formed_test}
use Rattle.machine.specs.Runs.{Report, report}
use Rattle.block.specs.Block.{encode}
use Rattle.block.specs.Decode.{decode}
use Rattle.parts.specs.Parts.{objects_sound, bindings_sound}
use Rattle.calls.specs.declared.LentQuestion.{LentQuestion}
use Rattle.calls.specs.declared.LentQuestion.TheVariants.{BlockLength, BufferLength, BlockObjects, BlockBindings, BlockThreads}

-- What the questions to a call come to: the first no, with its number and place; or yes to all, with the configuration to go on with.
pub data Questioned : Type 0 where
  no_at : ℕ → ℕ → Questioned
  yes_with : Config → Questioned

-- "Start through these and 20, Offer and Run through all": first questions 1 to 15, with Check's number and place.
abbrev pub ask_script : Verdict → (ℕ → Questioned) → Questioned
ask_script (Ok t) next = next t
ask_script (Err r) next = no_at (number_of r.question) r.place

-- "Is the state block 49,152 bytes? 20" ("The block grows to 65,536 bytes, so question 20 asks that"), "Is the choice list at most 4,096 bytes (Run), or the
-- flag buffer exactly 63 (Offer)? 22", "Is the block a well-formed configuration of this script? 21", but "21 now means objects; 26 bindings, after 21; 27
-- frames, threads and which objects are shut, after 26."
abbrev pub lent_number : LentQuestion → ℕ
lent_number BlockLength = 20
lent_number BufferLength = 22
lent_number BlockObjects = 21
lent_number BlockBindings = 26
lent_number BlockThreads = 27

-- A question about "a block, a choice list or another lent buffer" has place 0.
abbrev pub ask : LentQuestion → Bool → Questioned → Questioned
ask q true next = next
ask q false next = no_at (lent_number q) 0

-- The configuration, if it is well formed for a script whose start has type t.
abbrev pub well_formed : List ℕ → ℕ → Option Config → Option Config
well_formed s t none = none
well_formed s t (some c) = only (well_formed_test (code_of s) limits t c) (some c)

-- The configuration that a block stands for, if it is a well-formed one.
unfoldable pub config_of : List ℕ → ℕ → List ℕ → Option Config
config_of s t b = well_formed s t (decode (field_count s) b)

-- "Objects are examined first, then bindings, then frames and threads, each part assuming the earlier ones sound." The last question is whether the block is
-- well formed at all: where objects and bindings are sound, a no is due to the rest (`parts_stand`).
abbrev pub ask_threads : Option Config → Questioned
ask_threads none = no_at (lent_number BlockThreads) 0
ask_threads (some c) = yes_with c

unfoldable pub parts_asked : List ℕ → ℕ → List ℕ → Questioned
parts_asked s t b = ask BlockObjects (objects_sound s b) (ask BlockBindings (bindings_sound s b) (ask_threads (config_of s t b)))

-- "Is the state block 49,152 bytes?", but "The block grows to 65,536 bytes, so question 20 asks that."
abbrev pub block_long : List ℕ → Bool
block_long b = eqb (length b) BLOCK

-- "Is the choice list at most 4,096 bytes (Run), or the flag buffer exactly 63 (Offer)?"
abbrev pub choices_few : List ℕ → Bool
choices_few ns = leb (length ns) CHOICES

abbrev pub flags_long : List ℕ → Bool
flags_long fl = eqb (length fl) FLAGS

-- The questions to Start, and to Offer or Run with the other buffer's answer, in document 01's order.
unfoldable pub start_asked : List ℕ → List ℕ → Questioned
start_asked s b = ask_script (check_of s) (λ t. ask BlockLength (block_long b) (yes_with initial))

unfoldable pub block_asked : List ℕ → List ℕ → Bool → Questioned
block_asked s b lent = ask_script (check_of s) (λ t. ask BlockLength (block_long b) (ask BufferLength lent (parts_asked s t b)))

-- "A refusal returns its number and place, with every other number 0, and lent buffers unchanged. A call that is not refused has number 0 and place 0."
pub record Checked : Type 0 where
  pub number : ℕ
  pub place : ℕ
  pub type : ℕ
  pub silent : ℕ

pub record SilentTold : Type 0 where
  pub number : ℕ
  pub place : ℕ
  pub count : ℕ

pub record Started : Type 0 where
  pub number : ℕ
  pub place : ℕ
  pub block : List ℕ

pub record Offered : Type 0 where
  pub number : ℕ
  pub place : ℕ
  pub block : List ℕ
  pub flags : List ℕ

pub record Ran : Type 0 where
  pub number : ℕ
  pub place : ℕ
  pub stop : ℕ
  pub read : ℕ
  pub moves : ℕ
  pub block : List ℕ

-- "Check reports the largest such count over all nodes of the script"
abbrev pub verdict_silent : List ℕ → Verdict → ℕ
verdict_silent s (Ok t) = most_silent (code_of s)
verdict_silent s (Err _) = 0

-- "Check answers the start's type."
abbrev pub checked_from : List ℕ → Verdict → Checked
checked_from s v = record { number = verdict_number v; place = verdict_place v; type = verdict_type v; silent = verdict_silent s v }

unfoldable pub checked_of : List ℕ → Checked
checked_of s = checked_from s (check_of s)

-- "For a thread at a node, given by number (the answer is 0 where no such node is), the engine, after questions 1 to 15, reports the exact number of silent
-- moves"
abbrev pub silent_told : List ℕ → ℕ → Verdict → SilentTold
silent_told s n (Ok t) = record { number = 0; place = 0; count = silent_from (code_of s) n }
silent_told s n (Err r) = record { number = number_of r.question; place = r.place; count = 0 }

unfoldable pub silent_of : List ℕ → ℕ → SilentTold
silent_of s n = silent_told s n (check_of s)

-- "Start writes the initial block over anything"
abbrev pub started_from : List ℕ → Questioned → Started
started_from b (no_at n place) = record { number = n; place = place; block = b }
started_from b (yes_with c) = record { number = 0; place = 0; block = encode c }

unfoldable pub start_of : List ℕ → List ℕ → Started
start_of s b = started_from b (start_asked s b)

-- "Offer sets a byte to 1 for each tree position that can move and 0 for all others"
unfoldable pub flags_of : List ℕ → Config → List ℕ
flags_of s c = run (λ n. one_if (can_move (code_of s) limits c n)) 0 FLAGS

-- "the block stays as it was"
abbrev pub offered_from : List ℕ → List ℕ → List ℕ → Questioned → Offered
offered_from s b fl (no_at n place) = record { number = n; place = place; block = b; flags = fl }
offered_from s b fl (yes_with c) = record { number = 0; place = 0; block = b; flags = flags_of s c }

unfoldable pub offer_of : List ℕ → List ℕ → List ℕ → Offered
offer_of s b fl = offered_from s b fl (block_asked s b (flags_long fl))

-- "Run reads choices." "It returns choices read and moves made"
abbrev pub ran : Report → Ran
ran r = record { number = 0; place = 0; stop = stop_number r.stop; read = r.read; moves = r.moves; block = encode r.config }

abbrev pub ran_from : List ℕ → List ℕ → List ℕ → Questioned → Ran
ran_from s b ns (no_at n place) = record { number = n; place = place; stop = 0; read = 0; moves = 0; block = b }
ran_from s b ns (yes_with c) = ran (report (code_of s) limits c ns)

unfoldable pub run_of : List ℕ → List ℕ → List ℕ → Ran
run_of s b ns = ran_from s b ns (block_asked s b (choices_few ns))
