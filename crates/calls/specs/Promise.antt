-- The whole promise, of the four calls on bytes and of Silent, a field to each sentence of docs/DEMANDS.md. By the contracts of the crate `engine` the calls
-- from C are `checked_of`, `silent_of`, `start_of`, `offer_of` and `run_of`, so each sentence is about what they return and leave.
use Rattle.std.specs.Prelude.{ℕ, ◌≤◌, ◌≡◌, List, ◌↔◌, length}
use Rattle.std.proofs.Math.Option.{some}
use Rattle.limits.specs.Limits.{BLOCK, CHOICES, FLAGS, SILENT}
use Rattle.script.specs.declared.Question.{Question}
use Rattle.script.specs.Syntax.{Point}
use Rattle.script.specs.Reading.{program_of}
use Rattle.script.specs.Statements.{WithinLayout}
use Rattle.std.specs.declared.result.Result.TheVariants.{Ok}
use Rattle.typing.specs.Answers.{refusal}
use Rattle.typing.specs.Published.{WfProgram}
use Rattle.typing.specs.Refusals.{FirstNo}
use Rattle.typing.specs.Check.{check_of}
use Rattle.machine.specs.declared.Frame.{Frame}
use Rattle.machine.specs.Config.{running, Config, code_of}
use Rattle.machine.specs.Machine.{limits, Path, locate, initial, part}
use Rattle.published.specs.ReadAs.{Reading, reading, Steps, initial_reading}
use Rattle.published.specs.Reach.{site}
use Rattle.published.specs.Traces.{Trace, OnlySilent, silent_moves}
use Rattle.parts.specs.ByBytes.{ByBytes}
use Rattle.calls.specs.Calls.{checked_of, silent_of, start_of, offer_of, run_of}
use Rattle.calls.specs.Answers.{Holds, Stands, CheckAnswers, SilentAnswers, LargestCount, StartAnswers, OfferAnswers, RunAnswers, PartsStand, WhichPart}
use Rattle.calls.specs.Answers.{NotRefused, TraceOf, ReachedBy, CountsRow, CountedRun}
use Rattle.calls.specs.Lists.{Lent, DemandThreeOf}

-- Demand 1: "The converter gets a reply from every call .., without checking them first; a bad one gets document 01's refusal number and changes no lent byte."
-- That a reply comes is the contracts': they ask nothing, and every function ends.
pub record DemandOneOf (s : List ℕ) : Type 0 where
  -- Check is refused with the first no and its place, and by no other
  pub refused : (q : Question) (place : ℕ) → (check_of s ≡ refusal q place) ↔ FirstNo s q place
  -- and its reply is that no's number and place, "with every other number 0", or the start's type and the largest count
  pub check : CheckAnswers s (checked_of s)
  -- request 6, whatever the number of the node: refused as Check is, or the node's count
  pub silent : (n : ℕ) → SilentAnswers s n (silent_of s n)
  -- "Check reports the largest such count over all nodes of the script"
  pub most : {t : ℕ} → check_of s ≡ Ok t → LargestCount s (checked_of s).silent
  -- Start, Offer and Run, whatever is lent to them: refused with their first no, with the lent bytes as they were, or done
  pub start : (b : List ℕ) → StartAnswers s b (start_of s b)
  pub offer : (b fl : List ℕ) → OfferAnswers s b fl (offer_of s b fl)
  pub run : (b ns : List ℕ) → RunAnswers s b ns (run_of s b ns)
  -- request 5, of a block of the right length beside an accepted script: "A block was refused before exactly when it is refused after."; and the number that it
  -- gets, from Offer and from Run
  pub parts : {t : ℕ} → check_of s ≡ Ok t → {b : List ℕ} → length b ≡ BLOCK → PartsStand s t b
  pub offer_part : {t : ℕ} → check_of s ≡ Ok t → (b fl : List ℕ) → length b ≡ BLOCK → length fl ≡ FLAGS → WhichPart s t b (offer_of s b fl).number
  pub run_part : {t : ℕ} → check_of s ≡ Ok t → (b ns : List ℕ) → length b ≡ BLOCK → length ns ≤ CHOICES → WhichPart s t b (run_of s b ns).number
  -- "A byte with no meaning counts with the part whose area holds it, else with 27", in plain numbers of bytes
  pub bytes : (t : ℕ) (b : List ℕ) → ByBytes s t b

pub record DemandTwoOf (s : List ℕ) : Type 0 where
  -- "A script within layout and limits is accepted exactly when OOlong's published typing rules give it a type", and no other script is
  pub accepted : WithinLayout s → (t : ℕ) → (check_of s ≡ Ok t) ↔ WfProgram (program_of s) t
  pub within : (t : ℕ) → check_of s ≡ Ok t → WithinLayout s
  -- the published semantics begins at what Start writes
  pub begins : (t : ℕ) → check_of s ≡ Ok t → (b : List ℕ) → length b ≡ BLOCK
      → Holds s t (start_of s b).block initial × (reading (code_of s) initial ≡ initial_reading (program_of s))
  -- "A run makes the moves its choices name and reports how many": choices are read until one of the three ends, a full store, or the last of them
  pub runs : (b ns : List ℕ) → (run_of s b ns).number ≡ 0 → NotRefused s b ns
  -- "each move is one published step or a listed silent one"
  pub moves : (b ns : List ℕ) → (run_of s b ns).number ≡ 0 → TraceOf s b ns
  -- "A thread makes at most 1,024 silent moves in a row": on every way from a block that holds a configuration, so between any two points of a Run
  pub silent : {t : ℕ} → check_of s ≡ Ok t → {b : List ℕ} {c d : Config} {ns : List ℕ} {n : ℕ} → Holds s t b c
      → (r : Trace (code_of s) limits c ns n d) (p : Path) → OnlySilent p r → silent_moves p r ≤ SILENT
  -- request 6, "the exact number of silent moves": on every such way that begins with a thread at node a, its silent moves in a row against Silent's count of a
  pub counts : {t : ℕ} → check_of s ≡ Ok t → {b : List ℕ} {c d : Config} {ns : List ℕ} {n : ℕ} → Holds s t b c
      → (r : Trace (code_of s) limits c ns n d) (p : Path) → OnlySilent p r → {a : Point} {e : ℕ} {fs : List Frame} → part c.tree p ≡ some (running a e fs)
      → CountsRow s (part d.tree p) (silent_moves p r) (silent_of s a).count
  -- "before its next published step, wait or finish, assuming no store fills": the Run that chooses such a thread as often as its count says
  pub counted : {t : ℕ} → check_of s ≡ Ok t → {b : List ℕ} {c : Config} → Holds s t b c → (k : ℕ) (p : Path) → locate c.tree k ≡ some p
      → {a : Point} {e : ℕ} {fs : List Frame} → part c.tree p ≡ some (running a e fs) → CountedRun s t b c k p (silent_of s a).count
  -- "each open published step can be reached by choices, unless a store is full"
  pub reached : {t : ℕ} → check_of s ≡ Ok t → {b : List ℕ} {c : Config} {q : Reading} → Holds s t b c
      → (k : Steps (code_of s).program (reading (code_of s) c) q) → ReachedBy s t b c q (site k)

-- The three demands, of a script of bytes. Demand 3: "For any accepted script, any well-formed block and any list of Start, Offer and Run calls on it".
pub record Promise (s : List ℕ) : Type 0 where
  pub one : DemandOneOf s
  pub two : DemandTwoOf s
  pub three : {t : ℕ} → check_of s ≡ Ok t → {b : List ℕ} → Stands s t b → (calls : List Lent) → DemandThreeOf s t b calls
