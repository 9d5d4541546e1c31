-- What the calls answer, as plain statements to be held against documents 01 and 02.
use Rattle.std.specs.Prelude.{ℕ, ◌<◌, ◌≤◌, ◌≡◌, Bool, true, false, List, [], ◌∷◌, ◌++◌, ◌⊎◌, ◌↔◌, length, take, replicate}
use Rattle.std.proofs.Math.Option.{Option, none, some}
use Rattle.limits.specs.Limits.{BLOCK, CHOICES, FLAGS, SILENT}
use Rattle.script.specs.declared.Question.{Question}
use Rattle.script.specs.Lists.{◌∈◌}
use Rattle.script.specs.Asking.{number_of}
use Rattle.script.specs.declared.Section.TheVariants.{Nodes as nodes}
use Rattle.script.specs.Section.{count_of}
use Rattle.script.specs.Reading.{expr_at}
use Rattle.std.specs.declared.result.Result.TheVariants.{Ok}
use Rattle.typing.specs.Answers.{refusal}
use Rattle.typing.specs.Check.{check_of}
use Rattle.machine.specs.declared.Store.{Store}
use Rattle.machine.specs.declared.Store.TheVariants.{Frames}
use Rattle.machine.specs.declared.Stop.TheVariants.{Spent, Full}
use Rattle.machine.specs.Stops.{store_number}
use Rattle.machine.specs.Config.{Tree, Config, code_of}
use Rattle.machine.specs.Machine.{limits, full, Path, move, initial}
use Rattle.machine.specs.WellFormed.{WellFormed}
use Rattle.machine.specs.Runs.{Report, report, Runs, StopMeans}
use Rattle.published.specs.ReadAs.{Reading, reading}
use Rattle.machine.specs.FullStore.{StopsShort}
use Rattle.machine.specs.Silent.{quiet_in, chain, most_silent}
use Rattle.published.specs.Reach.{OneRun}
use Rattle.published.specs.Traces.{Trace}
use Rattle.published.specs.Counts.{CountedRow}
use Rattle.block.specs.Block.{encode}
use Rattle.parts.specs.Parts.{ObjectsAre, BindingsAre, ThreadsAre}
use Rattle.calls.specs.declared.LentQuestion.TheVariants.{BlockLength, BufferLength, BlockObjects, BlockBindings, BlockThreads}
use Rattle.calls.specs.Calls.{lent_number, Checked, SilentTold, silent_of, Started, Offered, flags_of, Ran, ran, run_of}

-- The block stands for this configuration, well formed for the script, whose start has type t.
pub record Holds (s : List ℕ) (t : ℕ) (b : List ℕ) (c : Config) : Type 0 where
  pub is : b ≡ encode c
  pub well : WellFormed (code_of s) limits t c

-- "Is the block a well-formed configuration of this script?"
pub record Stands (s : List ℕ) (t : ℕ) (b : List ℕ) : Type 0 where
  pub config : Config
  pub holds : Holds s t b config

-- Whether a configuration was found: the answer to that question.
abbrev pub found : Option Config → Bool
found none = false
found (some c) = true

-- Check has a no, with document 01's number of the question, the place, type 0 and count 0; or the start's type and the largest count.
pub data CheckAnswers (s : List ℕ) : Checked → Type 0 where
  check_refused : {q : Question} {place : ℕ} → check_of s ≡ refusal q place
      → CheckAnswers s (record { number = number_of q; place = place; type = 0; silent = 0 })
  checked : {t : ℕ} → check_of s ≡ Ok t → CheckAnswers s (record { number = 0; place = 0; type = t; silent = most_silent (code_of s) })

-- Silent has Check's no, with count 0; or the count of the node with this number, "the answer is 0 where no such node is".
pub data SilentAnswers (s : List ℕ) (n : ℕ) : SilentTold → Type 0 where
  silent_refused : {q : Question} {place : ℕ} → check_of s ≡ refusal q place → SilentAnswers s n (record { number = number_of q; place = place; count = 0 })
  silent_counted : {t : ℕ} → check_of s ≡ Ok t → n < count_of s nodes → SilentAnswers s n (record { number = 0; place = 0; count = chain (expr_at s n) })
  silent_none : {t : ℕ} → check_of s ≡ Ok t → count_of s nodes ≤ n → SilentAnswers s n (record { number = 0; place = 0; count = 0 })

-- "the largest such count over all nodes of the script": no count of Silent's is above m, and that of a node is m; and since "A thread makes at most 1,024
-- silent moves in a row", neither is m above that.
pub record LargestCount (s : List ℕ) (m : ℕ) : Type 0 where
  pub none_above : (n : ℕ) → (silent_of s n).count ≤ m
  pub node : ℕ
  pub there : node < count_of s nodes
  pub has : (silent_of s node).count ≡ m
  pub few : m ≤ SILENT

-- The first no of each call, in order, and its number and place. `Fine` says what is asked of the other buffer, `Off` that it gets a no.
pub data FirstNoTo (s b : List ℕ) (Fine Off : Type 0) : ℕ → ℕ → Type 0 where
  by_script : {q : Question} {place : ℕ} → check_of s ≡ refusal q place → FirstNoTo s b Fine Off (number_of q) place
  by_length : {t : ℕ} → check_of s ≡ Ok t → (length b ≡ BLOCK → ⊥) → FirstNoTo s b Fine Off (lent_number BlockLength) 0
  by_buffer : {t : ℕ} → check_of s ≡ Ok t → length b ≡ BLOCK → Off → FirstNoTo s b Fine Off (lent_number BufferLength) 0
  by_objects : {t : ℕ} → check_of s ≡ Ok t → length b ≡ BLOCK → Fine → (ObjectsAre s b → ⊥) → FirstNoTo s b Fine Off (lent_number BlockObjects) 0
  by_bindings : {t : ℕ} → check_of s ≡ Ok t → length b ≡ BLOCK → Fine → ObjectsAre s b → (BindingsAre s b → ⊥)
      → FirstNoTo s b Fine Off (lent_number BlockBindings) 0
  by_threads : {t : ℕ} → check_of s ≡ Ok t → length b ≡ BLOCK → Fine → ObjectsAre s b → BindingsAre s b → (ThreadsAre s t b → ⊥)
      → FirstNoTo s b Fine Off (lent_number BlockThreads) 0

-- "A block was refused before exactly when it is refused after": the three parts together are the question 21 that was.
abbrev pub PartsStand : List ℕ → ℕ → List ℕ → Type 0
PartsStand s t b = Stands s t b ↔ (ObjectsAre s b × BindingsAre s b × ThreadsAre s t b)

-- "21 now means objects; 26 bindings, after 21; 27 frames, threads and which objects are shut, after 26.": each number n of Offer or Run exactly.
pub record WhichPart (s : List ℕ) (t : ℕ) (b : List ℕ) (n : ℕ) : Type 0 where
  pub objects : (n ≡ 21) ↔ (ObjectsAre s b → ⊥)
  pub bindings : (n ≡ 26) ↔ (ObjectsAre s b × (BindingsAre s b → ⊥))
  pub threads : (n ≡ 27) ↔ (ObjectsAre s b × BindingsAre s b × (ThreadsAre s t b → ⊥))
  pub sound : (n ≡ 0) ↔ Stands s t b

-- Start asks of the block's length only.
pub data StartAnswers (s b : List ℕ) : Started → Type 0 where
  start_refused : {n place : ℕ} → FirstNoTo s b ⊥ ⊥ n place → StartAnswers s b (record { number = n; place = place; block = b })
  started : {t : ℕ} → check_of s ≡ Ok t → length b ≡ BLOCK → StartAnswers s b (record { number = 0; place = 0; block = encode initial })

pub data OfferAnswers (s b fl : List ℕ) : Offered → Type 0 where
  offer_refused : {n place : ℕ} → FirstNoTo s b (length fl ≡ FLAGS) (length fl ≡ FLAGS → ⊥) n place
      → OfferAnswers s b fl (record { number = n; place = place; block = b; flags = fl })
  offered : {t : ℕ} {c : Config} → check_of s ≡ Ok t → length fl ≡ FLAGS → Holds s t b c
      → OfferAnswers s b fl (record { number = 0; place = 0; block = b; flags = flags_of s c })

pub data RunAnswers (s b ns : List ℕ) : Ran → Type 0 where
  run_refused : {n place : ℕ} → FirstNoTo s b (length ns ≤ CHOICES) (CHOICES < length ns) n place
      → RunAnswers s b ns (record { number = n; place = place; stop = 0; read = 0; moves = 0; block = b })
  has_run : {t : ℕ} {c : Config} → check_of s ≡ Ok t → length ns ≤ CHOICES → Holds s t b c → RunAnswers s b ns (ran (report (code_of s) limits c ns))

-- A Run that is not refused: what it had, what each choice did, what it leaves and why it stopped.
pub record NotRefused (s b ns : List ℕ) : Type 0 where
  pub type : ℕ
  pub accepted : check_of s ≡ Ok type
  pub few : length ns ≤ CHOICES
  pub before : Config
  pub had : Holds s type b before
  -- the machine's run: each choice read was passed over, or made the move of its position, or is the last one and met a full store
  pub outcome : Report
  pub did : Runs (code_of s) limits before ns outcome
  pub reply : run_of s b ns ≡ ran outcome
  pub holds : Holds s type (run_of s b ns).block outcome.config
  -- choices spent with something that can move; one of the three ends with nothing that can; or a store full for a move that is due
  pub means : StopMeans (code_of s) limits outcome.config outcome.stop
  -- all choices are read where they are spent
  pub spent : outcome.stop ≡ Spent → outcome.read ≡ length ns
  -- a store is full: the last choice read names a position whose move due needs more places than it has left
  pub full : {k : Store} → outcome.stop ≡ Full k → StopsShort (code_of s) limits before ns outcome k

-- The moves of a Run that is not refused: its first `read` choices lead by `moves` transitions, each of them one published step or a listed silent move at the
-- position that its choice names, from the configuration that the block held to the one that it holds afterwards.
pub record TraceOf (s b ns : List ℕ) : Type 0 where
  pub type : ℕ
  pub accepted : check_of s ≡ Ok type
  pub before : Config
  pub after : Config
  pub had : Holds s type b before
  pub holds : Holds s type (run_of s b ns).block after
  pub few : (run_of s b ns).read ≤ length ns
  pub trace : Trace (code_of s) limits before (take (run_of s b ns).read ns) (run_of s b ns).moves after

-- A buffer after a call is as long as before, and still bytes.
pub record KeepsBytes (before after : List ℕ) : Type 0 where
  pub long : length after ≡ length before
  pub small : ((x : ℕ) → x ∈ before → x < 256) → (x : ℕ) → x ∈ after → x < 256

-- "each open published step can be reached by choices, unless a store is full": one Run from a block that holds c to one that reads as q, with the machine's
-- silent choices and then the one for the published step at the place p.
pub record ReachedBy (s : List ℕ) (t : ℕ) (b : List ℕ) (c : Config) (q : Reading) (p : Path) : Type 0 where
  pub by : OneRun (code_of s) limits c q p
  pub choices : List ℕ
  pub are : choices ≡ by.silent ++ (by.last ∷ [])
  pub few : length choices ≤ CHOICES
  pub positions : (n : ℕ) → n ∈ choices → n < FLAGS
  pub config : Config
  pub holds : Holds s t (run_of s b choices).block config
  -- a store has too few places left for the move due at p, or every choice made its move
  pub ends : ((k : Store) × ((run_of s b choices).stop ≡ store_number k) × (move (code_of s) limits by.middle p ≡ full k))
      ⊎ (((run_of s b choices).moves ≡ length choices) × (reading (code_of s) config ≡ q))

-- "the exact number of silent moves": of a row of silent moves of a thread, given how many they are and how the place stands behind them, against the count n
-- of the node where the thread was. The row is never longer; and where the move due is no longer silent, it is exactly as long.
pub record CountsRow (s : List ℕ) (behind : Option Tree) (moves n : ℕ) : Type 0 where
  pub most : moves ≤ n
  pub exact : quiet_in (code_of s) behind ≡ false → moves ≡ n

-- A Run with n choices of position k, and no others, on a block that holds c, where a thread whose count is n stands there, at the place p: it makes silent
-- moves of that thread, n of them, "assuming no store fills", and then "its next published step, wait or finish" is due.
pub record CountedRun (s : List ℕ) (t : ℕ) (b : List ℕ) (c : Config) (k : ℕ) (p : Path) (n : ℕ) : Type 0 where
  pub row : CountedRow (code_of s) limits c k p n
  pub few : n ≤ CHOICES
  pub position : k < FLAGS
  pub number : (run_of s b (replicate n k)).number ≡ 0
  pub moves : (run_of s b (replicate n k)).moves ≡ row.made
  pub holds : Holds s t (run_of s b (replicate n k)).block row.after
  -- fewer than n only with stop 6, frames full
  pub full : row.made < n → (run_of s b (replicate n k)).stop ≡ store_number Frames
