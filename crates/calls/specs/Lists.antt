-- "The list in demand 3", of byte lists: calls with one script on one block, each getting the block as the last left it.
use Rattle.std.specs.Prelude.{ℕ, suc, ◌<◌, ◌≤◌, ◌+◌, ◌≡◌, List, ◌∷◌, length, get_or, take}
use Rattle.std.proofs.Math.Option.{Option, none, some}
use Rattle.limits.specs.Limits.{BLOCK}
use Rattle.script.specs.Lists.{◌∈◌}
use Rattle.machine.specs.declared.Ending.TheVariants.{Finished, Failed, Deadlocked}
use Rattle.machine.specs.Config.{Code, Config, code_of}
use Rattle.machine.specs.Machine.{limits, still, choice}
use Rattle.machine.specs.Ends.{End}
use Rattle.machine.specs.Runs.{report, CanMove, Leaves}
use Rattle.machine.specs.Promise.{Promised, Kept, FailsOnNull}
use Rattle.calls.specs.Calls.{Ran, start_of, offer_of, run_of}
use Rattle.calls.specs.Answers.{Holds, Stands}

-- A call with the other buffer lent to it, of any length and with any bytes: Offer's flags, Run's choices.
pub data Lent : Type 0 where
  to_start : Lent
  to_offer : List ℕ → Lent
  to_run : List ℕ → Lent

-- The block after the call, refused or not.
abbrev pub block_after : List ℕ → List ℕ → Lent → List ℕ
block_after s b to_start = (start_of s b).block
block_after s b (to_offer fl) = (offer_of s b fl).block
block_after s b (to_run ns) = (run_of s b ns).block

-- The calls that a list is followed past: any call, or any but Start (until the next Start).
abbrev pub AnyLent : Lent → Type 0
AnyLent call = Unit {0}

abbrev pub NotToStart : Lent → Type 0
NotToStart to_start = ⊥
NotToStart (to_offer fl) = Unit {0}
NotToStart (to_run ns) = Unit {0}

-- `Comes s Past b calls d rest`: the list, begun at block b and followed past such calls, comes to block d with the rest of the calls still to make.
pub data Comes (s : List ℕ) (Past : Lent → Type 0) : List ℕ → List Lent → List ℕ → List Lent → Type 0 where
  at_first : {b : List ℕ} {calls : List Lent} → Comes s Past b calls b calls
  after_call : {b d : List ℕ} {calls rest : List Lent} (call : Lent) → Past call → Comes s Past (block_after s b call) calls d rest
      → Comes s Past b (call ∷ calls) d rest

-- `Has s b calls e`: at block b the list has block e, before its next call or between moves of it.
pub data Has (s b : List ℕ) : List Lent → List ℕ → Type 0 where
  before_call : {calls : List Lent} → Has s b calls b
  -- "the block that it would leave with only its first n choices, for each n from 0 to the choices read"
  between_moves : {calls : List Lent} (ns : List ℕ) (n : ℕ) → n ≤ (run_of s b ns).read → Has s b (to_run ns ∷ calls) (run_of s b (take n ns)).block

-- `Later s b calls d e`: at block b the list has block d, and at that point or later, with no Start between, block e.
pub data Later (s b : List ℕ) : List Lent → List ℕ → List ℕ → Type 0 where
  past_block : {x e : List ℕ} {calls rest : List Lent} → Comes s NotToStart b calls x rest → Has s x rest e → Later s b calls b e
  -- both between moves of one Run
  in_one_run : {calls : List Lent} (ns : List ℕ) (m n : ℕ) → m ≤ n → n ≤ (run_of s b ns).read
      → Later s b (to_run ns ∷ calls) (run_of s b (take m ns)).block (run_of s b (take n ns)).block
  -- d between moves of a Run, e after it
  past_run : {x e : List ℕ} {calls rest : List Lent} (ns : List ℕ) (m : ℕ) → m ≤ (run_of s b ns).read
      → Comes s NotToStart (run_of s b ns).block calls x rest → Has s x rest e → Later s b (to_run ns ∷ calls) (run_of s b (take m ns)).block e

-- `Next s b calls d o e`: at block b two neighbours in the list, e with one choice more than d, which is o, or by a Start. (Offer and refused calls leave the
-- block as it was.)
pub data Next (s b : List ℕ) : List Lent → List ℕ → Option ℕ → List ℕ → Type 0 where
  one_choice : {calls : List Lent} (ns : List ℕ) (n : ℕ) → suc n ≤ (run_of s b ns).read
      → Next s b (to_run ns ∷ calls) (run_of s b (take n ns)).block (some (get_or ns n 0)) (run_of s b (take (suc n) ns)).block
  one_start : {calls : List Lent} → Next s b (to_start ∷ calls) b none (start_of s b).block

-- What demand 3 claims of a block that the list has: it is 65,536 bytes, and stands for a configuration that is well formed and of which all that is promised
-- holds.
pub record ClaimedOf (s : List ℕ) (t : ℕ) (b : List ℕ) : Type 0 where
  pub config : Config
  pub holds : Holds s t b config
  pub promised : Promised (code_of s) limits config
  -- and any Run from there stops with what it leaves
  pub stops : (ns : List ℕ) → Leaves (code_of s) limits t (report (code_of s) limits config ns)
  pub long : length b ≡ BLOCK
  pub small : (x : ℕ) → x ∈ b → x < 256

-- Two blocks stand for configurations, and what is said of those holds.
pub record OfBoth (s : List ℕ) (t : ℕ) (Said : Config → Config → Type 0) (d e : List ℕ) : Type 0 where
  pub earlier : Stands s t d
  pub later : Stands s t e
  pub said : {x y : Config} → Holds s t d x → Holds s t e y → Said x y

-- What a stop says of the configuration that the Run leaves: "0, choices spent", "1 the root is a finished thread, 2 the root is a failed thread, 3 neither and
-- no position can move", "4 objects, 5 bindings, 6 frames, 7 threads". With 1, 2 and 3 nothing can move, with the others something can: so it is 1, 2 or 3, for
-- the three ends in order, exactly when nothing can move.
pub data StopSays (s : Code) (c : Config) : ℕ → Type 0 where
  says_spent : CanMove s limits c → StopSays s c 0
  says_finished : ((n : ℕ) → choice s limits c n ≡ still) → End s c Finished → StopSays s c 1
  says_failed : ((n : ℕ) → choice s limits c n ≡ still) → End s c Failed → StopSays s c 2
  says_deadlocked : ((n : ℕ) → choice s limits c n ≡ still) → End s c Deadlocked → StopSays s c 3
  says_full : {n : ℕ} → 4 ≤ n → n ≤ 7 → CanMove s limits c → StopSays s c n

-- The block that a Run leaves stands for a configuration of which its stop speaks.
pub record StopOf (s : List ℕ) (t : ℕ) (r : Ran) : Type 0 where
  pub config : Config
  pub holds : Holds s t r.block config
  pub says : StopSays (code_of s) config r.stop

-- Demand 3, of a list of calls begun at block b: "one claim about the list, not a claim per call".
pub record DemandThreeOf (s : List ℕ) (t : ℕ) (b : List ℕ) (calls : List Lent) : Type 0 where
  -- of each block "at first, at each point between moves and after each call"
  pub claimed : {x e : List ℕ} {rest : List Lent} → Comes s AnyLent b calls x rest → Has s x rest e → ClaimedOf s t e
  -- "Objects and bindings are never freed": until the next Start a binding once there keeps its name, type, value and link, an object its number and class
  pub kept : {x d e : List ℕ} {rest : List Lent} → Comes s AnyLent b calls x rest → Later s x rest d e → OfBoth s t Kept d e
  -- "no move makes a thread failed except at a null target or by a failed side", and "failure on null becomes failure on null or on a sum"
  pub fails : {x d e : List ℕ} {o : Option ℕ} {rest : List Lent} → Comes s AnyLent b calls x rest → Next s x rest d o e
      → OfBoth s t (FailsOnNull (code_of s) o) d e
  -- each Run of the list that is not refused stops with 1, 2 or 3 exactly when nothing can move in the block that it leaves, which is then finished, failed or
  -- deadlocked
  pub stops : {x ns : List ℕ} {rest : List Lent} → Comes s AnyLent b calls x (to_run ns ∷ rest) → (run_of s x ns).number ≡ 0 → StopOf s t (run_of s x ns)

-- A Run that goes on where another stopped, the counts added.
abbrev pub run_onto : Ran → Ran → Ran
run_onto r q =
    record { number = q.number; place = q.place; stop = q.stop; read = r.read + q.read; moves = r.moves + q.moves; block = q.block }
