-- Runs: "Run reads choices." It "first looks, then looks after every choice".
use Rattle.std.specs.Prelude.{ℕ, zero, suc, ◌+◌, ◌≡◌, Bool, true, false, cond, List, [], ◌∷◌, ◌++◌, length}
use Rattle.std.proofs.Math.Option.{Option, none, some}
use Rattle.machine.specs.declared.Store.{Store}
use Rattle.machine.specs.declared.Ending.{Ending}
use Rattle.machine.specs.declared.Stop.{Stop}
use Rattle.machine.specs.declared.Stop.TheVariants.{Spent, Ended, Full}
use Rattle.machine.specs.Config.{Code, Stores, Tree, Config}
use Rattle.machine.specs.Machine.{Places, Outcome, still, full, moved, phase, size, choice, can_move}
use Rattle.machine.specs.WellFormed.{WellFormed}
use Rattle.machine.specs.Ends.{ending, End}

-- Whether one of the first n positions can move.
abbrev pub any_able : Code → Places → Config → ℕ → Bool
any_able s lim c zero = false
any_able s lim c (suc n) = cond (can_move s lim c n) true (any_able s lim c n)

-- What Run sees when it looks: how the run has ended, if it has.
unfoldable pub look : Code → Places → Config → Option Ending
look s lim c = ending (phase c.tree) (any_able s lim c (size c.tree))

-- The stop, "choices read and moves made", and what the run leaves.
pub record Report : Type 0 where
  pub stop : Stop
  pub read : ℕ
  pub moves : ℕ
  pub config : Config

abbrev pub stopped : Stop → Config → Report
stopped j c = record { stop = j; read = 0; moves = 0; config = c }

-- The report of a run that first passed over a choice, or made a move.
abbrev pub passed : Report → Report
passed r = record { stop = r.stop; read = suc r.read; moves = r.moves; config = r.config }

abbrev pub made : Report → Report
made r = record { stop = r.stop; read = suc r.read; moves = suc r.moves; config = r.config }

-- The run stops where it has ended, and else goes on.
abbrev pub unless : Option Ending → Config → (Config → Report) → Report
unless none c go = go c
unless (some k) c go = stopped (Ended k) c

-- "A position that is absent or cannot move is passed over." "passed-over choices and the one that met a full store count as read", "that move not made".
abbrev pub follow : Config → (Config → Report) → Outcome → Report
follow c go still = passed (go c)
follow c go (full k) = passed (stopped (Full k) c)
follow c go (moved st t) = made (go (record { stores = st; tree = t }))

-- With no choice left: "Otherwise 0, choices spent; 1 to 3 win over 0."
abbrev pub spent_unless : Option Ending → Stop
spent_unless none = Spent
spent_unless (some k) = Ended k

-- The run from a configuration with these choices.
unfoldable pub report : Code → Places → Config → List ℕ → Report
report s lim c [] = stopped (spent_unless (look s lim c)) c
report s lim c (n ∷ ns) = unless (look s lim c) c (λ d. follow d (λ e. report s lim e ns) (choice s lim d n))

-- What each choice did, as a plain statement. A run has ended; or it has no choice left; or the first choice is passed over, makes its move, or meets a full
-- store.
pub data Runs (s : Code) (lim : Places) : Config → List ℕ → Report → Type 0 where
  ends : {c : Config} {ns : List ℕ} {k : Ending} → look s lim c ≡ some k → Runs s lim c ns (record { stop = Ended k; read = 0; moves = 0; config = c })
  spends : {c : Config} → look s lim c ≡ none → Runs s lim c [] (record { stop = Spent; read = 0; moves = 0; config = c })
  passes : {c : Config} {n : ℕ} {ns : List ℕ} {r : Report} → look s lim c ≡ none → choice s lim c n ≡ still → Runs s lim c ns r
      → Runs s lim c (n ∷ ns) (record { stop = r.stop; read = suc r.read; moves = r.moves; config = r.config })
  makes : {c : Config} {st : Stores} {t : Tree} {n : ℕ} {ns : List ℕ} {r : Report} → look s lim c ≡ none → choice s lim c n ≡ moved st t
      → Runs s lim (record { stores = st; tree = t }) ns r
      → Runs s lim c (n ∷ ns) (record { stop = r.stop; read = suc r.read; moves = suc r.moves; config = r.config })
  fills : {c : Config} {n : ℕ} {k : Store} {ns : List ℕ} → look s lim c ≡ none → choice s lim c n ≡ full k
      → Runs s lim c (n ∷ ns) (record { stop = Full k; read = 1; moves = 0; config = c })

-- A position that can move.
pub record CanMove (s : Code) (lim : Places) (c : Config) : Type 0 where
  pub position : ℕ
  pub can : choice s lim c position ≡ still → ⊥

-- What holds of the configuration that a run leaves with its stop: a position can move; or the run has come to one of the three ends, and none can; or a store
-- is full for a move that is due.
pub data StopMeans (s : Code) (lim : Places) (c : Config) : Stop → Type 0 where
  spent : CanMove s lim c → StopMeans s lim c Spent
  at_end : {k : Ending} → End s c k → ((n : ℕ) → choice s lim c n ≡ still) → StopMeans s lim c (Ended k)
  no_places : {k : Store} (n : ℕ) → choice s lim c n ≡ full k → StopMeans s lim c (Full k)

-- What a run leaves.
pub record Leaves (s : Code) (lim : Places) (t : ℕ) (r : Report) : Type 0 where
  pub formed : WellFormed s lim t r.config
  pub means : StopMeans s lim r.config r.stop

-- The last choice read met this full store: it does where the run with the choices before it leaves off.
pub record LastFull (s : Code) (lim : Places) (c : Config) (ns : List ℕ) (r : Report) (k : Store) : Type 0 where
  pub before : List ℕ
  pub last : ℕ
  pub after : List ℕ
  pub split : ns ≡ before ++ (last ∷ after)
  pub count : r.read ≡ suc (length before)
  pub met : choice s lim (report s lim c before).config last ≡ full k

-- A run that goes on where another stopped, the counts added.
abbrev pub onto : Report → Report → Report
onto r q = record { stop = q.stop; read = r.read + q.read; moves = r.moves + q.moves; config = q.config }
