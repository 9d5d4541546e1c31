-- How a published step is reached: one Run makes silent moves, and then the step, all where the step is made.
use Rattle.std.specs.Prelude.{ℕ, suc, ◌+◌, ◌*◌, ◌≤◌, ◌<◌, ◌≡◌, true, false, cond, List, [], ◌∷◌, ◌++◌, ◌⊎◌, length}
use Rattle.std.proofs.Math.Option.{some}
use Rattle.limits.specs.Limits.{CHOICES, SILENT}
use Rattle.script.specs.Lists.{◌∈◌}
use Rattle.script.specs.Syntax.{Program}
use Rattle.machine.specs.declared.Store.{Store}
use Rattle.machine.specs.declared.Stop.TheVariants.{Full}
use Rattle.machine.specs.Config.{Code, Stores, Tree, Config}
use Rattle.machine.specs.Machine.{Places, full, moved, Path, here, left, right, move, locate, part}
use Rattle.published.specs.Steps.{PTree, World, Step, reduces, DYN-EVAL-CONTEXT, DYN-EVAL-SPAWN-CONTEXT, DYN-EXCEPTION-CONTEXT}
use Rattle.published.specs.Steps.{DYN-EVAL-ASYNC-LEFT, DYN-EVAL-ASYNC-RIGHT, DYN-EVAL-ASYNC-JOIN, DYN-EXCEPTION-ASYNC-LEFT}
use Rattle.published.specs.Steps.{DYN-EXCEPTION-ASYNC-RIGHT}
use Rattle.published.specs.ReadAs.{Reading, reading}
use Rattle.machine.specs.Silent.{same_place, quiet_in, due}
use Rattle.machine.specs.Runs.{report}

abbrev pub visits : Path → List Path → ℕ
visits p [] = 0
visits p (q ∷ ps) = cond (same_place p q) (suc (visits p ps)) (visits p ps)

-- `Quietly s lim c ns ps d`: from c these choices name these places, whose moves are silent, and lead to d.
pub data Quietly (s : Code) (lim : Places) : Config → List ℕ → List Path → Config → Type 0 where
  no_choice : {c : Config} → Quietly s lim c [] [] c
  a_choice : {c d : Config} {st : Stores} {t : Tree} {n : ℕ} {ns : List ℕ} {p : Path} {ps : List Path} → locate c.tree n ≡ some p
      → quiet_in s (part c.tree p) ≡ true → move s lim c p ≡ moved st t
      → Quietly s lim (record { stores = st; tree = t }) ns ps d → Quietly s lim c (n ∷ ns) (p ∷ ps) d

-- The place of a published step: in a side of a join by the two rules that say so, else the root.
abbrev pub site : {p : Program} {W X : World} {T U : PTree} → Step p W T X U → Path
site (reduces h) = here
site (DYN-EVAL-CONTEXT E e h) = here
site (DYN-EVAL-SPAWN-CONTEXT E e h) = here
site (DYN-EXCEPTION-CONTEXT E e h) = here
site (DYN-EVAL-ASYNC-LEFT h) = left (site h)
site (DYN-EVAL-ASYNC-RIGHT h) = right (site h)
site DYN-EVAL-ASYNC-JOIN = here
site DYN-EXCEPTION-ASYNC-LEFT = here
site DYN-EXCEPTION-ASYNC-RIGHT = here

-- A place, or one of the two sides of a join there.
pub data Near : Path → Path → Type 0 where
  itself : Near here here
  left_side : Near here (left here)
  right_side : Near here (right here)
  in_left : {p q : Path} → Near p q → Near (left p) (left q)
  in_right : {p q : Path} → Near p q → Near (right p) (right q)

-- "each open published step can be reached by choices, unless a store is full": one Run makes silent moves ("at most 1,024" of any one thread) and then a move
-- to what reads as q. All are made at the place p of the step (or, for a join, by its sides); only the last can meet a full store, so it is the stepping thread
-- that has too few places left.
pub record OneRun (s : Code) (lim : Places) (c : Config) (q : Reading) (p : Path) : Type 0 where
  pub silent : List ℕ
  pub places : List Path
  pub last : ℕ
  pub middle : Config
  pub quietly : Quietly s lim c silent places middle
  pub near : (o : Path) → o ∈ places → Near p o
  -- each thread makes as many as its count falls
  pub counts : (o : Path) → visits o places + due s (part middle.tree o) ≡ due s (part c.tree o)
  pub rows : (o : Path) → visits o places ≤ SILENT
  pub unread : reading s middle ≡ reading s c
  pub there : locate middle.tree last ≡ some p
  pub short : suc (length silent) ≤ CHOICES
  -- every choice is below twice the threads of a full tree, less one: below 63
  pub bytes : (n : ℕ) → n ∈ silent ++ (last ∷ []) → n + 1 < 2 * lim.threads
  -- the last choice, at p, meets a full store, or it makes the step, which is not silent
  pub ends : ((k : Store) × ((report s lim c (silent ++ (last ∷ []))).stop ≡ Full k) × (move s lim middle p ≡ full k))
      ⊎ (((report s lim c (silent ++ (last ∷ []))).moves ≡ suc (length silent))
      × (reading s (report s lim c (silent ++ (last ∷ []))).config ≡ q) × (quiet_in s (part middle.tree p) ≡ false))
