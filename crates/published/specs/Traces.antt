-- What the choices of a Run do in the published semantics: each is passed over, or names the place of one published step or of one silent move, or meets a full
-- store.
use Rattle.std.specs.Prelude.{ℕ, suc, ◌+◌, ◌≡◌, List, [], ◌∷◌}
use Rattle.std.proofs.Math.Option.{some}
use Rattle.machine.specs.declared.Store.{Store}
use Rattle.machine.specs.Config.{Code, Config}
use Rattle.machine.specs.Machine.{one_if, Places, spare, Path, locate, part}
use Rattle.machine.specs.CannotMove.{Stays}
use Rattle.machine.specs.FullStore.{ShortAt}
use Rattle.machine.specs.Silent.{SilentAt, same_place}
use Rattle.published.specs.ReadAs.{reading, Steps}
use Rattle.published.specs.Reach.{site}

-- `Transition s c p d`: from c to d at the place p.
pub data Transition (s : Code) (c : Config) (p : Path) (d : Config) : Type 0 where
  -- one published step from reading to reading, made at that place
  published_step : (k : Steps s.program (reading s c) (reading s d)) → site k ≡ p → Transition s c p d
  -- or a silent move of the thread there, which leaves the stores and the reading as they were
  silent_move : SilentAt s p c.tree d.tree → d.stores ≡ c.stores → reading s d ≡ reading s c → Transition s c p d

-- `Trace s lim c ns n d`: the choices ns, all of them read, lead from c to d by n transitions, each made by its choice, in their order.
pub data Trace (s : Code) (lim : Places) : Config → List ℕ → ℕ → Config → Type 0 where
  trace_none : {c : Config} → Trace s lim c [] 0 c
  -- "A position that is absent or cannot move is passed over."
  trace_passes : {c d : Config} {k n : ℕ} {ns : List ℕ} → Stays s c k → Trace s lim c ns n d → Trace s lim c (k ∷ ns) n d
  -- the choice names the position at which the transition is made
  trace_moves : {c d e : Config} {k n : ℕ} {ns : List ℕ} {p : Path} → locate c.tree k ≡ some p → Transition s c p d → Trace s lim d ns n e
      → Trace s lim c (k ∷ ns) (suc n) e
  -- "when the chosen move needs more places than that store has left .., that move not made": no choice is read after it
  trace_full : {c : Config} {k : ℕ} {p : Path} {j : Store} → locate c.tree k ≡ some p
      → ShortAt s (spare lim c.stores c.tree) c.stores c.tree p j → Trace s lim c (k ∷ []) 0 c

-- "A thread makes at most 1,024 silent moves in a row": in this trace the thread at p makes no move but silent ones. Each published step is
-- another's and leaves what is at p as it was.
abbrev pub OnlySilent : {s : Code} {lim : Places} {c d : Config} {ns : List ℕ} {n : ℕ} → Path → Trace s lim c ns n d → Type 0
OnlySilent p trace_none = Unit {0}
OnlySilent p (trace_passes h r) = OnlySilent p r
OnlySilent p (trace_moves {c = c} {d = d} l (published_step k e) r) = (part d.tree p ≡ part c.tree p) × OnlySilent p r
OnlySilent p (trace_moves l (silent_move h e f) r) = OnlySilent p r
OnlySilent p (trace_full l h) = Unit {0}

-- How many silent moves the thread at p makes.
abbrev pub silent_moves : {s : Code} {lim : Places} {c d : Config} {ns : List ℕ} {n : ℕ} → Path → Trace s lim c ns n d → ℕ
silent_moves p trace_none = 0
silent_moves p (trace_passes h r) = silent_moves p r
silent_moves p (trace_moves l (published_step k e) r) = silent_moves p r
silent_moves p (trace_moves {p = q} l (silent_move h e f) r) = one_if (same_place p q) + silent_moves p r
silent_moves p (trace_full l h) = 0
