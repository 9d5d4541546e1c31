-- A run has spent its choices exactly when all are read, the last met no full store and something can move.
use Prim.Native.Nat.{ℕ}
use native.Mathlib.Omega.{arith}
use mathlib.Core.Path.{◌≡◌, refl, sym, ◌∙◌, ap}
use mathlib.Core.List.{List}
use lib.ListN.{length}
use Rattle.machine.specs.declared.Store.{Store}
use Rattle.machine.specs.declared.Stop.{Stop}
use Rattle.machine.specs.declared.Stop.TheVariants.{Spent, Full}
use Rattle.machine.specs.Config.{Code, Config}
use Rattle.machine.specs.Machine.{Places}
use Rattle.machine.specs.WellFormed.{WellFormed}
use Rattle.machine.specs.Accepted.{AcceptedCode}
use Rattle.machine.specs.Runs.{Report, report, CanMove, StopMeans, spent, at_end, no_places, LastFull}
use Rattle.soundness.proofs.Run.{last_full, full_last, run_leaves, run_all}

-- of what a run leaves with its choices spent something can move; and with any other stop either nothing can, or a store is full
can_move_lem : {s : Code} {lim : Places} {c : Config} → StopMeans s lim c Spent → CanMove s lim c
can_move_lem (spent m) = m

no_other : {s : Code} {lim : Places} {c : Config} {j : Stop} → StopMeans s lim c j → CanMove s lim c → ((k : Store) → j ≡ Full k → ⊥) → j ≡ Spent
no_other (spent m) k f = refl
no_other (at_end e n) k f = absurd (k.can (n k.position))
no_other (no_places {k = k} n e) m f = absurd (f k refl)

module _ {s : Code} {start : ℕ} (acc : AcceptedCode s start) (lim : Places) where
  pub stop_spent : (ns : List ℕ) (c : Config) → WellFormed s lim start c → (report s lim c ns).stop ≡ Spent
      → ((report s lim c ns).read ≡ length ns) × CanMove s lim (report s lim c ns).config × ((k : Store) → LastFull s lim c ns (report s lim c ns) k → ⊥)
  stop_spent ns c h z = (run_all s lim ns c z, can_move_lem (rw z at (run_leaves acc lim ns c h).means), λ k x. apart k (sym z ∙ ap (λ (r : Report). r.stop) (full_last s lim x)))
    where
      apart : (k : Store) → Spent ≡ Full k → ⊥
      apart k e = let z : ◌≡◌ {A = ℕ} 0 1 = cc in omega arith

  pub spent_stop : (ns : List ℕ) (c : Config) → WellFormed s lim start c → CanMove s lim (report s lim c ns).config → ((k : Store) → LastFull s lim c ns (report s lim c ns) k → ⊥)
      → (report s lim c ns).stop ≡ Spent
  spent_stop ns c h m f = no_other (run_leaves acc lim ns c h).means m (λ k z. f k (last_full s lim ns c z))
