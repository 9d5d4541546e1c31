-- The points between moves of a Run: what it leaves with only its first choices.
use Prim.Native.Nat.{ℕ, zero, suc, ◌≤◌}
use native.Mathlib.Omega.{arith}
use mathlib.Core.Path.{◌≡◌, refl, ap}
use mathlib.Core.List.{List, [], ◌∷◌, ◌++◌}
use mathlib.Core.Logic.{◌⊎◌, inl, inr, ⊎_elim}
use mathlib.Core.Option.{Option, none, some}
use lib.ListN.{get_or, take}
use Rattle.machine.specs.declared.Ending.{Ending}
use Rattle.machine.specs.declared.Stop.{Stop}
use Rattle.machine.specs.declared.Stop.TheVariants.{Spent, Ended, Full}
use Rattle.machine.specs.Config.{Code, Stores, Tree, Config}
use Rattle.machine.specs.Machine.{limits, Outcome, still, full, moved, Path, here, left, right, locate, chosen, choice, initial}
use Rattle.machine.specs.WellFormed.{WellFormed}
use Rattle.machine.specs.Accepted.{AcceptedCode}
use Rattle.machine.specs.Runs.{Report, unless, follow, look, report}
use Rattle.machine.specs.Promise.{Kept, FailsOnNull}
use Rattle.soundness.proofs.OnNull.{on_null}
use Rattle.soundness.proofs.Run.{run_leaves, run_same, run_more}
use Rattle.soundness.proofs.Promise.{run_keeps, kept_same}

-- the first choices go on to more of them; one more is the next, if there is one
more_taken : (m n : ℕ) (ns : List ℕ) → m ≤ n → (r : List ℕ) × (take n ns ≡ take m ns ++ r)
more_taken zero n ns l = (take n ns, refl)
more_taken (suc m) zero ns l = absurd (omega arith)
more_taken (suc m) (suc n) [] l = ([], refl)
more_taken (suc m) (suc n) (x ∷ ns) l = let q = more_taken m n ns (omega arith) in (q.0, ap (λ (k : List ℕ). x ∷ k) q.1)

one_taken : (n : ℕ) (ns : List ℕ) → (take (suc n) ns ≡ take n ns) ⊎ (take (suc n) ns ≡ take n ns ++ (get_or ns n 0 ∷ []))
one_taken zero [] = inl refl
one_taken (suc n) [] = inl refl
one_taken zero (x ∷ ns) = inr refl
one_taken (suc n) (x ∷ ns) = ⊎_elim (λ e. inl (ap (λ (k : List ℕ). x ∷ k) e)) (λ e. inr (ap (λ (k : List ℕ). x ∷ k) e)) (one_taken n ns)

module _ (s : Code) where
  -- with more choices a run has stopped, or goes on with them
  more_choices : (ns ms : List ℕ) (c : Config) → ((report s limits c (ns ++ ms)).config ≡ (report s limits c ns).config) ⊎ ((report s limits c (ns ++ ms)).config ≡ (report s limits (report s limits c ns).config ms).config)
  more_choices ns ms c = go (report s limits c ns).stop refl
    where
      go : (j : Stop) → (report s limits c ns).stop ≡ j
          → ((report s limits c (ns ++ ms)).config ≡ (report s limits c ns).config) ⊎ ((report s limits c (ns ++ ms)).config ≡ (report s limits (report s limits c ns).config ms).config)
      go Spent e = inr (ap (λ (r : Report). r.config) (run_more s limits ns ms c e))
      go (Ended k) e = inl (ap (λ (r : Report). r.config) (run_same s limits ns ms c (λ i. let z : ◌≡◌ {A = ℕ} 0 1 = cc in omega arith)))
      go (Full k) e = inl (ap (λ (r : Report). r.config) (run_same s limits ns ms c (λ i. let z : ◌≡◌ {A = ℕ} 0 1 = cc in omega arith)))

  -- one choice
  module _ (d : Config) (x : ℕ) where
    place_fails : {st : Stores} {t : Tree} (o : Option Path) → locate d.tree x ≡ o → chosen s limits d o ≡ moved st t → FailsOnNull s (some x) d (record { stores = st; tree = t })
    place_fails none z i q k = absurd (let z : ◌≡◌ {A = ℕ} 0 1 = cc in omega arith)
    place_fails (some p) z i q k = ⊎_elim inl (λ w. inr (rw w.0 z, w.1, rw w.0 w.2, w.3)) (on_null limits s d p i q k)

    choice_fails : (o : Outcome) → choice s limits d x ≡ o → FailsOnNull s (some x) d (follow d (λ e. report s limits e []) o).config
    unfolding choice report
    choice_fails still e = λ q k. inl k
    choice_fails (full j) e = λ q k. inl k
    choice_fails (moved st t) e = place_fails (locate d.tree x) refl e

    look_fails : (o : Option Ending) → FailsOnNull s (some x) d (unless o d (λ e. follow e (λ c. report s limits c []) (choice s limits e x))).config
    look_fails none = choice_fails (choice s limits d x) refl
    look_fails (some k) = λ q i. inl i

    run_fails : FailsOnNull s (some x) d (report s limits d (x ∷ [])).config
    unfolding report
    run_fails = look_fails (look s limits d)

  -- With one choice more a thread fails at the place that it names, on null or by a failed side.
  pub next_fails : (n : ℕ) (ns : List ℕ) (c : Config) → FailsOnNull s (some (get_or ns n 0)) (report s limits c (take n ns)).config (report s limits c (take (suc n) ns)).config
  next_fails n ns c =
      ⊎_elim (λ e. rw e (λ q k. inl k))
      (λ e. rw e (⊎_elim (λ i. rw i (λ q k. inl k)) (λ i. rw i (run_fails (report s limits c (take n ns)).config (get_or ns n 0))) (more_choices (take n ns) (get_or ns n 0 ∷ []) c)))
      (one_taken n ns)

  -- No thread is failed at the start.
  pub start_fails : (d : Config) → FailsOnNull s none d initial
  start_fails d here k = let z : ◌≡◌ {A = ℕ} 0 1 = cc in absurd (omega arith)
  start_fails d (left q) k = let z : ◌≡◌ {A = ℕ} 0 1 = cc in absurd (omega arith)
  start_fails d (right q) k = let z : ◌≡◌ {A = ℕ} 0 1 = cc in absurd (omega arith)

-- A Run with more choices keeps the objects and bindings that it had with fewer.
pub more_keeps : {s : Code} {start : ℕ} (acc : AcceptedCode s start) (m n : ℕ) (ns : List ℕ) (c : Config) → m ≤ n → WellFormed s limits start c
    → Kept (report s limits c (take m ns)).config (report s limits c (take n ns)).config
more_keeps {s} acc m n ns c l h =
    let q = more_taken m n ns l in
    let d = (report s limits c (take m ns)).config in
    rw q.1 (⊎_elim (λ e. rw e (kept_same d)) (λ e. rw e (run_keeps acc limits q.0 d (run_leaves acc limits (take m ns) c h).formed)) (more_choices s (take m ns) q.0 c))
