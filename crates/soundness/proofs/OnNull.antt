-- No move makes a thread failed except at a null target, by a sum outside the range or by a failed side.
use Prim.Native.Nat.{ℕ}
use native.Mathlib.Omega.{arith}
use mathlib.Core.Path.{◌≡◌, refl, ap}
use mathlib.Core.List.{List, []}
use mathlib.Core.Logic.{◌⊎◌, inl, inr, ⊎_elim}
use mathlib.Core.Option.{some}
use Rattle.machine.specs.declared.Frame.{Frame}
use Rattle.machine.specs.Config.{Code, Stores, Tree, failed, Config}
use Rattle.machine.specs.Machine.{Places, spare, moved, Path, here, left, right, move_at, move, part}
use Rattle.machine.specs.Silent.{ChangedAt, changed_here, changed_left, changed_right}
use Rattle.machine.specs.OnNull.{Fails}
use Rattle.soundness.proofs.Outcomes.{Unfailed, u_running, u_returning, u_join, why, Made, made_move, made}

unfailed : {t : Tree} → Unfailed t → (p : Path) → part t p ≡ some failed → ⊥
unfailed u_running here h = let z : ◌≡◌ {A = ℕ} 0 1 = cc in omega arith
unfailed u_running (left p) h = let z : ◌≡◌ {A = ℕ} 0 1 = cc in omega arith
unfailed u_running (right p) h = let z : ◌≡◌ {A = ℕ} 0 1 = cc in omega arith
unfailed u_returning here h = let z : ◌≡◌ {A = ℕ} 0 1 = cc in omega arith
unfailed u_returning (left p) h = let z : ◌≡◌ {A = ℕ} 0 1 = cc in omega arith
unfailed u_returning (right p) h = let z : ◌≡◌ {A = ℕ} 0 1 = cc in omega arith
unfailed u_join here h = let z : ◌≡◌ {A = ℕ} 0 1 = cc in omega arith
unfailed (u_join {a = a} {e = e}) (left p) h = unfailed (u_running {a = a} {e = e} {fs = []}) p h
unfailed (u_join {b = b} {e = e}) (right p) h = unfailed (u_running {a = b} {e = e} {fs = []}) p h

failed_here : (q : Path) → part failed q ≡ some failed → q ≡ here
failed_here here h = refl
failed_here (left q) h = absurd (let z : ◌≡◌ {A = ℕ} 0 1 = cc in omega arith)
failed_here (right q) h = absurd (let z : ◌≡◌ {A = ℕ} 0 1 = cc in omega arith)

module _ (s : Code) (room : Places) (st : Stores) where
  -- the failed thread at q was there before, or the move at p made it
  abbrev Cause : Tree → Path → Path → Type 0
  Cause t p q = (part t q ≡ some failed) ⊎ ((q ≡ p) × (x : Tree) × (part t p ≡ some x) × Fails s st x)

  made_failed : (t u : Tree) (q : Path) → Unfailed u ⊎ ((u ≡ failed) × Fails s st t) → part u q ≡ some failed → Cause t here q
  made_failed t u q (inl x) k = absurd (unfailed x q k)
  made_failed t u q (inr x) k = inr (failed_here q (rw x.0 at k), t, refl, x.1)

  cause : {su : Stores} {p : Path} {t u : Tree} → ChangedAt (λ x y. (above : List Frame) × (move_at s room st above x here ≡ moved su y)) p t u
      → (q : Path) → part u q ≡ some failed → Cause t p q
  cause (changed_here {t = t} {u = u} x) q k = made_failed t u q (rw x.1 at (why s room st x.0 t)).1 k
  cause (changed_left x) here k = absurd (let z : ◌≡◌ {A = ℕ} 0 1 = cc in omega arith)
  cause (changed_left x) (left q) k = ⊎_elim inl (λ c. inr (ap left c.0, c.1, c.2, c.3)) (cause x q k)
  cause (changed_left x) (right q) k = inl k
  cause (changed_right x) here k = absurd (let z : ◌≡◌ {A = ℕ} 0 1 = cc in omega arith)
  cause (changed_right x) (left q) k = inl k
  cause (changed_right x) (right q) k = ⊎_elim inl (λ c. inr (ap right c.0, c.1, c.2, c.3)) (cause x q k)

  cause_made : {su : Stores} {p : Path} {t u : Tree} → Made s room st t p (moved su u) → (q : Path) → part u q ≡ some failed → Cause t p q
  cause_made (made_move x) q k = cause x q k

-- A thread that is failed after a move was failed before it, or stands where the move was made, whose target was null,
-- whose sum was outside the range or one of whose sides was failed.
pub on_null : (lim : Places) (s : Code) (c : Config) (p : Path) {su : Stores} {u : Tree} → move s lim c p ≡ moved su u → (q : Path) → part u q ≡ some failed
    → (part c.tree q ≡ some failed) ⊎ ((q ≡ p) × (t : Tree) × (part c.tree p ≡ some t) × Fails s c.stores t)
unfolding move
on_null lim s c p h q k =
    let room = spare lim c.stores c.tree in
    cause_made s room c.stores (rw h at (made s room c.stores [] c.tree p)) q k
