-- The variables that `fv` lists are those that are free.
use Prim.Native.Nat.{ℕ}
use native.Mathlib.Decide.{ℕ_discrete}
use mathlib.Core.Path.{◌≡◌, refl, sym, ◌∙◌}
use mathlib.Core.Logic.{◌↔◌, ◌⊎◌, ⊎_elim, inl, inr}
use mathlib.Core.List.Memᴰ
use mathlib.Core.List.{List, [], ◌∷◌, ◌++◌}
use borrow.Author.Tests.{eq-eqb, ne_eqb}
use Rattle.script.specs.Lists.{◌∈◌}
use Rattle.script.specs.Syntax.{Expr, null, var, select, update, call, bind, new, cast, fork, lock, constant, add}
use Rattle.typing.specs.Typing.{without, fv}
use Rattle.typing.specs.Published.{Free, free_var, free_select, free_update_target, free_update_part, free_call_target, free_call_part, free_let_first, free_let_last, free_cast, free_fork_left, free_fork_right, free_fork_last, free_lock_target, free_lock_part, free_add_left, free_add_right}

-- what is left of a list without a name
left_over : (x y : ℕ) (l : List ℕ) → x ∈ without y l → (x ∈ l) × (y ≡ x → ⊥)
unfolding without
left_over x y [] m = absurd (Memᴰ.not-nil m)
left_over x y (z ∷ l) m = go (ℕ_discrete z y) (left_over x y l)
  where
    go : Dec (z ≡ y) → (x ∈ without y l → (x ∈ l) × (y ≡ x → ⊥)) → (x ∈ z ∷ l) × (y ≡ x → ⊥)
    go (yes e) f = let r = f (rw (eq-eqb z y e) at m) in (Memᴰ.tail r.0, r.1)
    go (no n) f =
        ⊎_elim
        (λ (e : x ≡ z). (Memᴰ.head e, λ d. n (sym (d ∙ e))))
        (λ k. let r = f k in (Memᴰ.tail r.0, r.1))
        (Memᴰ.cases_cons (rw (ne_eqb z y n) at m))

stays_in : (x y : ℕ) (l : List ℕ) → (y ≡ x → ⊥) → x ∈ l → x ∈ without y l
unfolding without
stays_in x y [] n m = m
stays_in x y (z ∷ l) n m = go (ℕ_discrete z y) (Memᴰ.cases_cons m) (stays_in x y l n)
  where
    go : Dec (z ≡ y) → (x ≡ z) ⊎ (x ∈ l) → (x ∈ l → x ∈ without y l) → x ∈ without y (z ∷ l)
    go (yes e) (inl d) f = absurd (n (sym (d ∙ e)))
    go (yes e) (inr k) f = rw (eq-eqb z y e) (f k)
    go (no a) (inl d) f = rw (ne_eqb z y a) (Memᴰ.head d)
    go (no a) (inr k) f = rw (ne_eqb z y a) (Memᴰ.tail (f k))

module _ (x : ℕ) where
  free_listed : {e : Expr} → Free x e → x ∈ fv e
  unfolding fv
  free_listed free_var = Memᴰ.head refl
  free_listed free_select = Memᴰ.head refl
  free_listed free_update_target = Memᴰ.head refl
  free_listed (free_update_part h) = Memᴰ.tail (free_listed h)
  free_listed free_call_target = Memᴰ.head refl
  free_listed (free_call_part h) = Memᴰ.tail (free_listed h)
  free_listed (free_let_first {y = y} {e₂ = e₂} h) = Memᴰ.append_left (without y (fv e₂)) (free_listed h)
  free_listed (free_let_last {y = y} {e₁ = e₁} {e₂ = e₂} n h) = Memᴰ.append_right (fv e₁) (stays_in x y (fv e₂) n (free_listed h))
  free_listed (free_cast h) = free_listed h
  free_listed (free_fork_left {e₂ = e₂} {e = e} h) = Memᴰ.append_left (fv e₂ ++ fv e) (free_listed h)
  free_listed (free_fork_right {e₁ = e₁} {e = e} h) = Memᴰ.append_right (fv e₁) (Memᴰ.append_left (fv e) (free_listed h))
  free_listed (free_fork_last {e₁ = e₁} {e₂ = e₂} h) = Memᴰ.append_right (fv e₁) (Memᴰ.append_right (fv e₂) (free_listed h))
  free_listed free_lock_target = Memᴰ.head refl
  free_listed (free_lock_part h) = Memᴰ.tail (free_listed h)
  free_listed free_add_left = Memᴰ.head refl
  free_listed free_add_right = Memᴰ.tail (Memᴰ.head refl)

  -- the variable that a node names, or one of the rest
  target_or : (P : ℕ → Type 0) (y : ℕ) (l : List ℕ) → P x → (x ∈ l → P y) → x ∈ y ∷ l → P y
  target_or P y l a f m = ⊎_elim (λ (e : x ≡ y). rw (← e) a) f (Memᴰ.cases_cons m)

  listed_free : (e : Expr) → x ∈ fv e → Free x e
  unfolding fv
  listed_free (null n) m = absurd (Memᴰ.not-nil m)
  listed_free (var n y) m = target_or (λ z. Free x (var n z)) y [] free_var (λ k. absurd (Memᴰ.not-nil k)) m
  listed_free (select n y f) m = target_or (λ z. Free x (select n z f)) y [] free_select (λ k. absurd (Memᴰ.not-nil k)) m
  listed_free (update n y f e) m = target_or (λ z. Free x (update n z f e)) y (fv e) free_update_target (λ k. free_update_part (listed_free e k)) m
  listed_free (call n y f e) m = target_or (λ z. Free x (call n z f e)) y (fv e) free_call_target (λ k. free_call_part (listed_free e k)) m
  listed_free (bind n y e₁ e₂) m =
      ⊎_elim
      (λ k. free_let_first (listed_free e₁ k))
      (λ k. let r = left_over x y (fv e₂) k in free_let_last r.1 (listed_free e₂ r.0))
      (Memᴰ.append_cases (fv e₁) m)
  listed_free (new n c) m = absurd (Memᴰ.not-nil m)
  listed_free (cast n t e) m = free_cast (listed_free e m)
  listed_free (fork n e₁ e₂ e₃) m =
      ⊎_elim
      (λ k. free_fork_left (listed_free e₁ k))
      (λ k. ⊎_elim (λ j. free_fork_right (listed_free e₂ j)) (λ j. free_fork_last (listed_free e₃ j)) (Memᴰ.append_cases (fv e₂) k))
      (Memᴰ.append_cases (fv e₁) m)
  listed_free (lock n y e) m = target_or (λ z. Free x (lock n z e)) y (fv e) free_lock_target (λ k. free_lock_part (listed_free e k)) m
  listed_free (constant n z) m = absurd (Memᴰ.not-nil m)
  listed_free (add n y z) m =
      target_or (λ v. Free x (add n v z)) y (z ∷ []) free_add_left
      (target_or (λ v. Free x (add n y v)) z [] free_add_right (λ k. absurd (Memᴰ.not-nil k)))
      m

-- `fv` lists a variable exactly when it is free in the expression.
pub free_exactly : (x : ℕ) (e : Expr) → (x ∈ fv e) ↔ Free x e
free_exactly x e = (listed_free x e, free_listed x)
