-- Why a move makes a thread failed: '"on null" says that no move makes a thread failed except at a null target or by a failed side', and "failure on null
-- becomes failure on null or on a sum".
use Rattle.std.specs.Prelude.{ℕ, ◌≡◌, List, ◌∷◌, ℤ, ◌+ℤ◌}
use Rattle.words.specs.Integer.{InRange}
use Rattle.script.specs.Syntax.{Point, n_select, n_update, n_call, n_lock, n_add}
use Rattle.machine.specs.declared.Value.{Value}
use Rattle.machine.specs.declared.Value.TheVariants.{Null as nil, Int as int}
use Rattle.machine.specs.declared.Frame.{Frame}
use Rattle.machine.specs.declared.Frame.TheVariants.{Awaits as awaits}
use Rattle.machine.specs.Config.{Code, Stores, Tree, running, returning, failed, join}
use Rattle.machine.specs.Machine.{ValueOf}

-- The move due has a null target, or is a sum outside the range, or a side of the join is a failed thread.
pub data Fails (s : Code) (st : Stores) : Tree → Type 0 where
  null_read : {a : Point} {x f e : ℕ} {fs : List Frame} → s.view a ≡ n_select x f → ValueOf st e x nil → Fails s st (running a e fs)
  null_lock : {a b : Point} {x e : ℕ} {fs : List Frame} → s.view a ≡ n_lock x b → ValueOf st e x nil → Fails s st (running a e fs)
  null_write : {n a : Point} {x f e : ℕ} {v : Value} {fs : List Frame} → s.view n ≡ n_update x f a → ValueOf st e x nil
      → Fails s st (returning v (awaits n e ∷ fs))
  null_call : {n a : Point} {x m e : ℕ} {v : Value} {fs : List Frame} → s.view n ≡ n_call x m a → ValueOf st e x nil
      → Fails s st (returning v (awaits n e ∷ fs))
  sum_outside : {a : Point} {x y e : ℕ} {i j : ℤ} {fs : List Frame} → s.view a ≡ n_add x y → ValueOf st e x (int i) → ValueOf st e y (int j)
      → (InRange (i +ℤ j) → ⊥) → Fails s st (running a e fs)
  left_failed : {fs : List Frame} {a : Point} {e : ℕ} {l r : Tree} → l ≡ failed → Fails s st (join fs a e l r)
  right_failed : {fs : List Frame} {a : Point} {e : ℕ} {l r : Tree} → r ≡ failed → Fails s st (join fs a e l r)
