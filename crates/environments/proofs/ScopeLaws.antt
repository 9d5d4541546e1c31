-- The scope of an environment, link by link: the type of one variable, and two environments in step.
use mathlib.Core.Path.{◌≡◌, refl, sym, ap, ◌∙◌}
use mathlib.Core.Bool.{Bool, true, false, cond}
use mathlib.Core.List.{List, [], ◌∷◌, map}
use mathlib.Core.Option
use mathlib.Core.Option.{Option, none, some}
use Prim.Native.Nat.{ℕ, suc, ◌-◌, ◌<◌, ◌≤◌}
use native.Mathlib.Omega.{arith}
use lib.Dec.{eqb}
use Rattle.limits.specs.Limits.{BINDINGS}
use Rattle.script.specs.Lists.{named}
use Rattle.script.specs.Syntax.{Slot}
use Rattle.std.specs.declared.option.Option.{Option as CodeOption}
use Rattle.std.specs.declared.option.Option.TheVariants.{Some, None}
use Rattle.sections.specs.Laid.{found_of}
use Rattle.typing.specs.Members.{type_in}
use Rattle.machine.specs.Config.{Binding}
use Rattle.machine.specs.Machine.{scope, slot, find, context}
use Rattle.block.specs.declared.Area.TheVariants.{Bindings}
use Rattle.block.specs.Layout.{word_in, NAME, TYPE, LINK}
use Rattle.environments.specs.Chains.{binding_count, binding_at, bindings_in, Chain, Nearest}
use Rattle.environments.proofs.ChainLaws.{chain_link, nearest_at, nearest_none}

-- the type under a name is the one of the nearest binding
abbrev type_of : Option Binding → Option ℕ
type_of o = Option.map (λ (b : Binding). b.type) o

type_found : (l : List Binding) (x : ℕ) → type_in (map slot l) x ≡ type_of (find l x)
unfolding type_in named
type_found [] x = refl
type_found (b ∷ l) x = go (eqb b.name x) (type_found l x)
  where
    go : (q : Bool) → type_in (map slot l) x ≡ type_of (find l x)
        → Option.map (λ (d : Slot). d.type) (cond q (some (slot b)) (named (λ (d : Slot). d.name) x (map slot l))) ≡ type_of (cond q (some b) (find l x))
    go true h = refl
    go false h = h

-- what the nearest binding says of the type
module _ {b : List ℕ} {env x : ℕ} {r : CodeOption ℕ} (h : Nearest b env x r) where
  type_as : type_in (context (bindings_in b) env) x ≡ type_of (find (scope (bindings_in b) env) x)
  type_as = type_found (scope (bindings_in b) env) x

  pub type_at : {i : ℕ} → r ≡ Some i → (t : ℕ) → t ≡ word_in b Bindings i TYPE → Some t ≡ found_of (type_in (context (bindings_in b) env) x)
  type_at q t e = rw (type_as, (nearest_at h q).1, e)

  pub no_type : r ≡ None → None ≡ found_of (type_in (context (bindings_in b) env) x)
  no_type q = rw (type_as, nearest_none h q)

-- Two walks in step, along the chains of e and f, have come to i and j.
pub record InStep (b : List ℕ) (e f i j : ℕ) : Type 0 where
  pub left : i ≤ binding_count b
  pub right : j ≤ binding_count b
  pub rest : context (bindings_in b) i ≡ context (bindings_in b) j → context (bindings_in b) e ≡ context (bindings_in b) f

module _ {b : List ℕ} {e : ℕ} (ch : Chain b e) where
  module _ {i : ℕ} (w : i ≤ binding_count b) (more : i ≡ 0 → ⊥) where
    pub place : i - 1 < BINDINGS
    place = omega (arith, ch.few)

    module _ (link : ℕ) (l : link ≡ word_in b Bindings (i - 1) LINK) where
      pub lower : link < i
      lower = omega (arith, ch.links (i - 1) (omega arith))

      context_link : context (bindings_in b) i ≡ slot (binding_at b (i - 1)) ∷ context (bindings_in b) link
      context_link =
          let s : suc (i - 1) ≡ i = omega arith in
          ap (map slot) (ap (scope (bindings_in b)) (sym s) ∙ chain_link b e (i - 1) ch (omega arith)) ∙ rw l

  pub in_step : {f : ℕ} → Chain b f → InStep b e f e f
  in_step d = record { left = ch.within; right = d.within; rest = λ h. h }

  pub step_both :
      {f i j : ℕ} (k l : ℕ)
      → InStep b e f i j
      → (i ≡ 0 → ⊥)
      → (j ≡ 0 → ⊥)
      → slot (binding_at b (i - 1)) ≡ slot (binding_at b (j - 1))
      → k ≡ word_in b Bindings (i - 1) LINK
      → l ≡ word_in b Bindings (j - 1) LINK
      → InStep b e f k l
  step_both {i = i} {j = j} k l w m n h ek el =
      record {
        left = omega (arith, w.left, lower w.left m k ek);
        right = omega (arith, w.right, lower w.right n l el);
        rest = λ r. w.rest (context_link w.left m k ek ∙ ap2 h r ∙ sym (context_link w.right n l el));
      }
    where
      ap2 : {c d : Slot} {Γ Δ : List Slot} → c ≡ d → Γ ≡ Δ → c ∷ Γ ≡ d ∷ Δ
      ap2 p q = cc

pub met : {b : List ℕ} {e f i j : ℕ} → InStep b e f i j → (i ≡ j) → context (bindings_in b) e ≡ context (bindings_in b) f
met {b} w h = w.rest (ap (context (bindings_in b)) h)

-- two bindings with one name and one type
pub slot_same : (b : List ℕ) (i j x y t u : ℕ)
    → x ≡ word_in b Bindings i NAME → y ≡ word_in b Bindings j NAME → x ≡ y → t ≡ word_in b Bindings i TYPE → u ≡ word_in b Bindings j TYPE → t ≡ u
    → slot (binding_at b i) ≡ slot (binding_at b j)
slot_same b i j x y t u ex ey h et eu k = rw (← ex, ← ey, ← et, ← eu, h, k)
