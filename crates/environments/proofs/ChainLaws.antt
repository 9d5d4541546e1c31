-- The chain of an environment, link by link.
use mathlib.Core.Path.{◌≡◌, refl, sym, ap, ◌∙◌}
use mathlib.Core.List.{List, ◌∷◌}
use mathlib.Core.Option.{none, some}
use Prim.Native.Nat.{ℕ, zero, suc, ◌-◌, ◌<◌, ◌≤◌}
use native.Mathlib.Omega.{arith}
use native.Mathlib.Decide.{dec_lt}
use borrow.Author.Tests.{eq-eqb, ne_eqb}
use lib.ListN.{length}
use Rattle.limits.specs.Limits.{BINDINGS}
use Rattle.script.specs.Lists.{named}
use Rattle.machine.specs.declared.Value.{Value}
use Rattle.machine.specs.Config.{Binding}
use Rattle.machine.specs.Machine.{scope, find}
use Rattle.soundness.proofs.Stores.{scope_older, scope_newest, scope_empty}
use Rattle.block.specs.declared.Area.TheVariants.{Bindings}
use Rattle.block.specs.Layout.{word_in, NAME, BOUND, LINK}
use Rattle.block.specs.Values.{value_in}
use Rattle.std.specs.declared.option.Option.{Option as CodeOption}
use Rattle.std.specs.declared.option.Option.TheVariants.{Some, None}
use Rattle.environments.specs.Chains.{binding_count, binding_at, newest, bindings_in, Chain, Nearest, bound_at, unbound, lookup_of}

pub length_newest : {A : Type 0} (f : ℕ → A) (n : ℕ) → length (newest f n) ≡ n
length_newest f zero = refl
length_newest f (suc n) = ap suc (length_newest f n)

-- the environment that begins with the newest binding
scope_last : (f : ℕ → Binding) (n : ℕ) → (f n).link ≤ n → scope (newest f (suc n)) (suc n) ≡ f n ∷ scope (newest f (suc n)) (f n).link
scope_last f n l =
    let m = length_newest f n in
    ap (λ (k : ℕ). scope (newest f (suc n)) (suc k)) (sym m)
    ∙ scope_newest (f n) (newest f n)
    ∙ ap (λ (r : List Binding). f n ∷ r) (sym (scope_older (f n) (newest f n) (f n).link (omega (arith, m))))

-- the environment that begins with binding i goes on as its link says
scope_link : (f : ℕ → Binding) (n i : ℕ) → i < n → (f i).link ≤ i → scope (newest f n) (suc i) ≡ f i ∷ scope (newest f n) (f i).link
scope_link f zero i h l = absurd (omega arith)
scope_link f (suc n) i h l =
    elim (dec_lt i n) [
      | yes k ↦
          let m = length_newest f n in
          scope_older (f n) (newest f n) (suc i) (omega (arith, m))
          ∙ scope_link f n i k l
          ∙ ap (λ (r : List Binding). f i ∷ r) (sym (scope_older (f n) (newest f n) (f i).link (omega (arith, m))))
      | no k ↦ let e : n ≡ i = omega arith in rw e (scope_last f i l)
    ]

-- the same of a block's bindings
pub chain_link : (b : List ℕ) (e i : ℕ) → Chain b e → i < binding_count b → scope (bindings_in b) (suc i) ≡ binding_at b i ∷ scope (bindings_in b) (binding_at b i).link
unfolding bindings_in
chain_link b e i ch h = scope_link (binding_at b) (binding_count b) i h (ch.links i h)

-- A walk along the chain of env that looks for x and has come to e.
pub record Walked (b : List ℕ) (env x e : ℕ) : Type 0 where
  pub within : e ≤ binding_count b
  pub same : find (scope (bindings_in b) env) x ≡ find (scope (bindings_in b) e) x

module _ {b : List ℕ} {env x : ℕ} (ch : Chain b env) where
  pub begun : Walked b env x env
  begun = record { within = ch.within; same = refl }

  module _ {e : ℕ} (w : Walked b env x e) (more : 0 < e) where
    step : find (scope (bindings_in b) env) x ≡ find (binding_at b (e - 1) ∷ scope (bindings_in b) (binding_at b (e - 1)).link) x
    step =
        let s : suc (e - 1) ≡ e = omega arith in
        w.same ∙ ap (λ (l : List Binding). find l x) (ap (scope (bindings_in b)) (sym s) ∙ chain_link b env (e - 1) ch (omega (arith, w.within)))

    pub found : (name : ℕ) → name ≡ word_in b Bindings (e - 1) NAME → name ≡ x → Nearest b env x (Some (e - 1))
    unfolding named
    found name n h =
        let here : find (binding_at b (e - 1) ∷ scope (bindings_in b) (binding_at b (e - 1)).link) x ≡ some (binding_at b (e - 1)) =
        rw (eq-eqb (word_in b Bindings (e - 1) NAME) x (sym n ∙ h))
        in
        bound_at {i = e - 1} (omega (arith, w.within)) (step ∙ here)

    pub reached : e - 1 < BINDINGS
    reached = omega (arith, w.within, ch.few)

    pub nearer : (link : ℕ) → link ≡ word_in b Bindings (e - 1) LINK → link < e
    nearer link l = omega (arith, ch.links (e - 1) (omega (arith, w.within)))

    pub onward : (name link : ℕ) → name ≡ word_in b Bindings (e - 1) NAME → (name ≡ x → ⊥) → link ≡ word_in b Bindings (e - 1) LINK → Walked b env x link
    unfolding named
    onward name link n h l =
        record {
          within = omega (arith, w.within, ch.links (e - 1) (omega (arith, w.within)));
          same = step ∙ rw (ne_eqb (word_in b Bindings (e - 1) NAME) x (λ m. h (n ∙ m)), l);
        }

  pub not_found : {e : ℕ} → Walked b env x e → (0 < e → ⊥) → Nearest b env x None
  unfolding named
  not_found {e} w h =
      let z : e ≡ 0 = omega arith in
      let nothing : find (scope (bindings_in b) e) x ≡ none = rw z (ap (λ (l : List Binding). find l x) (scope_empty (bindings_in b))) in
      unbound (w.same ∙ nothing)

-- What the nearest binding says.
module _ {b : List ℕ} {env x : ℕ} where
  pub nearest_none : {r : CodeOption ℕ} → Nearest b env x r → r ≡ None → find (scope (bindings_in b) env) x ≡ none
  nearest_none (bound_at l e) q = absurd (let z : ◌≡◌ {A = ℕ} 0 1 = cc in omega arith)
  nearest_none (unbound e) q = e

  pub nearest_at : {r : CodeOption ℕ} {i : ℕ} → Nearest b env x r → r ≡ Some i → (i < binding_count b) × (find (scope (bindings_in b) env) x ≡ some (binding_at b i))
  nearest_at {i = i} (bound_at {i = j} l e) q = let z : i ≡ j = cc in rw z (l, e)
  nearest_at (unbound e) q = absurd (let z : ◌≡◌ {A = ℕ} 0 1 = cc in omega arith)

  pub no_value : {r : CodeOption ℕ} → Nearest b env x r → r ≡ None → None ≡ lookup_of (find (scope (bindings_in b) env) x)
  no_value h q = rw (nearest_none h q)

  pub value_at : {r : CodeOption ℕ} {i : ℕ} → Nearest b env x r → r ≡ Some i → (v : Value) → v ≡ value_in (word_in b Bindings i) BOUND → Some v ≡ lookup_of (find (scope (bindings_in b) env) x)
  value_at h q v e = rw ((nearest_at h q).1, e)
