-- What the code is lent: chains of bindings, and the types in them.
use mathlib.Core.Path.{◌≡◌}
use mathlib.Core.Bool.{Bool, true, false, cond}
use mathlib.Core.List.Memᴰ
use mathlib.Core.List.{List, ◌∷◌, map}
use mathlib.Core.Logic.{⊎_elim}
use Prim.Native.Nat.{ℕ, zero, suc, ◌+◌, ◌<◌, ◌≤◌}
use native.Mathlib.Omega.{arith}
use lib.Dec.{eqb}
use lib.ListN.{length}
use Rattle.words.specs.Word.{WORD}
use Rattle.limits.specs.Limits.{NODES}
use Rattle.script.specs.declared.Section.TheVariants.{Nodes as nodes}
use Rattle.script.specs.Lists.{◌∈◌}
use Rattle.script.specs.Section.{count_of}
use Rattle.script.specs.Statements.{WithinLayout}
use Rattle.script.specs.Syntax.{Slot, Program}
use Rattle.script.specs.Reading.{program_of}
use Rattle.script.specs.Regular.{IsType}
use Rattle.typing.specs.Published.{WfEnv, WF-ENV}
use Rattle.typing.proofs.Types.{type_wf}
use Rattle.inference.proofs.InferLaws.{type_small}
use Rattle.machine.specs.Config.{Binding}
use Rattle.machine.specs.Machine.{scope, slot, context}
use Rattle.block.specs.declared.Area.TheVariants.{Bindings}
use Rattle.environments.specs.Chains.{binding_count, binding_at, newest, bindings_in, Chain, Typed}
use Rattle.environments.specs.Known.{ScopedNode}
use Rattle.environments.proofs.ChainLaws.{length_newest}
use Rattle.awaited.specs.Awaited.{ScopedBlock, NodeUnder}

-- the bindings of an environment are some of the block's
scope_types :
    (p : Program) (f : ℕ → Binding) (n : ℕ) → ((i : ℕ) → i < n → IsType p (f i).type) → (e : ℕ) (d : Slot) → d ∈ map slot (scope (newest f n) e) → IsType p d.type
scope_types p f zero h e d m = absurd (Memᴰ.not-nil m)
scope_types p f (suc n) h e d m =
    go (eqb e (suc (length (newest f n)))) (λ l. scope_types p f n (λ i k. h i (omega arith)) l d) m
  where
    go : (q : Bool) → ((l : ℕ) → d ∈ map slot (scope (newest f n) l) → IsType p d.type)
        → d ∈ map slot (cond q (f n ∷ scope (newest f n) (f n).link) (scope (newest f n) e)) → IsType p d.type
    go true rec k = ⊎_elim (λ (q : d ≡ slot (f n)). rw q (h n (omega arith))) (λ z. rec (f n).link z) (Memᴰ.cases_cons k)
    go false rec k = rec e k

pub bindings_length : (b : List ℕ) → length (bindings_in b) ≡ binding_count b
unfolding bindings_in
bindings_length b = length_newest (binding_at b) (binding_count b)

module _ {s b : List ℕ} (w : WithinLayout s) (y : ScopedBlock s b) where
  pub chain : (e : ℕ) → e ≤ binding_count b → Chain b e
  chain e h = record { long = y.in_order.long; few = (y.in_order.areas Bindings).few; links = y.links; within = h }

  pub typed : Typed b
  typed i h = omega (arith, type_small w _ (y.types i h))

  pub well : (e : ℕ) → WfEnv (program_of s) (context (bindings_in b) e)
  unfolding bindings_in
  well e = WF-ENV (λ d m. (type_wf (program_of s) d.type).0 (scope_types (program_of s) (binding_at b) (binding_count b) y.types e d m))

  pub scoped_at : {n e : ℕ} → NodeUnder s b n e → ScopedNode s b e n
  scoped_at {e = e} u = record { there = u.node; chain = chain e u.environment; types = well e }

  pub small_node : {n : ℕ} → n < count_of s nodes → n < NODES
  small_node h = omega (arith, w.counts_are.within nodes)

  pub small_environment : {e : ℕ} → e ≤ binding_count b → e + 1 < WORD
  small_environment l = omega (arith, (y.in_order.areas Bindings).few)
