-- What a well-formed configuration gives the moves' contracts, where it is seen in a block.
use mathlib.Core.Path.{◌≡◌, refl}
use mathlib.Core.Bool.{Bool, true, false, cond}
use mathlib.Core.List.{List, [], ◌∷◌}
use mathlib.Core.Option.{Option, some, none-ne-some}
use Prim.Native.Nat.{ℕ, zero, suc, ◌<◌, ◌≤◌}
use native.Mathlib.Omega.{arith}
use native.Mathlib.Decide.{dec_lt}
use lib.Dec.{eqb}
use lib.ListN.{length}
use Rattle.script.specs.declared.Section.TheVariants.{Interfaces as interfaces, Classes as classes, Nodes as nodes}
use Rattle.script.specs.Section.{count_of}
use Rattle.script.specs.Lists.{Every, named}
use Rattle.script.specs.Syntax.{n_bind}
use Rattle.script.specs.Reading.{view_at, program_of}
use Rattle.script.specs.Statements.{WithinLayout}
use Rattle.script.proofs.Reading.{first, in_order}
use Rattle.script.proofs.Declarations.{length_interfaces, length_classes}
use Rattle.typing.specs.Published.{WfEnv}
use Rattle.machine.specs.declared.Value.{Value}
use Rattle.machine.specs.declared.Want.{Want}
use Rattle.machine.specs.declared.Want.TheVariants.{Upto as upto}
use Rattle.machine.specs.Config as machine
use Rattle.machine.specs.Config.{Code, code_of, Object, Binding, Stores}
use Rattle.machine.specs.Machine.{scope, context, find}
use Rattle.machine.specs.WellFormed.{ValueFits, fits_nil, fits_ref, fits_int, BindingOk, BindingsOk, no_bindings, a_binding, StoresOk}
use Rattle.soundness.proofs.Stores.{object_below, fields_long}
use Rattle.machine.proofs.Decide.{context_wf}
use Rattle.block.specs.declared.Area.TheVariants.{Objects, Bindings}
use Rattle.block.specs.Values.{Storable}
use Rattle.environments.specs.Chains.{binding_count, binding_at, newest, bindings_in, lookup_of, Chain, Typed}
use Rattle.environments.proofs.ChainLaws.{length_newest}
use Rattle.state.specs.Represents.{Rest, StateAt}
use Rattle.state.proofs.Seeing.{seen_length, seen_few, objects_counted, bindings_counted}
use Rattle.moves.specs.Performs.{OwnFields, WordBound}
use Rattle.moves.proofs.Laws.{scope_read, bound, looked}

-- the first part of a let is a node
pub let_part : {s : List ℕ} (n x a b : ℕ) → WithinLayout s → n < count_of s nodes → view_at s n ≡ n_bind x a b → a < count_of s nodes
let_part {s} n x a b w l e = (in_order s w n l a (rw e first)).there

-- an object has a value for each field of its class
pub own_fields_lem : {s : Code} {st : Stores} → StoresOk s st → OwnFields s st.objects
own_fields_lem ok o y h = fields_long (ok.heap o y h).fields

-- each of numbered bindings
newest_ok : {s : Code} {xs : List Object} (f : ℕ → Binding) (n i : ℕ) → i < n → BindingsOk s xs (newest f n) → BindingOk s xs i (f i)
newest_ok f zero i h ok = absurd (omega arith)
newest_ok f (suc n) i h (a_binding k ok) =
    elim (dec_lt i n) [
      | yes l ↦ newest_ok f n i l ok
      | no l ↦ let e : i ≡ n = omega arith in rw e (rw (length_newest f n) at k)
    ]

-- what a variable holds fits a type
abbrev Fitting : Code → List Object → Binding → Type 0
Fitting s xs y = ValueFits s xs y.value (upto y.type)

every_either : {A : Type 0} (P : A → Type 0) (q : Bool) (l m : List A) → Every P l → Every P m → Every P (cond q l m)
every_either P true l m p r = p
every_either P false l m p r = r

scope_fits : {s : Code} {xs : List Object} {bs : List Binding} → BindingsOk s xs bs → (e : ℕ) → Every (Fitting s xs) (scope bs e)
scope_fits no_bindings e = _
scope_fits {s} {xs} (a_binding {b = b} {bs = bs} h ok) e = every_either (Fitting s xs) (eqb e (suc (length bs))) (b ∷ scope bs b.link) (scope bs e) (h.value, scope_fits ok b.link) (scope_fits ok e)

found_first : (P : Binding → Type 0) (q : Bool) (d y : Binding) (r : Option Binding) → P d → (r ≡ some y → P y) → cond q (some d) r ≡ some y → P y
found_first P true d y r p k e = let same : d ≡ y = cc in rw same at p
found_first P false d y r p k e = k e

found_every : (P : Binding → Type 0) (l : List Binding) (x : ℕ) (y : Binding) → Every P l → find l x ≡ some y → P y
unfolding named
found_every P [] x y p e = absurd (none-ne-some _ e)
found_every P (d ∷ l) x y p e = found_first P (eqb d.name x) d y (find l x) p.0 (found_every P l x y p.1) e

module _ {b : List ℕ} {i : ℕ} {x : Rest} {st : Stores} {u : machine.Tree} (seen : StateAt b i x st u) where
  -- a value of the stores is a word
  pub value_word : {s : Code} {v : Value} {w : Want} → ValueFits s st.objects v w → Storable v
  value_word (fits_nil m) = _
  value_word (fits_int r m) = r
  value_word (fits_ref {o = o} {x = y} h m) = omega (arith, object_below st.objects o y h, objects_counted seen, seen_few seen Objects)

  module _ {s : List ℕ} (w : WithinLayout s) (ok : BindingsOk (code_of s) st.objects st.bindings) where
    -- each binding of the block
    binding_ok : (k : ℕ) → k < binding_count b → BindingOk (code_of s) st.objects k (binding_at b k)
    unfolding bindings_in
    binding_ok k h = newest_ok (binding_at b) (binding_count b) k h (rw (scope_read seen) ok)

    -- what the look-ups and the let ask of the bindings
    pub seen_chain : (e : ℕ) → e ≤ length st.bindings → Chain b e
    seen_chain e h =
        record {
          long = seen_length seen;
          few = seen_few seen Bindings;
          links = λ k l. (binding_ok k l).link;
          within = omega (arith, bindings_counted seen);
        }

    pub seen_typed : Typed b
    seen_typed k l =
        omega (arith, (binding_ok k l).type, length_interfaces s, length_classes s, w.counts_are.within interfaces, w.counts_are.within classes)

    pub seen_env : (e : ℕ) → WfEnv (program_of s) (context (bindings_in b) e)
    seen_env e = rw (scope_read seen) (context_wf ok e)

    -- what a variable holds is a word
    pub seen_words : (e : ℕ) → WordBound b e
    seen_words e n v q =
        let y = bound (find (scope st.bindings e) n) (lookup_of (find (scope (bindings_in b) e) n)) v (looked e n (lookup_of (find (scope (bindings_in b) e) n)) seen refl) q in
        rw y.is at (value_word (found_every (Fitting (code_of s) st.objects) (scope st.bindings e) n y.binding (scope_fits ok e) y.there))
