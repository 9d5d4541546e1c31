-- The look-up of a target: what it finds, and what a move with that target comes to.
use mathlib.Core.Path.{◌≡◌, refl, sym, ap, subst, ◌∙◌}
use mathlib.Core.Bool.{false}
use mathlib.Core.List.{List, [], ◌∷◌}
use mathlib.Core.Option.{Option, none, some}
use Prim.Native.Nat.{ℕ, zero, suc, ◌<◌, ◌≤◌}
use native.Mathlib.Omega.{arith}
use lib.IntN.{ℤ}
use lib.ListN.{length, get_or}
use Rattle.words.specs.Word.{bytes}
use Rattle.limits.specs.Limits.{OBJECTS}
use Rattle.script.specs.Lists.{◌∈◌}
use Rattle.machine.specs.declared.Value.{Value}
use Rattle.machine.specs.declared.Value.TheVariants.{Null as nil, Ref as ref, Int as int}
use Rattle.machine.specs.declared.Frame.{Frame}
use Rattle.machine.specs.Config as machine
use Rattle.machine.specs.Config.{Code, Object, Binding, Stores, failed}
use Rattle.machine.specs.Machine.{object as lookup, Outcome, still, moved, select_object, select_target, update_object, update_target, call_object, call_target, lock_object, lock_target}
use Rattle.block.specs.declared.Area.TheVariants.{Objects}
use Rattle.block.specs.Layout.{width, counted, word_in}
use Rattle.block.specs.Block.{object_words, Parts, laid}
use Rattle.block.specs.Fits.{Few}
use Rattle.representation.proofs.Ordered.{at_in}
use Rattle.std.specs.declared.option.Option.{Option as CodeOption}
use Rattle.std.specs.declared.option.Option.TheVariants.{Some, None}
use Rattle.environments.specs.Chains.{lookup_of}
use Rattle.environments.proofs.LaidLaws.{object_cell, object_there, object_absent}
use Rattle.state.specs.Represents.{Rest, StateAt}
use Rattle.state.proofs.Seeing.{objects_counted, seen_few}
use Rattle.moves.specs.Targets.{TargetIs, target_unbound, target_absent, target_number, target_null, target_object}
use Rattle.moves.proofs.Laws.{unbound_not, bound_same, not_bound, bound}

pub blank_object : Object
blank_object = record { class = 0; shut = false; fields = [] }

-- an object that is there, and a word of its record
pub object_is : (xs : List Object) (o : ℕ) (y d : Object) → lookup xs o ≡ some y → (o < length xs) × (get_or xs o d ≡ y)
object_is [] o y d e = absurd (let z : ◌≡◌ {A = ℕ} 0 1 = cc in omega arith)
object_is (x ∷ xs) zero y d e = (omega arith, cc)
object_is (x ∷ xs) (suc o) y d e = let r = object_is xs o y d e in (omega (arith, r.0), r.1)

pub object_in_lem : (xs : List Object) (o : ℕ) (y : Object) → lookup xs o ≡ some y → y ∈ xs
object_in_lem xs o y e = let r = object_is xs o y blank_object e in rw r.1 at (at_in xs o blank_object r.0)

pub object_word : {b : List ℕ} (p : Parts) (y : Object) (o j word : ℕ) → b ≡ bytes (laid p) → Few p → lookup p.objects o ≡ some y → j < width Objects → word ≡ word_in b Objects o j
    → word ≡ get_or (object_words y) j 0
object_word p y o j word is few there l w =
    let r = object_is p.objects o y blank_object there in
    w ∙ object_cell p is few o j blank_object r.0 l ∙ ap (λ (z : Object). get_or (object_words z) j 0) r.1

-- what the code finds, q being the binding of the target variable
module _ {b : List ℕ} {i : ℕ} {x : Rest} {st : Stores} {u : machine.Tree} (seen : StateAt b i x st u) (q : Option Binding) (found : CodeOption Value) (e : found ≡ lookup_of q) where
  pub finds_nothing : found ≡ None → TargetIs st.objects q None
  finds_nothing h = rw (not_bound q found e h) target_unbound

  module _ (v : Value) (h : found ≡ Some v) where
    pub finds_null : v ≡ nil → TargetIs st.objects q (Some v)
    finds_null k = let y = bound q found v e h in rw y.there (subst (λ (w : Value). TargetIs st.objects (some y.binding) (Some w)) (sym k) (target_null (y.is ∙ k)))

    pub finds_number : (z : ℤ) → v ≡ int z → TargetIs st.objects q None
    finds_number z k = let y = bound q found v e h in rw y.there (target_number (y.is ∙ k))

    module _ (o n : ℕ) (k : v ≡ ref o) (c : n ≡ counted b Objects) where
      pub finds_absent : n ≤ o → TargetIs st.objects q None
      finds_absent l = let y = bound q found v e h in rw y.there (target_absent (y.is ∙ k) (object_absent st.objects o (omega (arith, objects_counted seen))))

      pub finds_object : o < n → TargetIs st.objects q (Some (ref o))
      finds_object l =
          let y = bound q found v e h in
          rw y.there (target_object (y.is ∙ k) (object_there st.objects o blank_object (omega (arith, objects_counted seen))))

-- A move with a target: F goes by the binding of its variable, and G by the object there.
pub record Aims (st : Stores) (F : Option Binding → Outcome) (G : ℕ → Option Object → Outcome) : Type 0 where
  pub unbound : F none ≡ still
  pub number : {y : Binding} {z : ℤ} → y.value ≡ int z → F (some y) ≡ still
  pub null : {y : Binding} → y.value ≡ nil → F (some y) ≡ moved st failed
  pub aimed : {y : Binding} {o : ℕ} → y.value ≡ ref o → F (some y) ≡ G o (lookup st.objects o)
  pub absent : {o : ℕ} → G o none ≡ still

pub selects : (s : Code) (st : Stores) (fs : List Frame) (f : ℕ) → Aims st (select_target s st fs f) (λ o. select_object s st fs f)
selects s st fs f = record { unbound = refl; number = λ e. rw e; null = λ e. rw e; aimed = λ e. rw e; absent = refl }

pub updates : (s : Code) (st : Stores) (fs : List Frame) (f : ℕ) (v : Value) → Aims st (update_target s st fs f v) (update_object s st fs f v)
updates s st fs f v = record { unbound = refl; number = λ e. rw e; null = λ e. rw e; aimed = λ e. rw e; absent = refl }

pub calls : (s : Code) (st : Stores) (fs : List Frame) (m : ℕ) (v : Value) (k : ℕ) → Aims st (call_target s st fs m v k) (call_object s st fs m v k)
calls s st fs m v k = record { unbound = refl; number = λ e. rw e; null = λ e. rw e; aimed = λ e. rw e; absent = refl }

pub locks : (st : Stores) (above fs : List Frame) (a env k : ℕ) → Aims st (lock_target st above fs a env k) (lock_object st above fs a env k)
locks st above fs a env k = record { unbound = refl; number = λ e. rw e; null = λ e. rw e; aimed = λ e. rw e; absent = refl }

-- the target told apart
null_not : {o : ℕ} → nil ≡ ref o → ⊥
null_not e = let z : ◌≡◌ {A = ℕ} 0 1 = cc in omega arith

pub ref_same : {o n : ℕ} → ref o ≡ ref n → o ≡ n
ref_same e = cc

-- an object that is there
pub record FoundObject (xs : List Object) (o : ℕ) : Type 0 where
  pub object : Object
  pub there : lookup xs o ≡ some object

pub object_found : {xs : List Object} {q : Option Binding} {found : CodeOption Value} {w : Value} {o : ℕ} → TargetIs xs q found → found ≡ Some w → w ≡ ref o → FoundObject xs o
object_found target_unbound h k = absurd (unbound_not h)
object_found (target_absent v n) h k = absurd (unbound_not h)
object_found (target_number v) h k = absurd (unbound_not h)
object_found (target_null v) h k = absurd (null_not (bound_same h ∙ k))
object_found (target_object {d = d} v there) h k = record { object = d; there = rw (← ref_same (bound_same h ∙ k)) there }

-- it is one of the block
pub found_below : {b : List ℕ} {i : ℕ} {x : Rest} {st : Stores} {u : machine.Tree} {o : ℕ} → StateAt b i x st u → FoundObject st.objects o
    → (o < counted b Objects) × (o < OBJECTS)
found_below {st = st} {o = o} seen a =
    let l = (object_is st.objects o a.object blank_object a.there).0 in
    (omega (arith, objects_counted seen), omega (arith, objects_counted seen, seen_few seen Objects))

-- what a move with the target comes to
module _ {st : Stores} {F : Option Binding → Outcome} {G : ℕ → Option Object → Outcome} (t : Aims st F G) where
  pub no_target : {q : Option Binding} {found : CodeOption Value} → TargetIs st.objects q found → found ≡ None → F q ≡ still
  no_target target_unbound h = t.unbound
  no_target (target_absent {o = o} v n) h = t.aimed v ∙ ap (G o) n ∙ t.absent
  no_target (target_number v) h = t.number v
  no_target (target_null v) h = absurd (unbound_not (sym h))
  no_target (target_object v d) h = absurd (unbound_not (sym h))

  pub null_target :
      {q : Option Binding} {found : CodeOption Value} {w : Value} → TargetIs st.objects q found → found ≡ Some w → ((o : ℕ) → w ≡ ref o → ⊥)
      → F q ≡ moved st failed
  null_target target_unbound h k = absurd (unbound_not h)
  null_target (target_absent v n) h k = absurd (unbound_not h)
  null_target (target_number v) h k = absurd (unbound_not h)
  null_target (target_null v) h k = t.null v
  null_target (target_object {o = o} v d) h k = absurd (k o (sym (bound_same h)))

  pub object_target : {q : Option Binding} {found : CodeOption Value} {w : Value} {o : ℕ} → TargetIs st.objects q found → found ≡ Some w → w ≡ ref o → F q ≡ G o (lookup st.objects o)
  object_target target_unbound h k = absurd (unbound_not h)
  object_target (target_absent v n) h k = absurd (unbound_not h)
  object_target (target_number v) h k = absurd (unbound_not h)
  object_target (target_null v) h k = absurd (null_not (bound_same h ∙ k))
  object_target (target_object v d) h k = t.aimed (v ∙ bound_same h ∙ k)
