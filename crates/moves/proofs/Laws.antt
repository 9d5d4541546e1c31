-- What each return of a move comes to.
use mathlib.Core.Path.{◌≡◌, refl, sym, ap, subst, ◌∙◌}
use mathlib.Core.Bool.{Bool, true, false}
use mathlib.Core.Logic.{⊎_elim}
use mathlib.Core.List.{List, [], ◌∷◌, ◌++◌, flat_map}
use mathlib.Core.List.Memᴰ
use mathlib.Core.Option.{Option, none, some}
use Prim.Native.Nat.{ℕ, suc, ◌-◌, ◌<◌, ◌≤◌}
use native.Mathlib.Omega.{arith}
use lib.IntN.{ℤ}
use lib.ListN.{length, length-append, replicate}
use Rattle.words.specs.Word.{WORD, bytes}
use Rattle.words.specs.Integer.{integer}
use Rattle.words.proofs.Integers.{integer_words}
use Rattle.integers.proofs.Signed.{read, read_is}
use Rattle.limits.specs.Limits.{OBJECTS}
use Rattle.machine.specs.declared.Value.{Value}
use Rattle.machine.specs.declared.Value.TheVariants.{Null as nil, Ref as ref}
use Rattle.machine.specs.declared.Frame.{Frame}
use Rattle.machine.specs.Config as machine
use Rattle.machine.specs.Config.{Code, Object, Binding, Stores, running, returning, failed, join}
use Rattle.machine.specs.Machine.{initial_by, initial_of, initials}
use Rattle.machine.specs.Machine.{scope, find, Outcome, still, full, moved, give, make, Phase, finished, broken, busy, phase, fold}
use Rattle.script.specs.Lists.{◌∈◌}
use Rattle.script.specs.Syntax.{Slot, Program}
use Rattle.typing.specs.Members.{fields_of}
use Rattle.typing.specs.Typing.{int_test}
use Rattle.block.specs.declared.Area.TheVariants.{Objects, Bindings}
use Rattle.block.specs.Layout.{counted}
use Rattle.block.specs.Values.{Storable}
use Rattle.block.specs.Block.{preorder, frames_of, Parts, laid}
use Rattle.tree.specs.declared.Fold.{Fold}
use Rattle.tree.specs.declared.Fold.TheVariants.{GoesOn as goes_on}
use Rattle.tree.specs.Phases.{outcome_of, FoldAt}
use Rattle.std.specs.declared.option.Option.{Option as CodeOption}
use Rattle.std.specs.declared.option.Option.TheVariants.{Some, None}
use Rattle.environments.specs.Chains.{bindings_in, lookup_of}
use Rattle.environments.proofs.LaidLaws.{bindings_read}
use Rattle.state.specs.Represents.{parts_in, Rest, StateAt}
use Rattle.state.specs.Positions.{entries_in}
use Rattle.state.proofs.Seeing.{objects_counted, seen_part}
use Rattle.state.proofs.Moves.{lies, seen_objects}
use Rattle.moves.specs.declared.Effect.{Effect}
use Rattle.moves.specs.Performs.{Performs}
use Rattle.initials.specs.Initials.{with_newest, NewObject, FieldsBecome}

-- a constant, as the machine reads it back
pub constant_read : {z : ℤ} {low high : ℕ} → low < WORD → high < WORD → z ≡ integer low high → read z ≡ integer low high
constant_read l h e = read_is (record { sfits = rw e (integer_words l h).in_range }) ∙ e

-- the environment in the block is that of the stores
pub scope_read : {b : List ℕ} {i : ℕ} {x : Rest} {st : Stores} {u : machine.Tree} → StateAt b i x st u → bindings_in b ≡ st.bindings
scope_read {x = x} {st = st} {u = u} s =
    bindings_read (parts_in st s.positions (x.outer ++ (frames_of u ++ x.later))) s.block s.few (s.storable Bindings) st.bindings refl

busy_not : busy ≡ finished → ⊥
busy_not e = let z : ◌≡◌ {A = ℕ} 0 1 = ap told e in omega arith
  where
    told : Phase → ℕ
    told finished = 1
    told broken = 2
    told busy = 0

-- what a look-up told
pub unbound_not : {v : Value} → None ≡ Some v → ⊥
unbound_not e = let z : ◌≡◌ {A = ℕ} 0 1 = ap told e in omega arith
  where
    told : CodeOption Value → ℕ
    told None = 0
    told (Some v) = 1

pub bound_same : {v w : Value} → Some v ≡ Some w → v ≡ w
bound_same e = ap value_in e
  where
    value_in : CodeOption Value → Value
    value_in None = nil
    value_in (Some v) = v

pub not_bound : (q : Option Binding) (found : CodeOption Value) → found ≡ lookup_of q → found ≡ None → q ≡ none
not_bound none found e h = refl
not_bound (some y) found e h = absurd (unbound_not (sym h ∙ e))

pub record BoundTo (q : Option Binding) (v : Value) : Type 0 where
  pub binding : Binding
  pub there : q ≡ some binding
  pub is : binding.value ≡ v

pub bound : (q : Option Binding) (found : CodeOption Value) (v : Value) → found ≡ lookup_of q → found ≡ Some v → BoundTo q v
bound none found v e h = absurd (unbound_not (sym e ∙ h))
bound (some y) found v e h = record { binding = y; there = refl; is = bound_same (sym e ∙ h) }

-- the look-up in the block is that in the stores
pub looked : {b : List ℕ} {i : ℕ} {x : Rest} {st : Stores} {u : machine.Tree} (env n : ℕ) (found : CodeOption Value) → StateAt b i x st u
    → found ≡ lookup_of (find (scope (bindings_in b) env) n) → found ≡ lookup_of (find (scope st.bindings env) n)
looked env n found s e = e ∙ ap (λ (bs : List Binding). lookup_of (find (scope bs env) n)) (scope_read s)

-- where a join goes on, both sides are finished, so no frame waits there
pub finished_empty : (u : machine.Tree) → phase u ≡ finished → frames_of u ≡ []
unfolding frames_of preorder flat_map
finished_empty (running a e fs) h = absurd (busy_not h)
finished_empty (returning v []) h = refl
finished_empty (returning v (f ∷ fs)) h = absurd (busy_not h)
finished_empty failed h = refl
finished_empty (join fs a e l r) h = absurd (busy_not h)

-- the machine's outcomes told apart
outcome_number : Outcome → ℕ
outcome_number still = 0
outcome_number (full k) = 1
outcome_number (moved st (running a e fs)) = 2
outcome_number (moved st (returning v fs)) = 3
outcome_number (moved st failed) = 4
outcome_number (moved st (join fs a e l r)) = 5

pub both_finished : (st : Stores) (fs : List Frame) (a e : ℕ) (p q : Phase) → fold st fs a e p q ≡ moved st (running a e fs) → (p ≡ finished) × (q ≡ finished)
unfolding outcome_number
both_finished st fs a e finished finished h = (refl, refl)
both_finished st fs a e finished broken h = let z : ◌≡◌ {A = ℕ} 4 2 = ap outcome_number h in absurd (omega arith)
both_finished st fs a e finished busy h = let z : ◌≡◌ {A = ℕ} 0 2 = ap outcome_number h in absurd (omega arith)
both_finished st fs a e broken q h = let z : ◌≡◌ {A = ℕ} 4 2 = ap outcome_number h in absurd (omega arith)
both_finished st fs a e busy finished h = let z : ◌≡◌ {A = ℕ} 0 2 = ap outcome_number h in absurd (omega arith)
both_finished st fs a e busy broken h = let z : ◌≡◌ {A = ℕ} 4 2 = ap outcome_number h in absurd (omega arith)
both_finished st fs a e busy busy h = let z : ◌≡◌ {A = ℕ} 0 2 = ap outcome_number h in absurd (omega arith)

-- a move comes to what its outcome is
pub performs_as : {b after : List ℕ} {i : ℕ} {x : Rest} {r : Effect} {o q : Outcome} → o ≡ q → Performs b i x q after r → Performs b i x o after r
performs_as e came = rw e came

-- the places left in a store that has n records of at most `most`: none, or one at least
pub no_room : {most n k : ℕ} → n ≡ k → most ≤ n → most - k ≡ 0
no_room h l = omega arith

pub some_room : {most n k : ℕ} → n ≡ k → n < most → most - k ≡ suc (most - k - 1)
some_room h l = omega arith

-- a variable's value
module _ {b : List ℕ} {i : ℕ} {x : Rest} {st : Stores} {u : machine.Tree} (fs : List Frame) (env n : ℕ) (found : CodeOption Value) (s : StateAt b i x st u)
    (e : found ≡ lookup_of (find (scope (bindings_in b) env) n)) where
  pub gives_not : found ≡ None → give st fs (find (scope st.bindings env) n) ≡ still
  gives_not h = rw (not_bound (find (scope st.bindings env) n) found (looked env n found s e) h)

  pub gives : (v : Value) → found ≡ Some v → give st fs (find (scope st.bindings env) n) ≡ moved st (returning v fs)
  gives v h = let y = bound (find (scope st.bindings env) n) found v (looked env n found s e) h in rw (y.there, y.is)

-- a new object
pub makes : (st : Stores) (fs : List Frame) (s : Code) (c n k : ℕ) → n ≡ k → n < OBJECTS → n ≡ length st.objects
    → make s st fs c (OBJECTS - k)
    ≡ moved (record { objects = st.objects ++ record { class = c; shut = false; fields = initials s.program (fields_of s.program c) } ∷ []; bindings = st.bindings }) (returning (ref n) fs)
makes st fs s c n k h l m = rw (some_room h l, ← m)

-- a join, by how its sides stand
module _ {b : List ℕ} {i : ℕ} {x : Rest} {st : Stores} {fs : List Frame} {a e : ℕ} {l r : machine.Tree} {how k : Fold} (at : FoldAt (entries_in b) i how) (told : how ≡ k)
    (s : StateAt b i x st (join fs a e l r)) where
  pub folds : fold st fs a e (phase l) (phase r) ≡ outcome_of k st fs a e
  folds = at.joins (seen_part s) st ∙ ap (λ (f : Fold). outcome_of f st fs a e) told

  pub sides_empty : k ≡ goes_on → (frames_of l ≡ []) × (frames_of r ≡ [])
  sides_empty g =
      let f = both_finished st fs a e (phase l) (phase r) (folds ∙ ap (λ (f : Fold). outcome_of f st fs a e) g) in
      (finished_empty l f.0, finished_empty r f.1)

-- initial values are storable, and so are those of the objects with one more
initials_storable : (p : Program) (ds : List Slot) (v : Value) → v ∈ initials p ds → Storable v
initials_storable p [] v m = absurd (Memᴰ.not-nil m)
initials_storable p (d ∷ ds) v m =
    ⊎_elim (λ (e : v ≡ initial_of p d.type). rw e (initial (int_test p d.type))) (initials_storable p ds v) (Memᴰ.cases_cons m)
  where
    initial : (q : Bool) → Storable (initial_by q)
    initial true = omega arith
    initial false = _

more_storable :
    (os : List Object) (y : Object)
    → ((o : Object) → o ∈ os → (v : Value) → v ∈ o.fields → Storable v)
    → ((v : Value) → v ∈ y.fields → Storable v)
    → (o : Object) → o ∈ os ++ y ∷ [] → (v : Value) → v ∈ o.fields → Storable v
more_storable os y h k o m v n =
    ⊎_elim
    (λ (l : o ∈ os). h o l v n)
    (λ (l : o ∈ y ∷ []). k v (subst (λ (x : Object). v ∈ x.fields) (Memᴰ.eq_of_singleton l) n))
    (Memᴰ.append_cases os m)

-- one object more, as `new` makes it: first all its fields are null, and then they have their initial values
module _ {b after : List ℕ} {i : ℕ} {x : Rest} {st : Stores} {u : machine.Tree}
    (c n : ℕ) (seen : StateAt b i x st u) (h : n ≡ counted b Objects) (l : n < OBJECTS)
    (made : (p : Parts) (m : ℕ) → b ≡ bytes (laid p) → after ≡ bytes (laid (with_newest p c (replicate m nil)))) where
  pub object_new : (m : ℕ) → NewObject after n m
  object_new m = record { parts = lies seen; class = c; block = made (lies seen) m seen.block; place = h ∙ objects_counted seen; room = l }

  pub objects_more :
      {last : List ℕ} (s : Code)
      → FieldsBecome after last n (replicate (length (fields_of s.program c)) nil) (initials s.program (fields_of s.program c))
      → StateAt last i x
      (record {
        objects = st.objects ++ record { class = c; shut = false; fields = initials s.program (fields_of s.program c) } ∷ [];
        bindings = st.bindings;
      })
      u
  objects_more s become =
      let ds = fields_of s.program c in
      let y : Object = record { class = c; shut = false; fields = initials s.program ds } in
      seen_objects seen (st.objects ++ y ∷ [])
      (omega (arith, length-append st.objects (y ∷ []), objects_counted seen))
      (more_storable st.objects y (seen.storable Objects) (initials_storable s.program ds))
      (become (lies seen) c (h ∙ objects_counted seen) (made (lies seen) (length ds) seen.block))
