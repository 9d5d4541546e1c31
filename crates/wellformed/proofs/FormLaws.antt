-- The three parts of a block: what the code says of each, a law for each return.
use mathlib.Core.Path.{◌≡◌, refl, sym, ◌∙◌}
use mathlib.Core.Bool.{Bool, true, false, not, ◌&&◌, and-eq-true_iff}
use mathlib.Core.List.{List}
use mathlib.Core.Option.{Option, none, some}
use Prim.Native.Nat.{ℕ, ◌<◌}
use borrow.Author.Tests.{not-true, not-false}
use lib.ListN.{length, get_or}
use Rattle.limits.specs.Limits.{BLOCK}
use Rattle.script.specs.Asking.{Decides}
use Rattle.script.specs.Questions.{all_of}
use Rattle.script.proofs.Tests.{says_yes, yes_said, no_said}
use Rattle.machine.specs.declared.Want.TheVariants.{Upto as upto}
use Rattle.machine.specs.Config.{Config, code_of}
use Rattle.machine.specs.Machine.{field_count, limits}
use Rattle.machine.specs.Decide.{only, is_class_test, bindings_test, stores_test, tree_test, covered_test, well_formed_test}
use Rattle.machine.proofs.Decide.{decides_within}
use Rattle.block.specs.declared.Area.TheVariants.{Objects, Bindings}
use Rattle.block.specs.Layout.{BOUND}
use Rattle.block.specs.Decode.{config_in, decode}
use Rattle.block.proofs.Decode.{encode_decode}
use Rattle.representation.specs.InOrder.{AreaOk, InOrder}
use Rattle.representation.proofs.InOrder.{in_order_decodes}
use Rattle.representation.proofs.Ordered.{decoded_in_order}
use Rattle.parts.specs.Parts.{config_read, objects_in, ThreadsOk, value_ok_test, object_ok_test, area_test, objects_test, objects_sound, bindings_sound}
use Rattle.parts.proofs.Areas.{decides_objects_area, decides_bindings_area}
use Rattle.parts.proofs.Parts.{whole_order, order_threads}
use Rattle.in_order.proofs.Answers.{after_yes, after_no}
use Rattle.values.specs.Objects.{ObjectsInOrder}
use Rattle.locks.specs.Locking.{Sized, locks_test}
use Rattle.awaited.specs.Awaited.{ScopedBlock}
use Rattle.frames.proofs.BindingsPassed.{bindings_passed}
use Rattle.calls.specs.declared.LentQuestion.TheVariants.{BlockObjects, BlockBindings, BlockThreads}
use Rattle.calls.specs.Calls.{well_formed, config_of, parts_asked}
use Rattle.calls.proofs.Parts.{few_within}
use Rattle.calls.specs.declared.LentQuestion.{LentQuestion}
use Rattle.std.specs.Bool.{⊤}
use Rattle.std.specs.declared.result.Result.{Result}
use Rattle.std.specs.declared.result.Result.TheVariants.{Ok, Err}
use Rattle.wellformed.specs.Examining.{examined_as}

-- a part's bytes and its meaning, u and v, where the code has asked for the bytes and got q
bytes_no : {P : Type 0} {u q : Bool} (v : Bool) → Decides P u → Decides P q → not q ≡ true → false ≡ u && v
bytes_no v d k e = rw (no_said d (after_no k e)) refl

bytes_yes : {P : Type 0} {u q : Bool} (v r : Bool) → Decides P u → Decides P q → not q ≡ false → r ≡ v → r ≡ u && v
bytes_yes v r d k e h = rw (yes_said d (after_yes k e)) h

module _ (s b : List ℕ) where
  abbrev vars : Bool
  vars = bindings_test (code_of s) (objects_in s b) (config_read s b).stores.bindings

  module _ {q : Bool} (d : Decides (AreaOk (field_count s) b Objects) q) where
    pub objects_no : not q ≡ true → false ≡ objects_sound s b
    unfolding objects_sound
    objects_no e = bytes_no (objects_test (code_of s) (objects_in s b)) (decides_objects_area (field_count s) b) d e

    pub objects_are : (r : Bool) → not q ≡ false → r ≡ objects_test (code_of s) (objects_in s b) → r ≡ objects_sound s b
    unfolding objects_sound
    objects_are r e h = bytes_yes (objects_test (code_of s) (objects_in s b)) r (decides_objects_area (field_count s) b) d e h

  module _ {q : Bool} (d : Decides (AreaOk (field_count s) b Bindings) q) where
    pub bindings_no : not q ≡ true → false ≡ bindings_sound s b
    unfolding bindings_sound
    bindings_no e = bytes_no vars (decides_bindings_area (field_count s) b) d e

    pub bindings_are : (r : Bool) → not q ≡ false → r ≡ vars → r ≡ bindings_sound s b
    unfolding bindings_sound
    bindings_are r e h = bytes_yes vars r (decides_bindings_area (field_count s) b) d e h

  -- what a yes to the first two says
  objects_said : objects_sound s b ≡ true → AreaOk (field_count s) b Objects × (objects_test (code_of s) (objects_in s b) ≡ true)
  unfolding objects_sound
  objects_said e =
      let h = (and-eq-true_iff (area_test (object_ok_test (field_count s)) b Objects) (objects_test (code_of s) (objects_in s b))).0 e in
      (says_yes (decides_objects_area (field_count s) b) h.0, h.1)

  bindings_said : bindings_sound s b ≡ true → AreaOk (field_count s) b Bindings × (vars ≡ true)
  unfolding bindings_sound
  bindings_said e =
      let h = (and-eq-true_iff (area_test (λ w. value_ok_test w BOUND) b Bindings) vars).0 e in
      (says_yes (decides_bindings_area (field_count s) b) h.0, h.1)

  pub objects_asked : length b ≡ BLOCK → ((i : ℕ) → get_or b i 0 < 256) → AreaOk (field_count s) b Objects → ObjectsInOrder s b
  objects_asked long small o = record { long = long; small = small; objects = o }

  pub bindings_asked : length b ≡ BLOCK → ((i : ℕ) → get_or b i 0 < 256) → objects_sound s b ≡ true → ObjectsInOrder s b
  bindings_asked long small e = objects_asked long small (objects_said e).0

-- the third part, where the first two are sound
module _ (s : List ℕ) (t : ℕ) (b : List ℕ) where
  abbrev c : Config
  c = config_read s b

  abbrev tree : Bool
  tree = tree_test (code_of s) c.stores (upto t) c.tree

  -- The code's answer r to the whole question.
  abbrev Formed : Bool → Type 0
  Formed r = config_of s t b ≡ only r (some c)

  module _ {q : Bool} (ordered : Decides (ThreadsOk (field_count s) b) q) where
    pub bad_order : not q ≡ true → Formed false
    unfolding config_of
    bad_order e = go (decode (field_count s) b) refl
      where
        go : (d : Option Config) → decode (field_count s) b ≡ d → well_formed s t d ≡ none
        go none h = refl
        go (some x) h = absurd (after_no ordered e (order_threads (decoded_in_order (field_count s) b x h)))

    module _ (long : length b ≡ BLOCK) (small : (i : ℕ) → get_or b i 0 < 256) (o : objects_sound s b ≡ true) (v : bindings_sound s b ≡ true) (e : not q ≡ false) where
      order : InOrder (field_count s) b
      order = whole_order long small (objects_said s b o).0 (bindings_said s b v).0 (after_yes ordered e)

      stores : stores_test (code_of s) c.stores ≡ true
      stores =
          let h = (and-eq-true_iff (all_of (is_class_test (code_of s)) (objects_in s b)) _).0 (objects_said s b o).1 in
          rw (h.0, h.1) (bindings_said s b v).1

      and_true : (u : Bool) → u && true ≡ u
      and_true true = refl
      and_true false = refl

      -- the limits are kept, so tree and locks are what is left
      left : Formed (tree && locks_test c)
      unfolding config_of well_formed_test
      left =
          let d = in_order_decodes (field_count s) b order in
          let within = yes_said (decides_within limits c) (few_within c (encode_decode (field_count s) b c d).1.few) in
          rw (d, stores, within, and_true (covered_test c.stores.objects c.tree)) refl

      pub sized : Sized b
      sized = record { long = long; few = λ a. (order.areas a).few }

      pub ready : ScopedBlock s b
      ready =
          let passed = bindings_passed s b (bindings_said s b v).1 in
          record {
            in_order = order;
            links = λ i l. (passed i l).0;
            types = λ i l. (passed i l).1;
          }

      module _ {r : Bool} (typed : r ≡ tree) where
        pub bad_tree : not r ≡ true → Formed false
        bad_tree g = let n : tree ≡ false = sym typed ∙ not-true r g in rw n at left

        pub form_asked : {u : Bool} → not r ≡ false → ((fields : ℕ → ℕ) → InOrder fields b → u ≡ locks_test (config_in fields b)) → Formed u
        form_asked {u} g locked =
            let n : tree ≡ true = sym typed ∙ not-false r g in
            let l : u ≡ locks_test c = locked (field_count s) order in
            rw (n, ← l) at left

  -- the three together
  abbrev Says : Result ⊤ LentQuestion → Type 0
  Says r = parts_asked s t b ≡ examined_as r c

  module _ {p : Bool} (o : p ≡ objects_sound s b) where
    pub bad_objects : not p ≡ true → Says (Err BlockObjects)
    unfolding parts_asked
    bad_objects e = let n : objects_sound s b ≡ false = sym o ∙ not-true p e in rw n refl

    module _ (y : not p ≡ false) where
      pub sound_objects : objects_sound s b ≡ true
      sound_objects = sym o ∙ not-false p y

      module _ {q : Bool} (v : q ≡ bindings_sound s b) where
        pub bad_bindings : not q ≡ true → Says (Err BlockBindings)
        unfolding parts_asked
        bad_bindings e = let n : bindings_sound s b ≡ false = sym v ∙ not-true q e in rw (sound_objects, n) refl

        module _ (z : not q ≡ false) where
          pub sound_bindings : bindings_sound s b ≡ true
          sound_bindings = sym v ∙ not-false q z

          module _ (r : Bool) (x : Formed r) where
            pub bad_threads : not r ≡ true → Says (Err BlockThreads)
            unfolding parts_asked
            bad_threads e = rw (sound_objects, sound_bindings, x, not-true r e) refl

            pub all_sound : not r ≡ false → Says (Ok tt)
            unfolding parts_asked
            all_sound e = rw (sound_objects, sound_bindings, x, not-false r e) refl
