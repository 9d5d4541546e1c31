-- All positions of a tree: it is typed if and only if each position is, the root to its own expectation and the others to any.
use mathlib.Core.Path.{◌≡◌, refl, sym, ap, ◌∙◌}
use mathlib.Core.Bool.{Bool, true, false, ◌&&◌, and-true, and-false, and_assoc}
use mathlib.Core.List.{List, [], ◌∷◌}
use mathlib.Core.Option.{Option, none, some}
use Prim.Native.Nat.{ℕ, zero, suc, ◌+◌, ◌<◌, ◌≤◌}
use native.Mathlib.Omega.{arith}
use native.Mathlib.Decide.{ℕ_discrete}
use lib.Dec.{leb}
use lib.ListN.{length, get_or, drop}
use Rattle.limits.specs.Limits.{FRAMES}
use Rattle.script.specs.Lists.{sum_below}
use Rattle.script.specs.Questions.{all_of}
use Rattle.script.proofs.Tests.{all_append}
use Rattle.machine.specs.declared.Want.{Want}
use Rattle.machine.specs.declared.Want.TheVariants.{Any as any}
use Rattle.machine.specs.Config.{Code, code_of, Stores, Tree, running, returning, failed, join}
use Rattle.machine.specs.Machine.{context}
use Rattle.machine.specs.Decide.{want_test, at_test, expects, tree_test}
use Rattle.block.specs.declared.Area.TheVariants.{Positions, Frames}
use Rattle.block.specs.Layout.{counted, word_in, WAITING}
use Rattle.block.specs.Block.{preorder}
use Rattle.parts.specs.Parts.{config_read}
use Rattle.frames.specs.Expecting.{frames_before, place_at, position_test, want_at}
use Rattle.awaited.specs.Awaited.{ScopedBlock}
use Rattle.frames.proofs.PositionLaws.{places_many, frames_within}

-- a test that does not ask what is wanted
asked_inside : (b : Bool) (o : Option Want) (f : Want → Bool) → b && want_test o f ≡ want_test o (λ v. b && f v)
asked_inside b none f = and-false b
asked_inside b (some v) f = refl

front : (t : Tree) → preorder t ≡ t ∷ drop 1 (preorder t)
unfolding preorder
front (running a e fs) = refl
front (returning x fs) = refl
front failed = refl
front (join fs a e l r) = refl

module _ (s : Code) (st : Stores) where
  -- each position, then those after it
  tree_is : (w : Want) (t : Tree) → tree_test s st w t ≡ position_test s st w t && all_of (position_test s st any) (drop 1 (preorder t))
  unfolding preorder all_of
  tree_is w (running a e fs) =
      asked_inside (leb e (length st.bindings)) (expects s st.bindings w fs) (λ v. at_test s (context st.bindings e) a v) ∙ sym (and-true (position_test s st w (running a e fs)))
  tree_is w (returning x fs) = sym (and-true (position_test s st w (returning x fs)))
  tree_is w failed = refl
  tree_is w (join fs a e l r) =
      let side : (t : Tree) → tree_test s st any t ≡ position_test s st any t && all_of (position_test s st any) (drop 1 (preorder t)) → tree_test s st any t ≡ all_of (position_test s st any) (preorder t) =
      λ t h. h ∙ ap (all_of (position_test s st any)) (sym (front t))
      in
      rw (side l (tree_is any l), side r (tree_is any r))
      (sym (and_assoc (leb e (length st.bindings)) _ _)
      ∙ ap (λ (b : Bool). b && (all_of (position_test s st any) (preorder l) && all_of (position_test s st any) (preorder r)))
      (asked_inside (leb e (length st.bindings)) (expects s st.bindings w fs) (λ v. at_test s (context st.bindings e) a v))
      ∙ ap (λ (b : Bool). position_test s st w (join fs a e l r) && b) (sym (all_append (position_test s st any) (preorder l) (preorder r))))

  -- all of some positions passed, and one not
  all_passed : (f : Tree → Bool) (l : List Tree) → ((k : ℕ) → k < length l → f (get_or l k failed) ≡ true) → all_of f l ≡ true
  unfolding all_of
  all_passed f [] h = refl
  all_passed f (x ∷ l) h = rw (h 0 (omega arith)) (all_passed f l (λ k m. h (suc k) (omega arith)))

  one_misfit : (f : Tree → Bool) (l : List Tree) (k : ℕ) → k < length l → f (get_or l k failed) ≡ false → all_of f l ≡ false
  unfolding all_of
  one_misfit f [] k h e = absurd (omega arith)
  one_misfit f (x ∷ l) zero h e = rw e
  one_misfit f (x ∷ l) (suc k) h e = rw (one_misfit f l k (omega arith) e) (and-false (f x))

  module _ (w : Want) (t : Tree) where
    tree_passed : (l : List Tree) → l ≡ t ∷ drop 1 (preorder t) → ((k : ℕ) → k < length l → position_test s st (want_at w k) (get_or l k failed) ≡ true) → true ≡ tree_test s st w t
    tree_passed l e h =
        let each : (k : ℕ) → k < suc (length (drop 1 (preorder t))) → position_test s st (want_at w k) (get_or (t ∷ drop 1 (preorder t)) k failed) ≡ true = rw e at h in
        sym (tree_is w t ∙ rw (each 0 (omega arith)) (all_passed (position_test s st any) (drop 1 (preorder t)) (λ k m. each (suc k) (omega arith))))

    tree_misfit : (k : ℕ) → k < suc (length (drop 1 (preorder t))) → position_test s st (want_at w k) (get_or (t ∷ drop 1 (preorder t)) k failed) ≡ false → false ≡ tree_test s st w t
    tree_misfit zero h e = sym (tree_is w t ∙ rw e)
    tree_misfit (suc k) h e =
        sym (tree_is w t ∙ rw (one_misfit (position_test s st any) (drop 1 (preorder t)) k (omega arith) e) (and-false (position_test s st w t)))

-- The walk over the positions has passed i of them, with the table as it was before.
pub record Passed (s b before table : List ℕ) (w : Want) (from i : ℕ) (want : Want) : Type 0 where
  pub within : i ≤ counted b Positions
  pub same : table ≡ before
  pub begins : from ≡ frames_before b i
  pub expected : want ≡ want_at w i
  pub each : (k : ℕ) → k < i → position_test (code_of s) (config_read s b).stores (want_at w k) (place_at s b k) ≡ true

pub pass_begun : (s b table : List ℕ) (w : Want) → Passed s b table table w 0 0 w
unfolding sum_below
pass_begun s b table w = record { within = omega arith; same = refl; begins = refl; expected = refl; each = λ k h. absurd (omega arith) }

module _ {s before table b : List ℕ} (y : ScopedBlock s b) {w want : Want} {from i : ℕ} (x : Passed s b before table w from i want) where
  pub pass_room : i < counted b Positions → (n : ℕ) → n ≡ word_in b Positions i WAITING → from + n ≤ FRAMES
  pass_room h n en = omega (arith, frames_within y i h from n x.begins en, (y.in_order.areas Frames).few)

  module _ (h : i < counted b Positions) (m : Bool) (em : m ≡ position_test (code_of s) (config_read s b).stores want (place_at s b i)) where
    here : m ≡ position_test (code_of s) (config_read s b).stores (want_at w i) (place_at s b i)
    here = em ∙ ap (λ (v : Want). position_test (code_of s) (config_read s b).stores v (place_at s b i)) x.expected

    pub pass_misfit : m ≡ false → false ≡ tree_test (code_of s) (config_read s b).stores w (config_read s b).tree
    pass_misfit f =
        let t = (config_read s b).tree in
        let e = front t in
        tree_misfit (code_of s) (config_read s b).stores w t i (omega (arith, ap length e, places_many y))
        (ap (λ (l : List Tree). position_test (code_of s) (config_read s b).stores (want_at w i) (get_or l i failed)) (sym e) ∙ sym here ∙ f)

    pub pass_more : {after : List ℕ} → after ≡ table → (n : ℕ) → n ≡ word_in b Positions i WAITING → m ≡ true → Passed s b before after w (from + n) (i + 1) any
    unfolding sum_below
    pass_more e n en f =
        let one : i + 1 ≡ suc i = omega arith in
        record {
          within = omega arith;
          same = e ∙ x.same;
          begins = rw one (omega (arith, x.begins, en));
          expected = rw one;
          each = λ k l. elim (ℕ_discrete k i) [ yes q ↦ rw q (sym here ∙ f) | no q ↦ x.each k (omega arith) ];
        }

  pub pass_done : (i < counted b Positions → ⊥) → true ≡ tree_test (code_of s) (config_read s b).stores w (config_read s b).tree
  pass_done h =
      tree_passed (code_of s) (config_read s b).stores w (config_read s b).tree (preorder (config_read s b).tree) (front (config_read s b).tree)
      (λ k l. x.each k (omega (arith, places_many y, x.within)))
