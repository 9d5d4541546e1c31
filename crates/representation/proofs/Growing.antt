-- Positions that are in order and form trees are the positions of the trees put together from them.
use mathlib.Core.Path.{◌≡◌, refl, sym, ap, ◌∙◌}
use mathlib.Core.Logic.{◌≢◌, ⊎_elim}
use mathlib.Core.List.{List, [], ◌∷◌, ◌++◌, append_assoc, append-nil, map, flat_map, reverse, reverse-append, reverse-reverse}
use mathlib.Core.List.Memᴰ
use Prim.Native.Nat.{ℕ, zero, suc, ◌+◌, ◌<◌, ◌≤◌}
use native.Mathlib.Omega.{arith}
use lib.ListN.{length, get_or, take, drop, take-append-drop, length-drop}
use lib.Seq.{length-take-le, ext_get_or}
use Rattle.script.specs.Lists.{◌∈◌, run, sum_below}
use Rattle.script.proofs.Lists.{length_run, get_d_run}
use Rattle.machine.specs.declared.Value.TheVariants.{Null as nil}
use Rattle.machine.specs.declared.Frame.{Frame}
use Rattle.machine.specs.Config.{Tree, running, returning, failed, join}
use Rattle.block.specs.Rows.{word_of, cell}
use Rattle.block.specs.declared.Area.TheVariants.{Positions}
use Rattle.block.specs.Layout.{VALUE, width, NODE, ENV, RESULT, WAITING, JOIN}
use Rattle.block.specs.Values.{value_words, value_in, Storable}
use Rattle.block.specs.Block.{preorder, returned, position_words, frames_of}
use Rattle.block.specs.Decode.{with_position, forest}
use Rattle.representation.specs.InOrder.{Unused, PositionOk, is_running, is_returning, is_failed, is_join, Trees, no_tree, one_thread, one_join}
use Rattle.block.proofs.Rows.{Wide}
use Rattle.block.proofs.Trees.{frames_join}

-- a list by its elements
pub listed : (n : ℕ) (r : List ℕ) → length r ≡ n → run (λ j. get_or r j 0) 0 n ≡ r
listed n r e =
    ext_get_or 0 (run at 0 n) r (length_run at 0 n ∙ sym e)
    (λ i h.
    let l : i < n = omega (arith, length_run at 0 n) in
    let z : 0 + i ≡ i = omega arith in
    get_d_run at 0 n i 0 l ∙ rw z refl)
  where
    at : ℕ → ℕ
    at j = get_or r j 0

module _ (r : List ℕ) (wide : length r ≡ width Positions) (hs : List Frame) (enough : word_of r WAITING ≤ length hs) where
  abbrev own : List Frame
  own = take (word_of r WAITING) hs

  own_length : length own ≡ word_of r WAITING
  own_length = length-take-le (word_of r WAITING) hs enough

  seven : r ≡ get_or r 0 0 ∷ get_or r 1 0 ∷ get_or r 2 0 ∷ (run (word_of r) RESULT VALUE ++ word_of r WAITING ∷ [])
  unfolding run
  seven = sym (listed (width Positions) r wide)

  -- a position that has no value has null's words there
  no_value : Unused (λ j. get_or r j 0) RESULT WAITING → run (word_of r) RESULT VALUE ≡ value_words nil
  unfolding run
  no_value a = rw (a.zero RESULT (omega arith) (omega arith), a.zero (RESULT + 1) (omega arith) (omega arith), a.zero (RESULT + 2) (omega arith) (omega arith))

  -- the thread that a position says
  record Thread : Type 0 where
    thread : Tree
    is_planted : (ts : List Tree) → with_position r own ts ≡ thread ∷ ts
    words : position_words thread ≡ r
    alone : preorder thread ≡ thread ∷ []
    its_frames : frames_of thread ≡ reverse own
    its_value : Storable (returned thread)

  a_thread : Storable (value_in (word_of r) RESULT) → PositionOk (λ j. get_or r j 0) → get_or r 0 0 ≢ JOIN → Thread
  unfolding preorder frames_of flat_map
  a_thread s (is_running k a) n =
      record {
        thread = running (get_or r 1 0) (get_or r 2 0) own;
        is_planted = λ ts. rw k;
        words = let e = own_length in let f = seven in let z = no_value a in cc;
        alone = refl;
        its_frames = append-nil (reverse own);
        its_value = _;
      }
  a_thread s (is_returning k a v) n =
      record {
        thread = returning (value_in (word_of r) RESULT) own;
        is_planted = λ ts. rw k;
        words = let e = own_length in let f = seven in let x = a.zero NODE (omega arith) (omega arith) in let y = a.zero ENV (omega arith) (omega arith) in cc;
        alone = refl;
        its_frames = append-nil (reverse own);
        its_value = s;
      }
  a_thread s (is_failed k a) n =
      record {
        thread = failed;
        is_planted = λ ts. rw k;
        words =
            let f = seven in
            let x = a.zero NODE (omega arith) (omega arith) in
            let y = a.zero ENV (omega arith) (omega arith) in
            let z = no_value (record { zero = λ j h l. a.zero j (omega arith) (omega arith) }) in
            let d = a.zero WAITING (omega arith) (omega arith) in
            cc;
        alone = refl;
        its_frames = rw (a.zero WAITING (omega arith) (omega arith));
        its_value = _;
      }
  a_thread s (is_join k a) n = absurd (n k)

  -- the join that a position says, of the two trees after it
  join_words : PositionOk (λ j. get_or r j 0) → get_or r 0 0 ≡ JOIN → (l x : Tree) → position_words (join own (get_or r 1 0) (get_or r 2 0) l x) ≡ r
  join_words (is_running k a) n l x = absurd (omega arith)
  join_words (is_returning k a v) n l x = absurd (omega arith)
  join_words (is_failed k a) n l x = absurd (omega arith)
  join_words (is_join k a) n l x = let e = own_length in let f = seven in let z = no_value a in cc

-- a sum, its first number set apart
pub sum_front : (f : ℕ → ℕ) (n : ℕ) → sum_below f (suc n) ≡ f 0 + sum_below (λ i. f (suc i)) n
unfolding sum_below
sum_front f zero = omega arith
sum_front f (suc n) = omega (arith, sum_front f n)

-- rows of positions and the trees put together from them, with frames to give out, last one first
pub record Grown (rows : List (List ℕ)) (fs : List Frame) (n : ℕ) : Type 0 where
  pub many : length (forest rows fs).trees ≡ n
  pub rows_are : map position_words (flat_map preorder (forest rows fs).trees) ≡ rows
  pub frames_are : reverse (flat_map frames_of (forest rows fs).trees) ++ (forest rows fs).frames ≡ fs
  pub values : (t : Tree) → t ∈ flat_map preorder (forest rows fs).trees → Storable (returned t)
  pub frames_left : length (forest rows fs).frames + sum_below (λ i. cell rows i WAITING) (length rows) ≡ length fs

module _ (r : List ℕ) (rs : List (List ℕ)) (fs : List Frame) (wide : length r ≡ width Positions) (ok : PositionOk (λ j. get_or r j 0)) (enough : word_of r WAITING ≤ length (forest rs fs).frames) where
  abbrev hs : List Frame
  hs = (forest rs fs).frames

  abbrev mine : List Frame
  mine = take (word_of r WAITING) hs

  -- frames taken from the front, put back
  regroup : (F : List Frame) → reverse F ++ hs ≡ fs → reverse (reverse mine ++ F) ++ drop (word_of r WAITING) hs ≡ fs
  regroup F e = simp (reverse-append, reverse-reverse, append_assoc, take-append-drop) e

  left_step : length hs + sum_below (λ i. cell rs i WAITING) (length rs) ≡ length fs → length (drop (word_of r WAITING) hs) + sum_below (λ i. cell (r ∷ rs) i WAITING) (suc (length rs)) ≡ length fs
  left_step e = omega (arith, e, enough, length-drop (word_of r WAITING) hs, sum_front (λ i. cell (r ∷ rs) i WAITING) (length rs))

  with_thread : (n : ℕ) → Grown rs fs n → get_or r 0 0 ≢ JOIN → Storable (value_in (word_of r) RESULT) → Grown (r ∷ rs) fs (suc n)
  unfolding forest flat_map
  with_thread n g kind s =
      let t = a_thread r wide hs enough s ok kind in
      let p = t.is_planted (forest rs fs).trees in
      let w = t.words in
      let e = g.rows_are in
      record {
        many = rw p (ap suc g.many);
        rows_are = rw (p, t.alone) (cc);
        values = rw (p, t.alone) (λ u m. ⊎_elim (λ (q : u ≡ t.thread). rw q t.its_value) (g.values u) (Memᴰ.cases_cons m));
        frames_are = rw (p, t.its_frames) (regroup (flat_map frames_of (forest rs fs).trees) g.frames_are);
        frames_left = left_step g.frames_left;
      }

  with_join : (n : ℕ) (ts : List Tree) → (forest rs fs).trees ≡ ts → Grown rs fs (suc (suc n)) → get_or r 0 0 ≡ JOIN → Grown (r ∷ rs) fs (suc n)
  unfolding forest flat_map preorder
  with_join n [] e g kind = absurd (omega (arith, rw e at g.many))
  with_join n (l ∷ []) e g kind = absurd (omega (arith, rw e at g.many))
  with_join n (l ∷ x ∷ ts) e g kind =
      let w = join_words r wide hs enough ok kind l x in
      let rows : map position_words (preorder l ++ (preorder x ++ flat_map preorder ts)) ≡ rs = rw e at g.rows_are in
      let frames : reverse (frames_of l ++ (frames_of x ++ flat_map frames_of ts)) ++ hs ≡ fs = rw e at g.frames_are in
      let old : ((u : Tree) → u ∈ preorder l ++ (preorder x ++ flat_map preorder ts) → Storable (returned u)) = rw e at g.values in
      let m : suc (suc (length ts)) ≡ suc (suc n) = rw e at g.many in
      record {
        many = rw (e, kind) (omega arith);
        rows_are = rw (e, kind) (rw (append_assoc (preorder l) (preorder x) (flat_map preorder ts)) (cc));
        values =
            rw (e, kind, append_assoc (preorder l) (preorder x) (flat_map preorder ts))
            (λ u m. ⊎_elim (λ (q : u ≡ join mine (get_or r 1 0) (get_or r 2 0) l x). rw q _) (old u) (Memᴰ.cases_cons m));
        frames_are = rw (e, kind, frames_join mine (get_or r 1 0) (get_or r 2 0) l x) (simp append_assoc (regroup (frames_of l ++ (frames_of x ++ flat_map frames_of ts)) frames));
        frames_left = left_step g.frames_left;
      }

-- positions that are in order, form n trees and have no more frames than there are
pub grown :
    (rows : List (List ℕ)) (fs : List Frame) (n : ℕ)
    → Trees (map (λ (r : List ℕ). get_or r 0 0) rows) n
    → Wide (width Positions) rows
    → ((i : ℕ) → i < length rows → PositionOk (cell rows i))
    → ((i : ℕ) → i < length rows → Storable (value_in (cell rows i) RESULT))
    → sum_below (λ i. cell rows i WAITING) (length rows) ≤ length fs
    → Grown rows fs n
unfolding forest flat_map sum_below
grown [] fs zero no_tree wide ok said enough =
    record { many = refl; rows_are = refl; values = λ t m. absurd (Memᴰ.not-nil m); frames_are = refl; frames_left = omega arith }
grown (r ∷ rs) fs (suc n) (one_thread k t) wide ok said enough =
    let s = sum_front (λ i. cell (r ∷ rs) i WAITING) (length rs) in
    let g = grown rs fs n t (λ i h. wide (suc i) (omega arith)) (λ i h. ok (suc i) (omega arith)) (λ i h. said (suc i) (omega arith)) (omega arith) in
    with_thread r rs fs (wide 0 (omega arith)) (ok 0 (omega arith)) (omega (arith, g.frames_left)) n g k (said 0 (omega arith))
grown (r ∷ rs) fs (suc n) (one_join k t) wide ok said enough =
    let s = sum_front (λ i. cell (r ∷ rs) i WAITING) (length rs) in
    let g =
    grown rs fs (suc (suc n)) t (λ i h. wide (suc i) (omega arith)) (λ i h. ok (suc i) (omega arith)) (λ i h. said (suc i) (omega arith)) (omega arith)
    in
    with_join r rs fs (wide 0 (omega arith)) (ok 0 (omega arith)) (omega (arith, g.frames_left)) n (forest rs fs).trees refl g k
grown [] fs (suc n) x10 wide ok said enough = elim x10 [ ]
grown (r ∷ rs) fs zero x7 wide ok said enough = elim x7 [ ]
