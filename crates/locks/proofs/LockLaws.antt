-- The locks of the configuration that is read from a block, by the marks.
use mathlib.Core.Path.{◌≡◌, refl, sym, ap, ◌∙◌}
use mathlib.Core.Bool.{Bool, true, false, not, ◌&&◌}
use mathlib.Core.List.{List, [], ◌∷◌, ◌++◌, append-nil, map, map-append, flat_map, reverse}
use mathlib.Core.Option.{none}
use Prim.Native.Nat.{ℕ, zero, suc, ◌+◌, ◌<◌, ◌≤◌}
use native.Mathlib.Omega.{arith}
use native.Mathlib.Decide.{dec_lt}
use borrow.Author.Tests.{not-true, not-false, ne_eqb}
use lib.Dec.{eqb, leb}
use lib.ListN.{length, get_or}
use Rattle.script.specs.Lists.{◌∈◌, run, sum_below}
use Rattle.script.specs.Asking.{Decides}
use Rattle.script.specs.Questions.{all_of}
use Rattle.script.proofs.Lists.{length_run, sum_next}
use Rattle.script.proofs.Tests.{true_false, yes_said, no_said, decides_le, decides_all, all_append}
use Rattle.machine.specs.declared.Frame.{Frame}
use Rattle.machine.specs.Config.{Object, Tree, running, returning, failed, join, Config}
use Rattle.machine.specs.Machine.{object, one_if, lock_frames}
use Rattle.machine.specs.WellFormed.{lock_count, failures, shut_at}
use Rattle.machine.specs.Decide.{lock_list, distinct_test, numbers_below}
use Rattle.soundness.proofs.Ends.{frames_append, locks_turned}
use Rattle.machine.proofs.Locks.{lock_listed}
use Rattle.soundness.proofs.Stores.{shut_at_object}
use Rattle.block.specs.declared.Area.{Area}
use Rattle.block.specs.declared.Area.TheVariants.{Objects, Positions, Frames}
use Rattle.block.specs.Layout.{width, counted, word_in, rows_in, SHUT}
use Rattle.block.specs.Block.{preorder, position_words, frames_of, frame_words, parts_of, rows}
use Rattle.block.specs.Decode.{frame_of, config_in}
use Rattle.representation.specs.InOrder.{FrameOk, is_awaits, is_casts, is_locks, InOrder}
use Rattle.block.proofs.Trees.{frames_join}
use Rattle.block.proofs.Words.{rows_read}
use Rattle.block.proofs.Decode.{frame_back, encode_decode}
use Rattle.representation.proofs.InOrder.{firsts, in_order_decodes}
use Rattle.values.specs.Objects.{object_at}
use Rattle.locks.specs.Locking.{shut_in, lock_at, locks_in, Marking, marked, clashes, kind_at, goes_on, locks_test}
use Rattle.values.proofs.ReadLaws.{map_run, object_run, object_past, objects_read}
use Rattle.locks.proofs.MarkLaws.{shut_there, shut_absent, is_marked, marking_yes}

-- the lock frames of a tree stand among its frames
locks_among : (o : ℕ) (t : Tree) → lock_count o t ≡ lock_frames o (frames_of t)
unfolding frames_of preorder flat_map
locks_among o (running a e fs) = sym (ap (lock_frames o) (append-nil (reverse fs)) ∙ locks_turned o fs)
locks_among o (returning v fs) = sym (ap (lock_frames o) (append-nil (reverse fs)) ∙ locks_turned o fs)
locks_among o failed = refl
locks_among o (join fs a e l r) =
    omega
    (arith, ap (lock_frames o) (frames_join fs a e l r), frames_append o (reverse fs) (frames_of l ++ frames_of r), frames_append o (frames_of l) (frames_of r), locks_turned o fs, locks_among o l, locks_among o r)

-- frames that are each read from words, counted
locks_sum :
    (o : ℕ) (g : ℕ → Frame) (h : ℕ → ℕ) (i n : ℕ) → ((j : ℕ) → j < i + n → (l : List Frame) → lock_frames o (g j ∷ l) ≡ h j + lock_frames o l)
    → sum_below h i + lock_frames o (run g i n) ≡ sum_below h (i + n)
unfolding run
locks_sum o g h i zero e = let z : i + 0 ≡ i = omega arith in rw z (omega arith)
locks_sum o g h i (suc n) e =
    let z : i + suc n ≡ i + 1 + n = omega arith in
    rw z (omega (arith, e i (omega arith) (run g (i + 1) n), sum_next h i (sum_below h i) (h i) refl refl, locks_sum o g h (i + 1) n (λ j l. e j (omega arith))))

-- the failed threads stand among the positions
kinds : Tree → List ℕ
kinds t = map (λ (r : List ℕ). get_or r 0 0) (map position_words (preorder t))

none_failed : (t : Tree) → eqb (failures t) 0 ≡ all_of goes_on (kinds t)
unfolding kinds preorder all_of
none_failed (running a e fs) = refl
none_failed (returning v fs) = refl
none_failed failed = refl
none_failed (join fs a e l r) =
    no_sum (failures l) (failures r)
    ∙ ap (λ (t : Bool). t && eqb (failures r) 0) (none_failed l)
    ∙ ap (λ (t : Bool). all_of goes_on (kinds l) && t) (none_failed r)
    ∙ sym (all_append goes_on (kinds l) (kinds r))
    ∙ ap (all_of goes_on) (sym (apart (preorder l) (preorder r)))
  where
    no_sum : (m n : ℕ) → eqb (m + n) 0 ≡ eqb m 0 && eqb n 0
    no_sum zero n = let z : 0 + n ≡ n = omega arith in rw z refl
    no_sum (suc m) n = ne_eqb (suc m + n) 0 (λ e. omega arith) ∙ sym (rw (ne_eqb (suc m) 0 (λ e. omega arith)) refl)

    apart : (x y : List Tree) → map (λ (w : List ℕ). get_or w 0 0) (map position_words (x ++ y)) ≡ map (λ (w : List ℕ). get_or w 0 0) (map position_words x) ++ map (λ (w : List ℕ). get_or w 0 0) (map position_words y)
    apart x y = ap (map (λ (w : List ℕ). get_or w 0 0)) (map-append position_words x y) ∙ map-append (λ (w : List ℕ). get_or w 0 0) (map position_words x) (map position_words y)

module _ (field_count : ℕ → ℕ) (b : List ℕ) (o : InOrder field_count b) where
  abbrev c : Config
  c = config_in field_count b

  -- the records of the configuration
  rows_of : (a : Area) → rows_in b a ≡ rows (parts_of c) a
  rows_of a = let x = encode_decode field_count b c (in_order_decodes field_count b o) in ap (λ (z : List ℕ). rows_in z a) (sym x.0) ∙ rows_read (parts_of c) x.1.few a

  frame_at : ℕ → Frame
  frame_at i = frame_of (run (word_in b Frames i) 0 (width Frames))

  frames_read : frames_of c.tree ≡ run frame_at 0 (counted b Frames)
  unfolding rows_in frame_at
  frames_read = sym (back (frames_of c.tree)) ∙ ap (map frame_of) (sym (rows_of Frames)) ∙ map_run (λ i. run (word_in b Frames i) 0 (width Frames)) frame_of 0 (counted b Frames)
    where
      back : (fs : List Frame) → map frame_of (map frame_words fs) ≡ fs
      back [] = refl
      back (f ∷ fs) = let h = frame_back f in let t = back fs in cc

  frame_locks : (p i : ℕ) → i < counted b Frames → (l : List Frame) → lock_frames p (frame_at i ∷ l) ≡ lock_at b p i + lock_frames p l
  unfolding run frame_at
  frame_locks p i h l = go ((o.areas Frames).records.each i h)
    where
      go : FrameOk (word_in b Frames i) → lock_frames p (frame_at i ∷ l) ≡ lock_at b p i + lock_frames p l
      go (is_awaits k) = rw k (omega arith)
      go (is_casts k z) = rw k (omega arith)
      go (is_locks k z) = rw k (omega arith)

  -- how often an object is locked, whether it is shut, and whether a thread has failed
  locks_read : (p : ℕ) → lock_count p c.tree ≡ locks_in b p (counted b Frames)
  unfolding sum_below
  locks_read p =
      let z : 0 + counted b Frames ≡ counted b Frames = omega arith in
      let e = locks_sum p frame_at (lock_at b p) 0 (counted b Frames) (λ i h. frame_locks p i (omega arith)) in
      locks_among p c.tree ∙ ap (lock_frames p) frames_read ∙ omega (arith, rw z at e)

  shut_read : (p : ℕ) → shut_at c.stores.objects p ≡ shut_in b p
  shut_read p =
      rw (objects_read field_count b (o.areas Objects))
      (elim (dec_lt p (counted b Objects)) [
        | yes h ↦
            let z : 0 + p ≡ p = omega arith in
            shut_at_object objects p (object_at field_count b p) (object_run (object_at field_count b) 0 (counted b Objects) p h ∙ rw z refl)
            ∙ one (word_in b Objects p SHUT) ((o.areas Objects).records.each p h).shut
            ∙ sym (shut_there b p h)
        | no h ↦ none_shut objects p (object_past (object_at field_count b) 0 (counted b Objects) p (omega arith)) ∙ sym (shut_absent b p (omega arith))
      ])
    where
      objects : List Object
      objects = run (object_at field_count b) 0 (counted b Objects)

      one : (w : ℕ) → w ≤ 1 → one_if (eqb w 1) ≡ w
      one zero h = refl
      one (suc zero) h = refl
      one (suc (suc w)) h = absurd (omega arith)

      none_shut : (xs : List Object) (q : ℕ) → object xs q ≡ none → shut_at xs q ≡ 0
      none_shut [] q e = refl
      none_shut (x ∷ xs) zero e = absurd (let z : ◌≡◌ {A = ℕ} 0 1 = cc in omega arith)
      none_shut (x ∷ xs) (suc q) e = none_shut xs q e

  failed_read : eqb (failures c.tree) 0 ≡ all_of goes_on (run (kind_at b) 0 (counted b Positions))
  unfolding kinds
  failed_read = none_failed c.tree ∙ ap (all_of goes_on) (ap (map (λ (r : List ℕ). get_or r 0 0)) (sym (rows_of Positions)) ∙ firsts b Positions (omega arith))

  objects_many : length c.stores.objects ≡ counted b Objects
  objects_many = ap length (objects_read field_count b (o.areas Objects)) ∙ length_run (object_at field_count b) 0 (counted b Objects)

  -- the two tests
  distinct_test_lem : Decides ((p : ℕ) → p ∈ lock_list c.tree → lock_count p c.tree ≤ shut_at c.stores.objects p) (distinct_test c.stores.objects c.tree)
  distinct_test_lem =
      decides_all (λ p. lock_count p c.tree ≤ shut_at c.stores.objects p) (λ p. leb (lock_count p c.tree) (shut_at c.stores.objects p)) (lock_list c.tree)
      (λ p. decides_le (lock_count p c.tree) (shut_at c.stores.objects p))

  same_tests : (f g : ℕ → Bool) (l : List ℕ) → ((p : ℕ) → f p ≡ g p) → all_of f l ≡ all_of g l
  unfolding all_of
  same_tests f g [] e = refl
  same_tests f g (p ∷ l) e = let h = e p in let t = same_tests f g l e in cc

  module _ {marks : List ℕ} {r : Bool} (m : Marking b (counted b Frames) marks r) where
    -- a lock frame too many
    pub locks_no : not r ≡ true → false ≡ locks_test c
    locks_no q = go m q
      where
        go : {u : Bool} → Marking b (counted b Frames) marks u → not u ≡ true → false ≡ locks_test c
        go (marked k) n = absurd (true_false (sym n))
        go (clashes p h) n =
            let no : distinct_test c.stores.objects c.tree ≡ false =
            no_said distinct_test_lem (λ f. omega (arith, f p (lock_listed p c.tree (omega (arith, locks_read p))), locks_read p, shut_read p))
            in
            rw no refl

    module _ (yes : not r ≡ false) (some_go : Bool) (e : some_go ≡ all_of goes_on (run (kind_at b) 0 (counted b Positions))) where
      distinct : distinct_test c.stores.objects c.tree ≡ true
      distinct = yes_said distinct_test_lem (λ p k. rw (locks_read p, shut_read p) ((marking_yes m yes).distinct p))

      -- a failed thread
      pub locks_failed : not some_go ≡ true → true ≡ locks_test c
      locks_failed q = let f : eqb (failures c.tree) 0 ≡ false = failed_read ∙ sym e ∙ not-true some_go q in rw (distinct, f) refl

      -- no failed thread
      pub locks_covered : (t : Bool) → not some_go ≡ false → t ≡ all_of (is_marked b marks) (numbers_below (counted b Objects)) → t ≡ locks_test c
      locks_covered t q g =
          let f : eqb (failures c.tree) 0 ≡ true = failed_read ∙ sym e ∙ not-false some_go q in
          let same = same_tests (is_marked b marks) (λ p. leb (shut_at c.stores.objects p) (lock_count p c.tree)) (numbers_below (counted b Objects)) (λ p. rw ((marking_yes m yes).counts p, locks_read p, shut_read p) refl) in
          g ∙ same ∙ rw (distinct, f, objects_many) refl
