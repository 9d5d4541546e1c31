-- The block of a configuration that fits is in order; so what `decode` accepts is just what is in order.
use mathlib.Core.Path.{◌≡◌, refl, ap, ◌∙◌}
use mathlib.Core.Bool.{Bool, true, false}
use mathlib.Core.List.Memᴰ
use mathlib.Core.List.{List, [], ◌∷◌, ◌++◌, append_assoc, append-nil, map, map-map, map-append, flat_map, reverse}
use mathlib.Core.Option.{some}
use Prim.Native.Nat.{ℕ, zero, suc, ◌+◌, ◌-◌, ◌/◌, ◌%◌, ◌<◌, ◌≤◌}
use native.Mathlib.Omega.{arith}
use native.Mathlib.Decide.{dec_lt}
use lib.ListN.{length, get_or, length-append, length-map, length-reverse, get_or-eq_default}
use Rattle.limits.specs.Limits.{CLASS_FIELDS}
use Rattle.script.specs.Lists.{◌∈◌, sum_below}
use Rattle.machine.specs.declared.Value.{Value}
use Rattle.machine.specs.declared.Value.TheVariants.{Null as nil}
use Rattle.machine.specs.declared.Frame.{Frame}
use Rattle.machine.specs.declared.Frame.TheVariants.{Awaits as awaits, Casts as casts, Locks as locks}
use Rattle.machine.specs.Config.{Object, Binding, Tree, running, returning, failed, join, Config}
use Rattle.block.specs.Rows.{word_of, cell}
use Rattle.block.specs.declared.Area.{Area}
use Rattle.block.specs.declared.Area.TheVariants.{Objects, Bindings, Positions, Frames}
use Rattle.block.specs.Layout.{VALUE, width, counted, word_in, FIRST_FIELD, field_word, BOUND, KIND, RESULT, WAITING, RUNNING, RETURNING, FAILED}
use Rattle.block.specs.Values.{value_words, ValueOk, Storable}
use Rattle.block.specs.Block.{returned}
use Rattle.block.specs.Block.{shut_word, object_words, binding_words, frame_words, position_words, waiting, preorder, frames_of, Parts, parts_of, rows, encode}
use Rattle.block.specs.Fits.{Fits}
use Rattle.block.specs.Decode.{decode}
use Rattle.representation.specs.InOrder.{Unused, ObjectOk, PositionOk, is_running, is_returning, is_failed, is_join, FrameOk, is_awaits, is_casts, is_locks, RecordOk, AreaOk, Trees, no_tree, one_thread, one_join, OneTree, InOrder}
use Rattle.block.proofs.Rows.{row_at_lem}
use Rattle.block.proofs.Values.{value_ok, row_value, value_after, field_cell, field_words, storable_at}
use Rattle.block.proofs.Words.{encode_length, count_is_lem, word_is, rows_read, rest_blank}
use Rattle.block.proofs.Fits.{all_small, encode_bytes}
use Rattle.block.proofs.Decode.{encode_decode}
use Rattle.representation.proofs.Growing.{sum_front}
use Rattle.representation.proofs.InOrder.{record_same, sum_same, firsts}

shut_bound : (s : Bool) → shut_word s ≤ 1
shut_bound true = omega arith
shut_bound false = omega arith

object_ok :
    (field_count : ℕ → ℕ) (o : Object)
    → length o.fields ≡ field_count o.class
    → length o.fields ≤ CLASS_FIELDS
    → ((v : Value) → v ∈ o.fields → Storable v)
    → ObjectOk field_count (word_of (object_words o))
object_ok field_count o e h s =
    record {
      shut = shut_bound o.shut;
      few = omega arith;
      values = record {
        each = λ k l. value_ok (word_of (object_words o)) (field_word k) (get_or o.fields k nil) (storable_at o.fields s k) (field_words o k (omega arith));
      };
      unused = record {
        zero = λ j l m.
            let k = (j - FIRST_FIELD) / VALUE in
            let n = (j - FIRST_FIELD) % VALUE in
            let at : field_word k + n ≡ j = omega arith in
            rw (← at)
            (field_cell o k n (omega arith) (omega arith)
            ∙ rw (get_or-eq_default (map value_words o.fields) [] {n = k} (omega (arith, length-map o.fields value_words))));
      };
    }

binding_ok : (x : Binding) → Storable x.value → ValueOk (word_of (binding_words x)) BOUND
binding_ok x s = value_ok (word_of (binding_words x)) BOUND x.value s (row_value (x.name ∷ x.type ∷ []) x.value (x.link ∷ []))

-- words that are each 0
none : {w : ℕ → ℕ} {j : ℕ} → Unused w j j
none = record { zero = λ k l h. absurd (omega arith) }

more : {w : ℕ → ℕ} {from m : ℕ} → Unused w from m → w m ≡ 0 → Unused w from (m + 1)
more {m = m} u z = record { zero = λ k l h. elim (dec_lt k m) [ yes y ↦ u.zero k l y | no y ↦ let e : k ≡ m = omega arith in rw e z ] }

position_ok : (t : Tree) → Storable (returned t) → PositionOk (word_of (position_words t))
position_ok (running p e fs) s = is_running refl (more (more (more none refl) refl) refl)
position_ok (returning v fs) s =
    let row = RETURNING ∷ 0 ∷ 0 ∷ [] in
    is_returning refl (more (more none refl) refl) (value_ok (word_of (position_words (returning v fs))) RESULT v s (row_value row v (length fs ∷ [])))
position_ok failed s = is_failed refl (more (more (more (more (more (more none refl) refl) refl) refl) refl) refl)
position_ok (join fs p e l r) s = is_join refl (more (more (more none refl) refl) refl)

frame_ok : (f : Frame) → FrameOk (word_of (frame_words f))
frame_ok (awaits p e) = is_awaits refl
frame_ok (casts p) = is_casts refl (more none refl)
frame_ok (locks o) = is_locks refl (more none refl)

-- the kinds of a tree's positions, before those of other trees
kind : Tree → ℕ
kind t = word_of (position_words t) KIND

tree_kinds : (t : Tree) (ks : List ℕ) (n : ℕ) → Trees ks n → Trees (map kind (preorder t) ++ ks) (suc n)
unfolding preorder kind
tree_kinds (running p e fs) ks n h = one_thread {k = RUNNING} (omega arith) h
tree_kinds (returning v fs) ks n h = one_thread {k = RETURNING} (omega arith) h
tree_kinds failed ks n h = one_thread {k = FAILED} (omega arith) h
tree_kinds (join fs p e l r) ks n h =
    let both = tree_kinds l (map kind (preorder r) ++ ks) (suc n) (tree_kinds r ks n h) in
    let all : Trees (map kind (preorder l ++ preorder r) ++ ks) (suc (suc n)) = rw (map-append kind (preorder l) (preorder r), append_assoc) both in
    one_join refl all

-- the numbers of frames add up to the frames there are
pub frame_number : (t : Tree) → word_of (position_words t) WAITING ≡ length (waiting t)
frame_number (running p e fs) = refl
frame_number (returning v fs) = value_after (RETURNING ∷ 0 ∷ 0 ∷ []) v (length fs ∷ []) 0
frame_number failed = refl
frame_number (join fs p e l r) = refl

frames_sum : (ts : List Tree) → sum_below (λ i. cell (map position_words ts) i WAITING) (length ts) ≡ length (flat_map (λ t. reverse (waiting t)) ts)
unfolding sum_below flat_map
frames_sum [] = refl
frames_sum (t ∷ ts) =
    sum_front (λ i. cell (map position_words (t ∷ ts)) i WAITING) (length ts)
    ∙ omega (arith, frames_sum ts, frame_number t, length-reverse (waiting t), length-append (reverse (waiting t)) (flat_map (λ t. reverse (waiting t)) ts))

-- an element by its number is in the list
pub at_in : {A : Type 0} (xs : List A) (i : ℕ) (d : A) → i < length xs → get_or xs i d ∈ xs
at_in [] i d h = absurd (omega arith)
at_in (x ∷ xs) zero d h = Memᴰ.head refl
at_in (x ∷ xs) (suc i) d h = Memᴰ.tail (at_in xs i d (omega arith))

module _ (field_count : ℕ → ℕ) (c : Config) (fit : Fits field_count c) where
  abbrev p : Parts
  p = parts_of c

  -- word j of a record that is there
  row_word_lem : (a : Area) (i j : ℕ) → i < length (rows p a) → j < width a → word_in (encode c) a i j ≡ cell (rows p a) i j
  row_word_lem a i j h hj = word_is p a i j (omega (arith, fit.few a)) hj

  -- word j of the record of element i of a list
  element_word :
      {A : Type 0} (a : Area) (f : A → List ℕ) (xs : List A) (i : ℕ) (d : A)
      → rows p a ≡ map f xs
      → i < length xs
      → (j : ℕ) → j < width a → word_in (encode c) a i j ≡ get_or (f (get_or xs i d)) j 0
  element_word a f xs i d e h j hj =
      row_word_lem a i j (rw e (rw (length-map xs f) h)) hj ∙ rw e (ap (λ (r : List ℕ). get_or r j 0) (row_at_lem f xs i d h))

  tree_shown : OneTree (encode c)
  unfolding kind
  tree_shown =
      let first : (List ℕ → ℕ) = λ r. get_or r 0 0 in
      let kinds : Trees (map first (map position_words (preorder c.tree))) 1 =
      rw map-map (rw (append-nil (map kind (preorder c.tree))) at (tree_kinds c.tree [] 0 no_tree))
      in
      rw (← firsts (encode c) Positions (omega arith), rows_read p fit.few Positions) kinds

  frames_shown : sum_below (λ i. word_in (encode c) Positions i WAITING) (length p.positions) ≡ length p.frames
  unfolding frames_of
  frames_shown =
      sum_same (λ i. word_in (encode c) Positions i WAITING) (λ i. cell (map position_words p.positions) i WAITING) (length p.positions)
      (λ i l. row_word_lem Positions i WAITING (rw (length-map p.positions position_words) l) (omega arith))
      ∙ frames_sum p.positions

  -- the counts of lists
  counts_list : {A : Type 0} (a : Area) (f : A → List ℕ) (xs : List A) → rows p a ≡ map f xs → counted (encode c) a ≡ length xs
  counts_list a f xs e = count_is_lem p a ∙ rw e (length-map xs f)

  records_shown : (a : Area) (i : ℕ) → i < counted (encode c) a → RecordOk field_count a (word_in (encode c) a i)
  records_shown Objects i h =
      let l : i < length p.objects = rw (counts_list Objects object_words p.objects refl) at h in
      let d : Object = record { class = 0; shut = false; fields = [] } in
      let o = get_or p.objects i d in
      let m = at_in p.objects i d l in
      record_same field_count Objects (word_of (object_words o)) (word_in (encode c) Objects i) (element_word Objects object_words p.objects i d refl l)
      (object_ok field_count o (fit.own_fields_lem o m) (fit.few_fields o m) (fit.values Objects o m))
  records_shown Bindings i h =
      let l : i < length p.bindings = rw (counts_list Bindings binding_words p.bindings refl) at h in
      let d : Binding = record { name = 0; type = 0; value = nil; link = 0 } in
      let x = get_or p.bindings i d in
      record_same field_count Bindings (word_of (binding_words x)) (word_in (encode c) Bindings i)
      (element_word Bindings binding_words p.bindings i d refl l) (binding_ok x (fit.values Bindings x (at_in p.bindings i d l)))
  records_shown Positions i h =
      let l : i < length p.positions = rw (counts_list Positions position_words p.positions refl) at h in
      let t = get_or p.positions i failed in
      record_same field_count Positions (word_of (position_words t)) (word_in (encode c) Positions i)
      (element_word Positions position_words p.positions i failed refl l) (position_ok t (fit.values Positions t (at_in p.positions i failed l)))
  records_shown Frames i h =
      let l : i < length p.frames = rw (counts_list Frames frame_words p.frames refl) at h in
      let f = get_or p.frames i (casts 0) in
      record_same field_count Frames (word_of (frame_words f)) (word_in (encode c) Frames i)
      (element_word Frames frame_words p.frames i (casts 0) refl l) (frame_ok f)

  area_shown : (a : Area) → AreaOk field_count (encode c) a
  area_shown a =
      record {
        few = rw (count_is_lem p a) (fit.few a);
        records = record { each = records_shown a };
        blank = record {
          zero = λ i j n h l.
              let m : length (rows p a) ≤ i = rw (count_is_lem p a) at n in
              word_is p a i j h l ∙ rw (get_or-eq_default (rows p a) [] {n = i} m);
        };
      }

  pub fits_in_order : InOrder field_count (encode c)
  fits_in_order =
      record {
        long = encode_length c;
        small = all_small (encode c) (encode_bytes field_count c fit);
        areas = area_shown;
        one_tree = tree_shown;
        all_frames = rw (counts_list Positions position_words p.positions refl, counts_list Frames frame_words p.frames refl) frames_shown;
        rest = record { zero = rest_blank p };
      }

-- what is decoded is in order
pub decoded_in_order : (field_count : ℕ → ℕ) (b : List ℕ) (c : Config) → decode field_count b ≡ some c → InOrder field_count b
decoded_in_order field_count b c e = let h = encode_decode field_count b c e in rw (← h.0) (fits_in_order field_count c h.1)
