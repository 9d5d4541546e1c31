-- Every part is about the bytes of its area, and a byte at fault there is its fault.
use mathlib.Core.Path.{◌≡◌, sym, ap, ◌∙◌}
use mathlib.Core.List.{List, map, reverse}
use mathlib.Core.Logic.{◌≢◌}
use Prim.Native.Nat.{ℕ, ◌+◌, ◌*◌, ◌/◌, ◌<◌, ◌≤◌}
use native.Mathlib.Omega.{arith}
use native.Mathlib.Decide.{dec_lt}
use lib.ListN.{get_or}
use borrow.Author.Tests.{eq-eqb, ne_eqb}
use Rattle.words.specs.Word.{word_at}
use Rattle.script.specs.Lists.{run}
use Rattle.script.proofs.Lists.{zeros, run_same}
use Rattle.machine.specs.Machine.{field_count}
use Rattle.block.specs.declared.Area.{Area}
use Rattle.block.specs.declared.Area.TheVariants.{Objects, Bindings, Positions, Frames}
use Rattle.block.specs.Layout.{VALUE, CLASS, SHUT, field_word, BOUND, width, most, counted, word_byte, word_in, rows_in}
use Rattle.block.specs.Values.{REF, INT, ValueOk}
use Rattle.block.specs.Decode.{object_of, binding_of, config_in}
use Rattle.block.proofs.Values.{value_word}
use Rattle.representation.specs.InOrder.{AreaOk}
use Rattle.representation.proofs.InOrder.{record_same}
use Rattle.parts.specs.Parts.{ObjectsAre, BindingsAre, ThreadsAre, objects_in, config_read}
use Rattle.parts.specs.ByBytes.{SameBytes, NoValue, unknown_kind, beside_null, behind_object, ObjectFault, many_objects, lock_word, field_value, unused_field, unused_object, BindingFault, many_bindings, bound_value, unused_binding, RestFault, many_frames, many_positions, unused_position, unused_frame, unused_rest, ByBytes}

-- a byte that is not 0 stands in a word that is not 0
byte_there : (b : List ℕ) (n m : ℕ) → m ≤ n → n < m + 2 → get_or b n 0 ≢ 0 → word_at b m ≡ 0 → ⊥
unfolding word_at
byte_there b n m l h p z =
    elim (dec_lt n (m + 1)) [
      | yes k ↦ let e : n ≡ m = omega arith in p (rw e (omega (arith, z)))
      | no k ↦ let e : n ≡ m + 1 = omega arith in p (rw e (omega (arith, z)))
    ]

-- no value: by its kind, or by a byte of it
no_value : (b : List ℕ) (w : ℕ → ℕ) (j at : ℕ) → ((m : ℕ) → m < VALUE → w (j + m) ≡ word_at b (at + 2 * m)) → NoValue b at → ValueOk w j → ⊥
no_value b w j at e x ok = go x
  where
    kind : w j ≡ word_at b at
    kind = let z : j + 0 ≡ j = omega arith in let y : at + 2 * 0 ≡ at = omega arith in rw (z, y) at (e 0 (omega arith))

    null : (w j ≡ REF → ⊥) → (w j ≡ INT → ⊥) → (m : ℕ) → m < VALUE → w (j + m) ≡ 0
    null r i m h = rw (ne_eqb (w j) REF r, ne_eqb (w j) INT i) at (value_word w j ok m h) ∙ zeros VALUE m

    go : NoValue b at → ⊥
    go (unknown_kind k) =
        let z : j + 0 ≡ j = omega arith in
        omega (arith, k, kind, rw z at (null (λ r. omega (arith, k, kind, r)) (λ i. omega (arith, k, kind, i)) 0 (omega arith)))
    go (beside_null {j = i} k l h p) =
        byte_there b (at + i) (at + 2 * (i / 2)) (omega arith) (omega arith) p
        (sym (e (i / 2) (omega arith)) ∙ null (λ r. omega (arith, k, kind, r)) (λ i. omega (arith, k, kind, i)) (i / 2) (omega arith))
    go (behind_object {j = i} k l h p) =
        byte_there b (at + i) (at + 2 * 2) (omega arith) (omega arith) p
        (sym (e 2 (omega arith)) ∙ rw (eq-eqb (w j) REF (kind ∙ k)) at (value_word w j ok 2 (omega arith)))

-- byte n is byte j of record i of an area
module _ (b : List ℕ) (a : Area) (i j n : ℕ) (e : n ≡ word_byte a i 0 + j) (p : get_or b n 0 ≢ 0) where
  word_there : word_in b a i (j / 2) ≡ 0 → ⊥
  word_there = byte_there b n (word_byte a i (j / 2)) (omega (arith, e)) (omega (arith, e)) p

  -- and no record is in that place
  place_there : {field_count : ℕ → ℕ} → counted b a ≤ i → i < most a → j < 2 * width a → AreaOk field_count b a → ⊥
  place_there c m h o = word_there (o.blank.zero i (j / 2) c m (omega arith))

objects_fault : {s b : List ℕ} → ObjectFault s b → ObjectsAre s b → ⊥
objects_fault (many_objects h) o = omega (arith, h, o.area.few)
objects_fault {b = b} (lock_word {i} l h) o =
    let e : word_in b Objects i SHUT ≡ word_at b (8 + 52 * i + 2) = ap (word_at b) (omega arith) in
    omega (arith, h, e, (o.area.records.each i l).shut)
objects_fault {s} {b} (field_value {i} {k} l h x) o =
    let e : word_at b (8 + 52 * i) ≡ word_in b Objects i CLASS = ap (word_at b) (omega arith) in
    no_value b (word_in b Objects i) (field_word k) (8 + 52 * i + 4 + 6 * k) (λ m n. ap (word_at b) (omega arith)) x ((o.area.records.each i l).values.each k (rw e at h))
objects_fault {s} {b} (unused_field {i} {j} l h k p) o =
    let e : word_at b (8 + 52 * i) ≡ word_in b Objects i CLASS = ap (word_at b) (omega arith) in
    word_there b Objects i j (8 + 52 * i + j) (omega arith) p ((o.area.records.each i l).unused.zero (j / 2) (omega (arith, rw e at h)) (omega arith))
objects_fault {b = b} (unused_object {i} {j} l h k p) o = place_there b Objects i j (8 + 52 * i + j) (omega arith) p l h (omega arith) o.area

bindings_fault : {s b : List ℕ} → BindingFault b → BindingsAre s b → ⊥
bindings_fault (many_bindings h) v = omega (arith, h, v.area.few)
bindings_fault {b = b} (bound_value {i} l x) v = no_value b (word_in b Bindings i) BOUND (13320 + 12 * i + 4) (λ m n. ap (word_at b) (omega arith)) x (v.area.records.each i l)
bindings_fault {b = b} (unused_binding {i} {j} l h k p) v = place_there b Bindings i j (13320 + 12 * i + j) (omega arith) p l h (omega arith) v.area

threads_fault : {s : List ℕ} {t : ℕ} {b : List ℕ} → RestFault b → ThreadsAre s t b → ⊥
threads_fault (many_frames h) x = omega (arith, h, x.bytes.frames.few)
threads_fault (many_positions h) x = omega (arith, h, x.bytes.positions.few)
threads_fault {b = b} (unused_position {i} {j} l h k p) x = place_there b Positions i j (37896 + 14 * i + j) (omega arith) p l h (omega arith) x.bytes.positions
threads_fault {b = b} (unused_frame {i} {j} l h k p) x = place_there b Frames i j (38778 + 6 * i + j) (omega arith) p l h (omega arith) x.bytes.frames
threads_fault {b = b} (unused_rest {n} l h p) x = byte_there b n (2 * (n / 2)) (omega arith) (omega arith) p (x.bytes.rest.zero (n / 2) (omega arith) (omega arith))

-- two blocks that have the same bytes in an area
module _ (b d : List ℕ) (a : Area) (count : counted b a ≡ counted d a) (words : (i j : ℕ) → i < most a → j < width a → word_in b a i j ≡ word_in d a i j) where
  area_same : {field_count : ℕ → ℕ} → AreaOk field_count b a → AreaOk field_count d a
  area_same {field_count} o =
      record {
        few = rw (← count) o.few;
        records = record { each = λ i l. record_same field_count a (word_in b a i) (word_in d a i) (λ j h. sym (words i j (omega (arith, l, count, o.few)) h)) (o.records.each i (rw (← count) at l)) };
        blank = record { zero = λ i j k l m. sym (words i j l m) ∙ o.blank.zero i j (omega (arith, k, count)) l m };
      }

  rows_same : counted b a ≤ most a → rows_in b a ≡ rows_in d a
  unfolding rows_in
  rows_same few =
      rw (← count)
      (run_same (λ i. run (word_in b a i) 0 (width a)) (λ i. run (word_in d a i) 0 (width a)) 0 (counted b a)
      (λ i l u. run_same (word_in b a i) (word_in d a i) 0 (width a) (λ j n m. words i j (omega (arith, u, few)) (omega arith))))

word_same : (b d : List ℕ) {from to : ℕ} → SameBytes b d from to → (m : ℕ) → from ≤ m → m + 1 < to → word_at b m ≡ word_at d m
unfolding word_at
word_same b d e m l h = omega (arith, e m l (omega arith), e (m + 1) (omega arith) h)

-- the objects, whether they are read alone or for the bindings
module _ {s b : List ℕ} (d : List ℕ) (to : ℕ) (counts : SameBytes b d 0 2) (areas : SameBytes b d 8 to) (reach : 13320 ≤ to) (o : ObjectsAre s b) where
  object_count : counted b Objects ≡ counted d Objects
  object_count = word_same b d counts 0 (omega arith) (omega arith)

  object_words_lem : (i j : ℕ) → i < most Objects → j < width Objects → word_in b Objects i j ≡ word_in d Objects i j
  object_words_lem i j h k = word_same b d areas (word_byte Objects i j) (omega arith) (omega arith)

  objects_same : objects_in s b ≡ objects_in s d
  unfolding config_in
  objects_same = ap (map (object_of (field_count s))) (rows_same b d Objects object_count object_words_lem o.area.few)

  objects_kept : ObjectsAre s d
  objects_kept = record { area = area_same b d Objects object_count object_words_lem o.area; heap = rw (← objects_same) o.heap }

module _ {s b : List ℕ} (d : List ℕ) (counts : SameBytes b d 0 4) (areas : SameBytes b d 8 37896) (o : ObjectsAre s b) (v : BindingsAre s b) where
  binding_count_lem : counted b Bindings ≡ counted d Bindings
  binding_count_lem = word_same b d counts 2 (omega arith) (omega arith)

  binding_words_lem : (i j : ℕ) → i < most Bindings → j < width Bindings → word_in b Bindings i j ≡ word_in d Bindings i j
  binding_words_lem i j h k = word_same b d areas (word_byte Bindings i j) (omega arith) (omega arith)

  bindings_same : (config_read s b).stores.bindings ≡ (config_read s d).stores.bindings
  unfolding config_in
  bindings_same = ap (λ (l : List (List ℕ)). reverse (map binding_of l)) (rows_same b d Bindings binding_count_lem binding_words_lem v.area.few)

  bindings_kept : BindingsAre s d
  bindings_kept =
      let objects = objects_same d 37896 (λ n l h. counts n l (omega arith)) areas (omega arith) o in
      record { area = area_same b d Bindings binding_count_lem binding_words_lem v.area; vars = rw (← objects, ← bindings_same) v.vars }

pub by_bytes : (s : List ℕ) (t : ℕ) (b : List ℕ) → ByBytes s t b
by_bytes s t b =
    record {
      object_fault = objects_fault;
      binding_fault = bindings_fault;
      rest_fault = threads_fault;
      objects_alone = λ d e f. objects_kept d 13320 e f (omega arith);
      bindings_alone = λ d. bindings_kept d;
    }
