-- The bytes that are in order are those that `decode` accepts.
use mathlib.Core.Path.{◌≡◌, refl, sym, ap, ◌∙◌}
use mathlib.Core.List.Memᴰ
use mathlib.Core.List.{List, [], ◌∷◌, append-nil, map, flat_map, reverse, reverse-reverse}
use mathlib.Core.Logic.{⊎_elim}
use mathlib.Core.Option.{some}
use Prim.Native.Nat.{ℕ, zero, suc, ◌+◌, ◌/◌, ◌%◌, ◌<◌, ◌≤◌}
use native.Mathlib.Omega.{arith}
use native.Mathlib.Decide.{dec_lt}
use lib.Dec.{eqb}
use lib.ListN.{length, get_or, length-map, length-reverse, get_or-eq_default, get_or-map}
use lib.Seq.{ext_get_or}
use Rattle.words.specs.Word.{WORD, word_at, bytes}
use Rattle.limits.specs.Limits.{CLASS_FIELDS}
use Rattle.script.specs.Lists.{◌∈◌, run, sum_below}
use Rattle.script.proofs.Lists.{length_run, get_d_run}
use Rattle.machine.specs.declared.Value.{Value}
use Rattle.machine.specs.declared.Value.TheVariants.{Null as nil}
use Rattle.machine.specs.declared.Frame.{Frame}
use Rattle.machine.specs.Config.{Object, Tree, failed, Config}
use Rattle.block.specs.Rows.{word_of, cell}
use Rattle.block.specs.declared.Area.{Area}
use Rattle.block.specs.declared.Area.TheVariants.{Objects, Bindings, Positions, Frames}
use Rattle.block.specs.Layout.{VALUE, width, word_byte, counted, word_in, rows_in, CLASS, SHUT, field_word, BOUND, KIND, ENV, RESULT, WAITING}
use Rattle.block.specs.Values.{value_words, value_in, ValueOk, Storable}
use Rattle.block.specs.Block.{shut_word, object_words, binding_words, frame_words, preorder, frames_of, parts_of, rows, block_words, encode}
use Rattle.block.specs.Fits.{AllWords, AllStorable, Fits}
use Rattle.block.specs.Decode.{object_of, binding_of, frame_of, forest, config_in, decode}
use Rattle.representation.specs.Shows.{Shows}
use Rattle.representation.specs.InOrder.{Unused, FieldsInOrder, ObjectOk, is_running, is_returning, is_failed, is_join, FrameOk, is_awaits, is_casts, is_locks, RecordOk, InOrder}
use Rattle.block.proofs.Rows.{row_at_lem}
use Rattle.block.proofs.Values.{value_word, value_ok_same, said_storable, field_cell}
use Rattle.block.proofs.Words.{object_width, rows_in_length, rows_in_wide, rows_in_cell}
use Rattle.representation.proofs.Shows.{shows_laid}
use Rattle.block.proofs.Decode.{decode_encode}
use Rattle.representation.proofs.Growing.{listed, Grown, grown}

-- each record got back as its words
shut_word_lem : (n : ℕ) → n ≤ 1 → shut_word (eqb n 1) ≡ n
shut_word_lem zero h = refl
shut_word_lem (suc zero) h = refl
shut_word_lem (suc (suc n)) h = absurd (omega arith)

values_many : (field_count : ℕ → ℕ) (r : List ℕ) → length (object_of field_count r).fields ≡ field_count (word_of r CLASS)
values_many field_count r = length_run (λ k. value_in (word_of r) (field_word k)) 0 (field_count (word_of r CLASS))

module _ (field_count : ℕ → ℕ) (r : List ℕ) (wide : length r ≡ width Objects) (ok : ObjectOk field_count (word_of r)) where
  own : ℕ
  own = field_count (word_of r CLASS)

  value : ℕ → Value
  value k = value_in (word_of r) (field_word k)

  -- word m of field k: that of the row, where the class has the field, and else 0
  field_word_lem : (k m : ℕ) → k < CLASS_FIELDS → m < VALUE → word_of (get_or (map value_words (run value 0 own)) k []) m ≡ word_of r (field_word k + m)
  unfolding own value
  field_word_lem k m h l =
      elim (dec_lt k own) [
        | yes y ↦
            let z : 0 + k ≡ k = omega arith in
            ap (λ (row : List ℕ). word_of row m) (row_at_lem value_words (run value 0 own) k nil (rw (length_run value 0 own) y))
            ∙ ap (λ (v : Value). word_of (value_words v) m) (get_d_run value 0 own k nil y ∙ ap value z)
            ∙ sym (value_word (word_of r) (field_word k) (ok.values.each k y) m l)
        | no n ↦
            rw (get_or-eq_default (map value_words (run value 0 own)) [] {n = k} (omega (arith, length-map (run value 0 own) value_words, length_run value 0 own)))
            (sym (ok.unused.zero (field_word k + m) (omega arith) (omega arith)))
      ]

  object_words_at : (j : ℕ) → j < width Objects → word_of (object_words (object_of field_count r)) j ≡ word_of r j
  unfolding own value
  object_words_at zero h = refl
  object_words_at (suc zero) h = shut_word_lem (word_of r SHUT) ok.shut
  object_words_at (suc (suc n)) h =
      let k = n / VALUE in
      let m = n % VALUE in
      let e : field_word k + m ≡ suc (suc n) = omega arith in
      rw (← e) (field_cell (object_of field_count r) k m (omega arith) (omega arith) ∙ field_word_lem k m (omega arith) (omega arith))

  object_words_lem : object_words (object_of field_count r) ≡ r
  object_words_lem =
      ext_get_or 0 (object_words (object_of field_count r)) r (object_width (object_of field_count r) ∙ sym wide)
      (λ j h. object_words_at j (omega (arith, object_width (object_of field_count r))))

binding_words_lem : (r : List ℕ) → length r ≡ width Bindings → ValueOk (word_of r) BOUND → binding_words (binding_of r) ≡ r
unfolding run
binding_words_lem r wide ok = rw (← ok) (listed (width Bindings) r wide)

three_words : (r : List ℕ) → length r ≡ width Frames → get_or r 0 0 ∷ get_or r 1 0 ∷ get_or r 2 0 ∷ [] ≡ r
unfolding run
three_words r wide = listed (width Frames) r wide

frame_words_lem : (r : List ℕ) → length r ≡ width Frames → FrameOk (λ j. get_or r j 0) → frame_words (frame_of r) ≡ r
unfolding run
frame_words_lem r wide (is_awaits k) = rw k (let e = three_words r wide in rw k at e)
frame_words_lem r wide (is_casts k a) = rw k (let e = three_words r wide in rw (k, a.zero ENV (omega arith) (omega arith)) at e)
frame_words_lem r wide (is_locks k a) = rw k (let e = three_words r wide in rw (k, a.zero ENV (omega arith) (omega arith)) at e)

-- what is asked of a record's words, asked of words that are the same
unused_same : {w v : ℕ → ℕ} (n : ℕ) {from to : ℕ} → ((j : ℕ) → j < n → v j ≡ w j) → to ≤ n → Unused w from to → Unused v from to
unused_same n e h u = record { zero = λ j l k. e j (omega arith) ∙ u.zero j l k }

fields_same : {w v : ℕ → ℕ} {n : ℕ} → n ≤ CLASS_FIELDS → ((j : ℕ) → j < width Objects → v j ≡ w j) → FieldsInOrder w n → FieldsInOrder v n
fields_same {w} {v} few e ok = record { each = λ k l. value_ok_same w v (field_word k) (λ m h. e (field_word k + m) (omega arith)) (ok.each k l) }

pub record_same : (field_count : ℕ → ℕ) (a : Area) (w v : ℕ → ℕ) → ((j : ℕ) → j < width a → v j ≡ w j) → RecordOk field_count a w → RecordOk field_count a v
record_same field_count Objects w v e ok =
    let class = e CLASS (omega arith) in
    record { shut = rw (e SHUT (omega arith)) ok.shut; few = rw class ok.few; values = rw class (fields_same ok.few e ok.values); unused = rw class (unused_same (width Objects) e (omega arith) ok.unused) }
record_same field_count Bindings w v e ok = value_ok_same w v BOUND (λ m h. e (BOUND + m) (omega arith)) ok
record_same field_count Positions w v e (is_running k u) = is_running (e KIND (omega arith) ∙ k) (unused_same (width Positions) e (omega arith) u)
record_same field_count Positions w v e (is_returning k u ok) =
    is_returning (e KIND (omega arith) ∙ k) (unused_same (width Positions) e (omega arith) u) (value_ok_same w v RESULT (λ m h. e (RESULT + m) (omega arith)) ok)
record_same field_count Positions w v e (is_failed k u) = is_failed (e KIND (omega arith) ∙ k) (unused_same (width Positions) e (omega arith) u)
record_same field_count Positions w v e (is_join k u) = is_join (e KIND (omega arith) ∙ k) (unused_same (width Positions) e (omega arith) u)
record_same field_count Frames w v e (is_awaits k) = is_awaits (e KIND (omega arith) ∙ k)
record_same field_count Frames w v e (is_casts k u) = is_casts (e KIND (omega arith) ∙ k) (unused_same (width Frames) e (omega arith) u)
record_same field_count Frames w v e (is_locks k u) = is_locks (e KIND (omega arith) ∙ k) (unused_same (width Frames) e (omega arith) u)

-- rows that are each got back, and a sum of numbers that are the same
rows_same : {A : Type 0} (f : A → List ℕ) (g : List ℕ → A) (rows : List (List ℕ)) → ((i : ℕ) → i < length rows → f (g (get_or rows i [])) ≡ get_or rows i []) → map f (map g rows) ≡ rows
rows_same f g [] e = refl
rows_same f g (r ∷ rs) e = let h = e 0 (omega arith) in let t = rows_same f g rs (λ i l. e (suc i) (omega arith)) in cc

pub sum_same : (f g : ℕ → ℕ) (n : ℕ) → ((i : ℕ) → i < n → f i ≡ g i) → sum_below f n ≡ sum_below g n
unfolding sum_below
sum_same f g zero e = refl
sum_same f g (suc n) e = let h = e n (omega arith) in let t = sum_same f g n (λ i l. e i (omega arith)) in cc

-- the first words of the counted records
pub firsts : (b : List ℕ) (a : Area) → 0 < width a → map (λ (r : List ℕ). get_or r 0 0) (rows_in b a) ≡ run (λ i. word_in b a i 0) 0 (counted b a)
firsts b a h =
    ext_get_or 0 (map first (rows_in b a)) (run heads 0 (counted b a)) (length-map (rows_in b a) first ∙ rows_in_length b a ∙ sym (length_run heads 0 (counted b a)))
    (λ i g.
    let l : i < counted b a = omega (arith, length-map (rows_in b a) first, rows_in_length b a) in
    let z : 0 + i ≡ i = omega arith in
    get_or-map first (rows_in b a) i [] ∙ rows_in_cell b a i 0 l h ∙ sym (get_d_run heads 0 (counted b a) i 0 l ∙ rw z refl))
  where
    first : List ℕ → ℕ
    first r = get_or r 0 0

    heads : ℕ → ℕ
    heads i = word_in b a i 0

one_of : (ts : List Tree) → length ts ≡ 1 → ts ≡ get_or ts 0 failed ∷ []
one_of [] e = absurd (omega arith)
one_of (t ∷ []) e = refl
one_of (t ∷ s ∷ ts) e = absurd (omega arith)

none_left : (fs : List Frame) → length fs ≡ 0 → fs ≡ []
none_left [] e = refl
none_left (f ∷ fs) e = absurd (omega arith)

-- words whose bytes are bytes
words_small : (ws : List ℕ) → ((i : ℕ) → get_or (bytes ws) i 0 < 256) → AllWords ws
unfolding bytes
words_small [] h w m = absurd (Memᴰ.not-nil m)
words_small (v ∷ ws) h w m =
    ⊎_elim (λ (e : w ≡ v). omega (arith, h 1)) (λ (k : w ∈ ws). words_small ws (λ i. h (suc (suc i))) w k) (Memᴰ.cases_cons m)

-- what holds of each row by its number holds of each row
each_row : (P : List ℕ → Type 0) (rows : List (List ℕ)) → ((i : ℕ) → i < length rows → P (get_or rows i [])) → (r : List ℕ) → r ∈ rows → P r
each_row P [] h r m = absurd (Memᴰ.not-nil m)
each_row P (x ∷ rows) h r m =
    ⊎_elim (λ (e : r ≡ x). rw e (h 0 (omega arith))) (λ (k : r ∈ rows). each_row P rows (λ i l. h (suc i) (omega arith)) r k) (Memᴰ.cases_cons m)

-- what holds of each element of a run by its number holds of each element
each_run : {A : Type 0} (P : A → Type 0) (f : ℕ → A) (i n : ℕ) → ((k : ℕ) → k < i + n → P (f k)) → (x : A) → x ∈ run f i n → P x
unfolding run
each_run P f i zero h x m = absurd (Memᴰ.not-nil m)
each_run P f i (suc n) h x m =
    ⊎_elim (λ (e : x ≡ f i). rw e (h i (omega arith)))
    (λ (k : x ∈ run f (i + 1) n). each_run P f (i + 1) n (λ k l. h k (omega arith)) x k) (Memᴰ.cases_cons m)

module _ (field_count : ℕ → ℕ) (b : List ℕ) (o : InOrder field_count b) where
  abbrev c : Config
  c = config_in field_count b

  -- a number of a record is one of a counted record
  number : (a : Area) (i : ℕ) → i < length (rows_in b a) → i < counted b a
  number a i h = omega (arith, rows_in_length b a)

  -- and is in order
  record_ok : (a : Area) (i : ℕ) → i < length (rows_in b a) → RecordOk field_count a (cell (rows_in b a) i)
  record_ok a i h =
      let l = number a i h in
      record_same field_count a (word_in b a i) (cell (rows_in b a) i) (λ j hj. rows_in_cell b a i j l hj) ((o.areas a).records.each i l)

  objects_are : map object_words (map (object_of field_count) (rows_in b Objects)) ≡ rows_in b Objects
  objects_are =
      rows_same object_words (object_of field_count) (rows_in b Objects)
      (λ i h. object_words_lem field_count (get_or (rows_in b Objects) i []) (rows_in_wide b Objects i h) (record_ok Objects i h))

  bindings_are : map binding_words (map binding_of (rows_in b Bindings)) ≡ rows_in b Bindings
  bindings_are = rows_same binding_words binding_of (rows_in b Bindings) (λ i h. binding_words_lem (get_or (rows_in b Bindings) i []) (rows_in_wide b Bindings i h) (record_ok Bindings i h))

  frames_are : map frame_words (map frame_of (rows_in b Frames)) ≡ rows_in b Frames
  frames_are =
      rows_same frame_words frame_of (rows_in b Frames) (λ i h. frame_words_lem (get_or (rows_in b Frames) i []) (rows_in_wide b Frames i h) (record_ok Frames i h))

  abbrev given_out : List Frame
  given_out = reverse (map frame_of (rows_in b Frames))

  frames_many : length given_out ≡ counted b Frames
  frames_many = length-reverse (map frame_of (rows_in b Frames)) ∙ length-map (rows_in b Frames) frame_of ∙ rows_in_length b Frames

  sum_is : sum_below (λ i. cell (rows_in b Positions) i WAITING) (length (rows_in b Positions)) ≡ counted b Frames
  sum_is =
      rw (rows_in_length b Positions)
      (sum_same (λ i. cell (rows_in b Positions) i WAITING) (λ i. word_in b Positions i WAITING) (counted b Positions) (λ i l. rows_in_cell b Positions i WAITING l (omega arith))
      ∙ o.all_frames)

  -- every word of a record is a word
  word_small : (n : ℕ) → word_at b n < WORD
  unfolding word_at
  word_small n = omega (arith, o.small n, o.small (n + 1))

  cell_small : (a : Area) (i j : ℕ) → i < length (rows_in b a) → j < width a → cell (rows_in b a) i j < WORD
  cell_small a i j h l = rw (rows_in_cell b a i j (number a i h) l) (word_small (word_byte a i j))

  -- so what it says is storable
  said : (a : Area) (i j : ℕ) → i < length (rows_in b a) → j + 2 < width a → Storable (value_in (cell (rows_in b a) i) j)
  said a i j h l = said_storable (cell (rows_in b a) i) j (cell_small a i (j + 1) h (omega arith)) (cell_small a i (j + 2) h l)

  growth : Grown (rows_in b Positions) given_out 1
  growth =
      grown (rows_in b Positions) given_out 1 (rw (firsts b Positions (omega arith)) o.one_tree) (rows_in_wide b Positions)
      (record_ok Positions) (λ i h. said Positions i RESULT h (omega arith)) (omega (arith, sum_is, frames_many))

  root : (forest (rows_in b Positions) given_out).trees ≡ c.tree ∷ []
  unfolding config_in
  root = one_of (forest (rows_in b Positions) given_out).trees growth.many

  frames_of_lem : frames_of c.tree ≡ map frame_of (rows_in b Frames)
  unfolding flat_map
  frames_of_lem =
      let left : (forest (rows_in b Positions) given_out).frames ≡ [] = none_left (forest (rows_in b Positions) given_out).frames (omega (arith, growth.frames_left, sum_is, frames_many)) in
      let e : reverse (frames_of c.tree) ≡ given_out = rw (root, left, append-nil (frames_of c.tree), append-nil (reverse (frames_of c.tree))) at growth.frames_are in
      sym (reverse-reverse (frames_of c.tree)) ∙ ap reverse e ∙ reverse-reverse (map frame_of (rows_in b Frames))

  -- the records of the configuration are those counted
  rows_are : (a : Area) → rows (parts_of c) a ≡ rows_in b a
  unfolding config_in flat_map
  rows_are Objects = objects_are
  rows_are Bindings = rw (reverse-reverse (map binding_of (rows_in b Bindings))) bindings_are
  rows_are Positions = let e = rw root at growth.rows_are in rw (append-nil (preorder c.tree)) at e
  rows_are Frames = rw frames_of_lem frames_are

  in_order_shows : Shows b (parts_of c)
  in_order_shows =
      record {
        long = o.long;
        small = o.small;
        counts = λ a. rw (rows_are a) (sym (rows_in_length b a));
        records = λ a i j hi hj.
            rw (rows_are a)
            (elim (dec_lt i (counted b a)) [
              | yes l ↦ sym (rows_in_cell b a i j l hj)
              | no l ↦ (o.areas a).blank.zero i j (omega arith) hi hj ∙ rw (get_or-eq_default (rows_in b a) [] {n = i} (omega (arith, rows_in_length b a)))
            ]);
        rest = o.rest.zero;
      }

  is_encoded : b ≡ encode c
  is_encoded = shows_laid b (parts_of c) in_order_shows

  object_fields : (x : Object) → x ∈ (parts_of c).objects → (length x.fields ≡ field_count x.class) × (length x.fields ≤ CLASS_FIELDS)
  unfolding config_in
  object_fields x m =
      let a = Memᴰ.of_map (object_of field_count) (rows_in b Objects) m in
      let k = each_row (λ r. ObjectOk field_count (word_of r)) (rows_in b Objects) (record_ok Objects) a.0 a.1 in
      let e = values_many field_count a.0 in
      rw (← a.2) (e, omega (arith, e, k.few))

  values_storable : AllStorable (parts_of c)
  unfolding config_in flat_map
  values_storable Objects =
      λ x m.
      let a = Memᴰ.of_map (object_of field_count) (rows_in b Objects) m in
      rw (← a.2)
      (each_row (λ r. (v : Value) → v ∈ (object_of field_count r).fields → Storable v) (rows_in b Objects)
      (λ i h. each_run Storable _ 0 _ (λ k l. said Objects i (field_word k) h (omega (arith, (record_ok Objects i h).few))))
      a.0 a.1)
  values_storable Bindings =
      λ x m.
      let a = Memᴰ.of_map binding_of (rows_in b Bindings) (rw (reverse-reverse (map binding_of (rows_in b Bindings))) at m) in
      rw (← a.2)
      (each_row (λ r. Storable (value_in (word_of r) BOUND)) (rows_in b Bindings) (λ i h. said Bindings i BOUND h (omega arith)) a.0 a.1)
  values_storable Positions = λ t m. growth.values t (rw (root, append-nil (preorder c.tree)) m)
  values_storable Frames = _

  in_order_fits : Fits field_count c
  in_order_fits =
      record {
        few = λ a. omega (arith, in_order_shows.counts a, (o.areas a).few);
        own_fields_lem = λ x m. (object_fields x m).0;
        few_fields = λ x m. (object_fields x m).1;
        values = values_storable;
        words = words_small (block_words c) (λ i. rw (← is_encoded) (o.small i));
      }

  -- bytes in order are decoded
  pub in_order_decodes : decode field_count b ≡ some c
  in_order_decodes = ap (decode field_count) is_encoded ∙ decode_encode field_count c in_order_fits
