-- Changes to a block, by area: words of a record put, one record more; and what these come to for objects, bindings and frames.
use mathlib.Core.Path.{◌≡◌, refl, sym, ap, ◌∙◌}
use mathlib.Core.Bool.{Bool, false}
use mathlib.Core.List.{List, [], ◌∷◌, ◌++◌, append-nil, map, map-append, flatten}
use Prim.Native.Nat.{ℕ, zero, suc, ◌+◌, ◌*◌, ◌<◌, ◌≤◌}
use native.Mathlib.Nat.{mul-suc, mul-le-mul_left}
use native.Mathlib.Omega.{arith}
use lib.ListN.{length, get_or, set, replicate, length-append, length-map, length-set, length-replicate, drop_of_length-le}
use lib.Seq.{sets, sets-eq, set-append_left, set-append_seam, get_or-append_seam, set-set}
use Rattle.slices.specs.Put.{put_word}
use Rattle.words.specs.Word.{bytes}
use Rattle.slices.proofs.Laws.{put_bytes}
use Rattle.limits.specs.Limits.{OBJECTS, BINDINGS, FRAMES, CLASS_FIELDS}
use Rattle.machine.specs.declared.Value.{Value}
use Rattle.machine.specs.declared.Value.TheVariants.{Null as nil}
use Rattle.machine.specs.declared.Frame.{Frame}
use Rattle.machine.specs.Config.{Object, Binding}
use Rattle.block.specs.Rows.{filled}
use Rattle.representation.specs.Changed.{put_words, with_objects, with_bindings, with_frames, marked_shut, with_field}
use Rattle.block.specs.declared.Area.{Area}
use Rattle.block.specs.declared.Area.TheVariants.{Objects, Bindings, Positions, Frames}
use Rattle.block.specs.Layout.{WORDS, HEADER, VALUE, count_word, width, most, begins, count_byte, word_byte, SHUT, field_word}
use Rattle.block.specs.Values.{value_words}
use Rattle.block.specs.Block.{shut_word, object_words, binding_words, frame_words, Parts, rows, area, header_words, laid}
use Rattle.block.proofs.Rows.{Wide, wide_end, set_filled, sets_filled, filled_zeros, filled_nil, sets_inside, row_at_lem, length_flatten, flatten_sets}
use Rattle.block.proofs.Values.{value_width, values_wide}
use Rattle.block.proofs.Words.{rows_wide, binding_width, frame_width, length_area, area_zeros, ahead, behind, apart, ahead_length}

pub put_words_bytes : (ws : List ℕ) (i : ℕ) (vs : List ℕ) → put_words (bytes ws) (2 * i) vs ≡ bytes (sets ws i vs)
put_words_bytes ws i [] = refl
put_words_bytes ws i (v ∷ vs) = let e : 2 * i + 2 ≡ 2 * suc i = omega arith in rw (put_bytes ws i v, e) (put_words_bytes (set ws i v) (suc i) vs)

pub put_append : (b : List ℕ) (at : ℕ) (xs ys : List ℕ) → put_words b at (xs ++ ys) ≡ put_words (put_words b at xs) (at + 2 * length xs) ys
put_append b at [] ys = let e : at + 2 * 0 ≡ at = omega arith in rw e
put_append b at (x ∷ xs) ys =
    let e : at + 2 * suc (length xs) ≡ at + 2 + 2 * length xs = omega arith in rw e (put_append (put_word b at x) (at + 2) xs ys)

pub map_set : {A B : Type 0} (f : A → B) (xs : List A) (i : ℕ) (x : A) → set (map f xs) i (f x) ≡ map f (set xs i x)
map_set f [] i x = refl
map_set f (y ∷ ys) zero x = refl
map_set f (y ∷ ys) (suc i) x = ap (λ (l : List _). f y ∷ l) (map_set f ys i x)

-- all words set
pub sets_all : (l vs : List ℕ) → length l ≡ length vs → sets l 0 vs ≡ vs
sets_all l vs e =
    let z : 0 + length vs ≡ length vs = omega arith in
    sets-eq vs l 0 (omega arith) ∙ rw (z, drop_of_length-le l {i = length vs} (omega arith)) (append-nil vs)

-- the words of a record set
area_sets :
    (a : Area) (rs : List (List ℕ)) → Wide (width a) rs → (i j : ℕ) (vs : List ℕ) → i < length rs → j + length vs ≤ width a
    → sets (area a rs) (width a * i + j) vs ≡ area a (set rs i (sets (get_or rs i []) j vs))
unfolding area
area_sets a rs w i j vs h hj =
    let k = width a in
    sets_filled (k * most a) (flatten rs) (k * i + j) vs (omega (arith, length_flatten k rs w, mul-suc k i, mul-le-mul_left k h))
    ∙ ap (filled (k * most a)) (flatten_sets k rs w i j vs h hj)

-- the rows of the other areas
abbrev pub others : Parts → Area → List (List (List ℕ))
others p Objects = rows p Bindings ∷ rows p Positions ∷ rows p Frames ∷ []
others p Bindings = rows p Objects ∷ rows p Positions ∷ rows p Frames ∷ []
others p Positions = rows p Objects ∷ rows p Bindings ∷ rows p Frames ∷ []
others p Frames = rows p Objects ∷ rows p Bindings ∷ rows p Positions ∷ []

-- parts that differ in one area only lie alike but for that area and its count
header_new : (p q : Parts) (a : Area) → others q a ≡ others p a → header_words q ≡ set (header_words p) (count_word a) (length (rows q a))
header_new p q Objects e = cc
header_new p q Bindings e = cc
header_new p q Positions e = cc
header_new p q Frames e = cc

ahead_new : (p q : Parts) (a : Area) → others q a ≡ others p a → ahead q a ≡ ahead p a
unfolding ahead
ahead_new p q Objects e = refl
ahead_new p q Bindings e = cc
ahead_new p q Positions e = cc
ahead_new p q Frames e = cc

behind_new : (p q : Parts) (a : Area) → others q a ≡ others p a → behind q a ≡ behind p a
unfolding behind
behind_new p q Objects e = cc
behind_new p q Bindings e = cc
behind_new p q Positions e = cc
behind_new p q Frames e = refl

header_at : (p : Parts) (a : Area) → (get_or (header_words p) (count_word a) 0 ≡ length (rows p a)) × (count_word a < HEADER)
header_at p Objects = (refl, omega arith)
header_at p Bindings = (refl, omega arith)
header_at p Positions = (refl, omega arith)
header_at p Frames = (refl, omega arith)

-- the block of p with the count n and the rows rs in one area
abbrev with_area : Parts → Area → ℕ → List (List ℕ) → List ℕ
with_area p a n rs = filled WORDS ((set (header_words p) (count_word a) n ++ ahead p a) ++ (area a rs ++ behind p a))

laid_new : (p q : Parts) (a : Area) → others q a ≡ others p a → laid q ≡ with_area p a (length (rows q a)) (rows q a)
laid_new p q a e =
    let h = header_new p q a e in
    let x = ahead_new p q a e in
    let y = behind_new p q a e in
    apart q a ∙ λ t. filled WORDS ((h t ++ x t) ++ (area a (rows q a) ++ y t))

laid_old : (p : Parts) (a : Area) → laid p ≡ with_area p a (length (rows p a)) (rows p a)
laid_old p a = laid_new p p a refl

module _ (p : Parts) (a : Area) where
  -- the count set
  set_count : (n m : ℕ) (rs : List (List ℕ)) → set (with_area p a n rs) (count_word a) m ≡ with_area p a m rs
  set_count n m rs =
      let h : List ℕ = set (header_words p) (count_word a) n in
      let rest : List ℕ = area a rs ++ behind p a in
      let l : count_word a < length h = omega (arith, length-set (header_words p) (count_word a) n, (header_at p a).1) in
      let m' : count_word a < length (h ++ ahead p a) = omega (arith, length-append h (ahead p a)) in
      set_filled WORDS ((h ++ ahead p a) ++ rest) (count_word a) m (omega (arith, length-append (h ++ ahead p a) rest))
      ∙ rw (set-append_left (h ++ ahead p a) rest (count_word a) m m', set-append_left h (ahead p a) (count_word a) m l, set-set (header_words p) (count_word a) n m)

  -- words of record i set
  set_words :
      (n : ℕ) (rs : List (List ℕ)) → Wide (width a) rs → (i j : ℕ) (vs : List ℕ) → i < length rs → i < most a → j + length vs ≤ width a
      → sets (with_area p a n rs) (begins a + width a * i + j) vs ≡ with_area p a n (set rs i (sets (get_or rs i []) j vs))
  set_words n rs w i j vs h hi hj =
      let k = width a in
      let pre : List ℕ = set (header_words p) (count_word a) n ++ ahead p a in
      let e : begins a + k * i + j ≡ length pre + (k * i + j) =
      omega (arith, length-append (set (header_words p) (count_word a) n) (ahead p a), length-set (header_words p) (count_word a) n, ahead_length p a)
      in
      rw e
      (sets_inside WORDS pre (area a rs) (behind p a) (k * i + j) vs (omega (arith, length_area a rs, mul-suc k i, mul-le-mul_left k hi))
      ∙ rw (area_sets a rs w i j vs h hj))

module _ (p q : Parts) (a : Area) (same : others q a ≡ others p a) where
  -- words of record i put, from word j on
  pub put_words_lem :
      (i j : ℕ) (vs : List ℕ)
      → i < length (rows p a)
      → i < most a
      → j + length vs ≤ width a
      → rows q a ≡ set (rows p a) i (sets (get_or (rows p a) i []) j vs)
      → put_words (bytes (laid p)) (word_byte a i j) vs ≡ bytes (laid q)
  put_words_lem i j vs h hi hj e =
      let n : length (rows q a) ≡ length (rows p a) = rw e (length-set (rows p a) i (sets (get_or (rows p a) i []) j vs)) in
      let new : laid q ≡ with_area p a (length (rows p a)) (rows q a) = laid_new p q a same ∙ rw n in
      let put : sets (laid p) (begins a + width a * i + j) vs ≡ with_area p a (length (rows p a)) (rows q a) =
      rw (laid_old p a, e) (set_words p a (length (rows p a)) (rows p a) (rows_wide p a) i j vs h hi hj)
      in
      put_words_bytes (laid p) (begins a + width a * i + j) vs ∙ ap bytes (put ∙ sym new)

  -- one record more, with its first words, zeros after them, and the count
  pub put_more :
      (vs : List ℕ)
      → length (rows p a) < most a
      → length vs ≤ width a
      → rows q a ≡ rows p a ++ sets (replicate (width a) 0) 0 vs ∷ []
      → put_word (put_words (bytes (laid p)) (word_byte a (length (rows p a)) 0) vs) (count_byte a) (suc (length (rows p a))) ≡ bytes (laid q)
  put_more vs h hj e =
      let n = length (rows p a) in
      let zeros : List ℕ = replicate (width a) 0 in
      let rs : List (List ℕ) = rows p a ++ zeros ∷ [] in
      let long : length rs ≡ suc n = length-append (rows p a) (zeros ∷ []) ∙ omega arith in
      let old : laid p ≡ with_area p a n rs = laid_old p a ∙ rw (area_zeros a (rows p a)) in
      let new : set rs n (sets (get_or rs n []) 0 vs) ≡ rows q a =
      rw (get_or-append_seam (rows p a) zeros [] [], set-append_seam (rows p a) zeros [] (sets zeros 0 vs)) (sym e)
      in
      let many : length (rows q a) ≡ suc n = rw (← new) (length-set rs n (sets (get_or rs n []) 0 vs) ∙ long) in
      let wide = wide_end (width a) (rows p a) (rows_wide p a) zeros (length-replicate (width a) 0) in
      let put : sets (laid p) (begins a + width a * n + 0) vs ≡ with_area p a n (rows q a) =
      rw old (set_words p a n rs wide n 0 vs (omega arith) h (omega arith) ∙ rw new)
      in
      rw (put_words_bytes (laid p) (begins a + width a * n + 0) vs)
      (put_bytes (sets (laid p) (begins a + width a * n + 0) vs) (count_word a) (suc n)
      ∙ ap bytes (rw put (rw (laid_new p q a same, many) (set_count p a n (suc n) (rows q a)))))

-- the row of an element that takes another's place
row_set :
    {A : Type 0} (f : A → List ℕ) (xs : List A) (i : ℕ) (d y : A) (j : ℕ) (vs : List ℕ)
    → i < length xs
    → sets (f (get_or xs i d)) j vs ≡ f y
    → map f (set xs i y) ≡ set (map f xs) i (sets (get_or (map f xs) i []) j vs)
row_set f xs i d y j vs h e = rw (row_at_lem f xs i d h, e) (sym (map_set f xs i y))

row_end : {A : Type 0} (f : A → List ℕ) (xs : List A) (x : A) → map f (xs ++ x ∷ []) ≡ map f xs ++ f x ∷ []
row_end f xs x = map-append f xs (x ∷ [])

-- null fields are zeros
null_words : (m : ℕ) → flatten (map value_words (replicate m nil)) ≡ replicate (m * VALUE) 0
unfolding flatten
null_words zero = refl
null_words (suc m) = let e : suc m * VALUE ≡ suc (suc (suc (m * VALUE))) = omega arith in rw e (ap (λ (l : List ℕ). value_words nil ++ l) (null_words m))

null_zeros : (n m : ℕ) → filled n (flatten (map value_words (replicate m nil))) ≡ replicate n 0
null_zeros n m = rw (null_words m) (filled_zeros n [] (m * VALUE) ∙ filled_nil n)

-- words set after the first
sets_next : (x : ℕ) (l : List ℕ) (i : ℕ) (vs : List ℕ) → sets (x ∷ l) (suc i) vs ≡ x ∷ sets l i vs
sets_next x l i [] = refl
sets_next x l i (v ∷ vs) = sets_next x (set l i v) (suc i) vs

-- the words of a value put in an object's field
field_set :
    (o : Object) (k : ℕ) (v : Value) → k < length o.fields → sets (object_words o) (field_word k) (value_words v) ≡ object_words (with_field o k v)
field_set o k v h =
    let vs : List (List ℕ) = map value_words o.fields in
    let wide = values_wide o.fields in
    let l : k < length vs = rw (length-map o.fields value_words) h in
    let m = VALUE * k + 0 in
    let e : field_word k ≡ suc (suc m) = omega arith in
    let words : List ℕ = filled (VALUE * CLASS_FIELDS) (flatten vs) in
    let row : sets (get_or vs k []) 0 (value_words v) ≡ value_words v = sets_all (get_or vs k []) (value_words v) (wide k l ∙ sym (value_width v)) in
    let set_row : sets words m (value_words v) ≡ filled (VALUE * CLASS_FIELDS) (flatten (map value_words (set o.fields k v))) =
    sets_filled (VALUE * CLASS_FIELDS) (flatten vs) m (value_words v) (omega (arith, length_flatten VALUE vs wide, value_width v))
    ∙ ap (filled (VALUE * CLASS_FIELDS))
    (flatten_sets VALUE vs wide k 0 (value_words v) l (omega (arith, value_width v))
    ∙ ap (λ (r : List ℕ). flatten (set vs k r)) row
    ∙ ap flatten (map_set value_words o.fields k v))
    in
    ap (λ (n : ℕ). sets (object_words o) n (value_words v)) e
    ∙ sets_next o.class (shut_word o.shut ∷ words) (suc m) (value_words v)
    ∙ ap (λ (ws : List ℕ). o.class ∷ ws) (sets_next (shut_word o.shut) words m (value_words v) ∙ ap (λ (ws : List ℕ). shut_word o.shut ∷ ws) set_row)

module _ (p : Parts) where
  module _ (i : ℕ) (d : Object) (room : i < OBJECTS) (h : i < length p.objects) where
    -- words of object i put, where that makes it the object y
    put_object :
        (j : ℕ) (vs : List ℕ) (y : Object)
        → j + length vs ≤ width Objects
        → sets (object_words (get_or p.objects i d)) j vs ≡ object_words y
        → put_words (bytes (laid p)) (word_byte Objects i j) vs ≡ bytes (laid (with_objects p (set p.objects i y)))
    put_object j vs y hj e =
        let l : i < length (rows p Objects) = rw (length-map p.objects object_words) h in
        put_words_lem p (with_objects p (set p.objects i y)) Objects refl i j vs l room hj (row_set object_words p.objects i d y j vs h e)

    -- object i opened or shut
    pub put_shut :
        (b : Bool) → put_word (bytes (laid p)) (word_byte Objects i SHUT) (shut_word b) ≡ bytes (laid (with_objects p (set p.objects i (marked_shut (get_or p.objects i d) b))))
    put_shut b = put_object SHUT (shut_word b ∷ []) (marked_shut (get_or p.objects i d) b) (omega arith) refl

    -- field k of object i written
    pub put_field :
        (k : ℕ) (v : Value)
        → k < length (get_or p.objects i d).fields
        → k < CLASS_FIELDS
        → put_words (bytes (laid p)) (word_byte Objects i (field_word k)) (value_words v) ≡ bytes (laid (with_objects p (set p.objects i (with_field (get_or p.objects i d) k v))))
    put_field k v l w =
        let o = get_or p.objects i d in
        put_object (field_word k) (value_words v) (with_field o k v) (omega (arith, value_width v)) (field_set o k v l)

  -- frame i written
  pub put_frame :
      (i : ℕ) (f : Frame)
      → i < FRAMES
      → i < length p.frames
      → put_words (bytes (laid p)) (word_byte Frames i 0) (frame_words f) ≡ bytes (laid (with_frames p (set p.frames i f)))
  put_frame i f room h =
      let l : i < length (rows p Frames) = rw (length-map p.frames frame_words) h in
      let g = get_or p.frames i f in
      put_words_lem p (with_frames p (set p.frames i f)) Frames refl i 0 (frame_words f) l room (omega (arith, frame_width f))
      (row_set frame_words p.frames i f f 0 (frame_words f) h (sets_all (frame_words g) (frame_words f) (frame_width g ∙ sym (frame_width f))))

  -- a new object, open and with null fields: past the last object all is 0, so its class and the count are all there is to write
  pub put_fresh_object :
      (class m : ℕ)
      → length p.objects < OBJECTS
      → put_word (put_word (bytes (laid p)) (word_byte Objects (length p.objects) 0) class) (count_byte Objects) (suc (length p.objects))
      ≡ bytes (laid (with_objects p (p.objects ++ record { class = class; shut = false; fields = replicate m nil } ∷ [])))
  put_fresh_object class m h =
      let x : Object = record { class = class; shut = false; fields = replicate m nil } in
      let n = length-map p.objects object_words in
      rw n at
      (put_more p (with_objects p (p.objects ++ x ∷ [])) Objects refl (class ∷ []) (omega arith) (omega arith)
      (row_end object_words p.objects x ∙ rw (null_zeros (VALUE * CLASS_FIELDS) m)))

  -- one binding more, and the count
  pub put_new_binding :
      (x : Binding)
      → length p.bindings < BINDINGS
      → put_word (put_words (bytes (laid p)) (word_byte Bindings (length p.bindings) 0) (binding_words x)) (count_byte Bindings) (suc (length p.bindings))
      ≡ bytes (laid (with_bindings p (p.bindings ++ x ∷ [])))
  put_new_binding x h =
      let n = length-map p.bindings binding_words in
      let whole = sets_all (replicate (width Bindings) 0) (binding_words x) (sym (binding_width x)) in
      rw n at
      (put_more p (with_bindings p (p.bindings ++ x ∷ [])) Bindings refl (binding_words x) (omega arith) (omega (arith, binding_width x))
      (row_end binding_words p.bindings x ∙ rw whole))

  -- one frame more, at the end, and the count
  pub put_new_frame :
      (f : Frame)
      → length p.frames < FRAMES
      → put_word (put_words (bytes (laid p)) (word_byte Frames (length p.frames) 0) (frame_words f)) (count_byte Frames) (suc (length p.frames))
      ≡ bytes (laid (with_frames p (p.frames ++ f ∷ [])))
  put_new_frame f h =
      let n = length-map p.frames frame_words in
      let whole = sets_all (replicate (width Frames) 0) (frame_words f) (sym (frame_width f)) in
      rw n at
      (put_more p (with_frames p (p.frames ++ f ∷ [])) Frames refl (frame_words f) (omega arith) (omega (arith, frame_width f))
      (row_end frame_words p.frames f ∙ rw whole))
