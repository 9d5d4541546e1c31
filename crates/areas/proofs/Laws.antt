-- What the code's proofs need of the block's laws: the callees' contracts are premises, and the code's locals variables.
use mathlib.Core.Path.{◌≡◌, refl, sym, ap, ◌∙◌}
use mathlib.Core.Bool.{Bool, true, false}
use mathlib.Core.List.{List, [], ◌∷◌, ◌++◌}
use Prim.Native.Nat.{ℕ, suc, ◌+◌, ◌*◌, ◌-◌, ◌<◌, ◌≤◌}
use native.Mathlib.Omega.{arith}
use borrow.Author.Tests.{ne_eqb}
use lib.IntN.{ℤ}
use mir.Syntax.{w32}
use mir.Val.{SFits, bool_byte}
use lib.ListN.{length, get_or, set, take, drop, replicate, length-append, length-map}
use Rattle.slices.specs.Put.{put_word}
use Rattle.words.specs.Word.{WORD, bytes}
use Rattle.words.specs.Integer.{InRange, integer}
use Rattle.words.proofs.Integers.{integer_words}
use Rattle.integers.proofs.Signed.{read, read_is, read_small}
use Rattle.limits.specs.Limits.{OBJECTS, BINDINGS, FRAMES, CLASS_FIELDS}
use Rattle.machine.specs.declared.Value.{Value}
use Rattle.machine.specs.declared.Value.TheVariants.{Null as nil, Ref as ref, Int as int}
use Rattle.machine.specs.declared.Frame.{Frame}
use Rattle.machine.specs.declared.Frame.TheVariants.{Awaits as awaits, Casts as casts, Locks as locks}
use Rattle.machine.specs.Config.{Object, Binding}
use Rattle.block.specs.declared.Area.{Area}
use Rattle.block.specs.declared.Area.TheVariants.{Objects, Bindings, Positions, Frames}
use Rattle.representation.specs.Changed.{put_words, with_objects, with_bindings, with_frames, marked_shut, with_field}
use Rattle.block.specs.Layout.{width, most, begins, END, count_byte, word_byte, counted, word_in, SHUT, field_word, NAME, BOUND, LINK, AWAITS, CASTS}
use Rattle.block.specs.Values.{REF, INT, value_words, value_in}
use Rattle.block.specs.Block.{shut_word, object_words, binding_words, frame_words, Parts, laid}
use Rattle.block.specs.Decode.{frame_of}
use Rattle.block.proofs.Rows.{row_at_lem}
use Rattle.block.proofs.Values.{value_width, value_listed}
use Rattle.block.proofs.Words.{within, area_ends, count_is_lem, word_is}
use Rattle.block.proofs.Decode.{frame_back}
use Rattle.representation.proofs.Changes.{put_append, put_shut, put_field, put_fresh_object, put_new_binding, put_frame, put_new_frame}
use Rattle.areas.specs.Shifts.{raised, lowered}
use Rattle.areas.proofs.Shifting.{raised_length, lowered_length, inserted, removed}

-- a word of a record lies within the areas
pub inside : (a : Area) (at wide i j : ℕ) → at ≡ begins a → wide ≡ width a → i < most a → j < width a → at + (wide * i + j) < END
inside a at wide i j e w h hj = rw (e, w) (omega (arith, within a i j h hj, area_ends a))

pub width_small : (a : Area) → width a ≤ 26
width_small Objects = omega arith
width_small Bindings = omega arith
width_small Positions = omega arith
width_small Frames = omega arith

-- frames and their words
pub awaits_said : (k x y : ℕ) → k ≡ AWAITS → awaits x y ≡ frame_of (k ∷ x ∷ y ∷ [])
awaits_said k x y e = rw e

pub casts_said : (k x y : ℕ) → k ≡ CASTS → casts x ≡ frame_of (k ∷ x ∷ y ∷ [])
casts_said k x y e = rw e

pub locks_said : (k x y : ℕ) → (k ≡ AWAITS → ⊥) → (k ≡ CASTS → ⊥) → locks x ≡ frame_of (k ∷ x ∷ y ∷ [])
locks_said k x y a b = rw (ne_eqb k AWAITS a, ne_eqb k CASTS b)

-- words put one after the other
pub pair_put :
    (b : List ℕ) (a : Area) (i j v w : ℕ) → put_word (put_word b (word_byte a i j) v) (word_byte a i (j + 1)) w ≡ put_words b (word_byte a i j) (v ∷ w ∷ [])
pair_put b a i j v w =
    let e : word_byte a i (j + 1) ≡ word_byte a i j + 2 = omega arith in
    ap (λ (at : ℕ). put_word (put_word b (word_byte a i j) v) at w) e

pub row_put :
    (b : List ℕ) (a : Area) (i j k x y : ℕ)
    → put_word (put_words b (word_byte a i j) (k ∷ x ∷ [])) (word_byte a i (j + 2)) y ≡ put_words b (word_byte a i j) (k ∷ x ∷ y ∷ [])
row_put b a i j k x y =
    let at = word_byte a i j in
    let e : word_byte a i (j + 2) ≡ at + 2 + 2 = omega arith in
    ap (λ (m : ℕ). put_word (put_word (put_word b at k) (at + 2) x) m y) e

-- a value read, and its words put
module _ (w : ℕ → ℕ) (j kind : ℕ) (e : kind ≡ w j) where
  pub null_read : (kind ≡ REF → ⊥) → (kind ≡ INT → ⊥) → nil ≡ value_in w j
  null_read h k = rw (← e, ne_eqb kind REF h, ne_eqb kind INT k)

  pub ref_read : (o : ℕ) → kind ≡ REF → o ≡ w (j + 1) → ref o ≡ value_in w j
  ref_read o h k = rw (← e, h, k)

  -- a number, as the code reads it back from its bits
  pub int_read :
      (z : ℤ) (low high : ℕ)
      → kind ≡ INT
      → z ≡ integer low high
      → (low ≡ w (j + 1)) × (low < WORD)
      → (high ≡ w (j + 2)) × (high < WORD)
      → (int (read z) ≡ value_in w j) × InRange (read z)
  int_read z low high h q k l =
      let fits : SFits w32 z = record { sfits = rw q (integer_words k.1 l.1).in_range } in
      (rw (read_is fits, ← e, h, q, k.0, l.0), read_small fits)

pub value_put :
    (b b₁ c : List ℕ) (a : Area) (i j : ℕ) (v : Value) (w : List ℕ)
    → w ≡ value_words v
    → b₁ ≡ put_words b (word_byte a i j) (get_or w 0 0 ∷ get_or w 1 0 ∷ [])
    → c ≡ put_word b₁ (word_byte a i (j + 2)) (get_or w 2 0)
    → c ≡ put_words b (word_byte a i j) (value_words v)
value_put b b₁ c a i j v w h d e = e ∙ rw (d, row_put b a i j (get_or w 0 0) (get_or w 1 0) (get_or w 2 0), h) (ap (put_words b (word_byte a i j)) (value_listed v))

-- the words of a frame
pub frame_row : (f : Frame) (k x y : ℕ) → k ≡ get_or (frame_words f) 0 0 → x ≡ get_or (frame_words f) 1 0 → y ≡ get_or (frame_words f) 2 0 → k ∷ x ∷ y ∷ [] ≡ frame_words f
frame_row (awaits n e) k x y a b c = cc
frame_row (casts n) k x y a b c = cc
frame_row (locks o) k x y a b c = cc

-- the number that the library makes of a test
pub shut_is : (s : Bool) → bool_byte s ≡ shut_word s
shut_is true = refl
shut_is false = refl

module _ (b : List ℕ) (p : Parts) (is : b ≡ bytes (laid p)) where
  pub frames_counted : counted b Frames ≡ length p.frames
  frames_counted = rw is (count_is_lem p Frames ∙ length-map p.frames frame_words)

  frame_word : (i j : ℕ) → i < FRAMES → i < length p.frames → j < width Frames → word_in b Frames i j ≡ get_or (frame_words (get_or p.frames i (awaits 0 0))) j 0
  frame_word i j h l hj = rw is (word_is p Frames i j h hj ∙ ap (λ (r : List ℕ). get_or r j 0) (row_at_lem frame_words p.frames i (awaits 0 0) l))

  -- frame i read
  pub frame_read :
      (i k x y : ℕ)
      → i < FRAMES
      → i < length p.frames
      → k ≡ word_in b Frames i 0
      → x ≡ word_in b Frames i 1
      → y ≡ word_in b Frames i 2
      → frame_of (k ∷ x ∷ y ∷ []) ≡ get_or p.frames i (awaits 0 0)
  frame_read i k x y h l e f g =
      let r =
      frame_row (get_or p.frames i (awaits 0 0)) k x y (e ∙ frame_word i 0 h l (omega arith)) (f ∙ frame_word i 1 h l (omega arith)) (g ∙ frame_word i 2 h l (omega arith))
      in
      ap frame_of r ∙ frame_back (get_or p.frames i (awaits 0 0))

  -- frame i written
  pub frame_put :
      (c : List ℕ) (i : ℕ) (f : Frame)
      → i < FRAMES
      → i < length p.frames
      → c ≡ put_words b (word_byte Frames i 0) (frame_words f)
      → c ≡ bytes (laid (with_frames p (set p.frames i f)))
  frame_put c i f h l e = e ∙ rw is (put_frame p i f h l)

  -- one frame more
  pub frame_added :
      (b₁ c : List ℕ) (n : ℕ) (f : Frame)
      → n ≡ counted b Frames
      → n < FRAMES
      → b₁ ≡ put_words b (word_byte Frames n 0) (frame_words f)
      → c ≡ put_word b₁ (count_byte Frames) (n + 1)
      → c ≡ bytes (laid (with_frames p (p.frames ++ f ∷ [])))
  frame_added b₁ c n f m h d e =
      let l : n ≡ length p.frames = m ∙ frames_counted in
      let s : n + 1 ≡ suc n = omega arith in
      e ∙ rw (d, s, l, is) (put_new_frame p f (omega arith))

  -- one object more, and one changed
  pub object_added :
      (b₁ c : List ℕ) (n class m : ℕ)
      → n ≡ counted b Objects
      → n < OBJECTS
      → b₁ ≡ put_word b (word_byte Objects n 0) class
      → c ≡ put_word b₁ (count_byte Objects) (n + 1)
      → c ≡ bytes (laid (with_objects p (p.objects ++ record { class = class; shut = false; fields = replicate m nil } ∷ [])))
  object_added b₁ c n class m k h d e =
      let l : n ≡ length p.objects = k ∙ rw is (count_is_lem p Objects ∙ length-map p.objects object_words) in
      let s : n + 1 ≡ suc n = omega arith in
      e ∙ rw (d, s, l, is) (put_fresh_object p class m (omega arith))

  module _ (c : List ℕ) (o : ℕ) (d : Object) (room : o < OBJECTS) (h : o < length p.objects) where
    pub object_shut :
        (s : Bool) (w : ℕ) → w ≡ shut_word s → c ≡ put_word b (word_byte Objects o SHUT) w → c ≡ bytes (laid (with_objects p (set p.objects o (marked_shut (get_or p.objects o d) s))))
    object_shut s w v e = e ∙ rw (v, is) (put_shut p o d room h s)

    pub object_field :
        (k : ℕ) (v : Value)
        → k < CLASS_FIELDS
        → k < length (get_or p.objects o d).fields
        → c ≡ put_words b (word_byte Objects o (field_word k)) (value_words v)
        → c ≡ bytes (laid (with_objects p (set p.objects o (with_field (get_or p.objects o d) k v))))
    object_field k v g l e = e ∙ rw is (put_field p o d room h k v l g)

  -- one binding more
  pub binding_added :
      (b₁ b₂ b₃ c : List ℕ) (n : ℕ) (x : Binding)
      → n ≡ counted b Bindings
      → n < BINDINGS
      → b₁ ≡ put_words b (word_byte Bindings n NAME) (x.name ∷ x.type ∷ [])
      → b₂ ≡ put_words b₁ (word_byte Bindings n BOUND) (value_words x.value)
      → b₃ ≡ put_word b₂ (word_byte Bindings n LINK) x.link
      → c ≡ put_word b₃ (count_byte Bindings) (n + 1)
      → c ≡ bytes (laid (with_bindings p (p.bindings ++ x ∷ [])))
  binding_added b₁ b₂ b₃ c n x k h d₁ d₂ d₃ e =
      let l : n ≡ length p.bindings = k ∙ rw is (count_is_lem p Bindings ∙ length-map p.bindings binding_words) in
      let s : n + 1 ≡ suc n = omega arith in
      let value : word_byte Bindings n BOUND ≡ word_byte Bindings n NAME + 2 + 2 = omega arith in
      let words = value_words x.value in
      let at = word_byte Bindings n NAME + 2 + 2 in
      let link : word_byte Bindings n LINK ≡ at + 2 * length words = omega (arith, value_width x.value) in
      let row = put_append (put_words b (word_byte Bindings n NAME) (x.name ∷ x.type ∷ [])) at words (x.link ∷ []) in
      e ∙ rw (d₃, d₂, d₁, value, link, s, ← row) (rw (l, is) (put_new_binding p x (omega arith)))

-- what frame and put_frame ensure, of the bytes b before and c after
abbrev pub Reads : List ℕ → ℕ → Frame → Type 0
Reads b i f = (q : Parts) → b ≡ bytes (laid q) → i < length q.frames → f ≡ get_or q.frames i (awaits 0 0)

abbrev pub Puts : List ℕ → List ℕ → ℕ → Frame → Type 0
Puts b c i f = (q : Parts) → b ≡ bytes (laid q) → i < length q.frames → c ≡ bytes (laid (with_frames q (set q.frames i f)))

module _ (p : Parts) (b₀ b₁ b₂ : List ℕ) (is : b₀ ≡ bytes (laid p)) (n : ℕ) (many : n ≡ counted b₀ Frames) where
  -- a frame put in: added at the end, the later ones moved up, and written
  pub frame_inserted :
      (b₃ : List ℕ) (at : ℕ) (f : Frame)
      → at ≤ n
      → ((q : Parts) → b₀ ≡ bytes (laid q) → b₁ ≡ bytes (laid (with_frames q (q.frames ++ f ∷ []))))
      → ((q : Parts) → b₁ ≡ bytes (laid q) → length q.frames ≡ n + 1 → b₂ ≡ bytes (laid (with_frames q (raised at q.frames))))
      → Puts b₂ b₃ at f
      → b₃ ≡ bytes (laid (with_frames p (take at p.frames ++ f ∷ drop at p.frames)))
  frame_inserted b₃ at f h adds shifts puts =
      let fs = p.frames in
      let l : n ≡ length fs = many ∙ frames_counted b₀ p is in
      let more : List Frame = fs ++ f ∷ [] in
      let long : length more ≡ n + 1 = length-append fs (f ∷ []) ∙ omega arith in
      let shifted = shifts (with_frames p more) (adds p is) long in
      let there : at < length (raised at more) = omega (arith, raised_length at more (omega arith)) in
      puts (with_frames p (raised at more)) shifted there
      ∙ ap (λ (gs : List Frame). bytes (laid (with_frames p gs))) (inserted fs f at (omega arith))

  -- frames taken out: the later ones moved down, and the end cut off
  pub frames_removed :
      (at k : ℕ)
      → at + k ≤ n
      → ((q : Parts) → b₀ ≡ bytes (laid q) → length q.frames ≡ n → b₁ ≡ bytes (laid (with_frames q (lowered at k q.frames))))
      → ((q : Parts) → b₁ ≡ bytes (laid q) → length q.frames ≡ n → b₂ ≡ bytes (laid (with_frames q (take (n - k) q.frames))))
      → b₂ ≡ bytes (laid (with_frames p (take at p.frames ++ drop (at + k) p.frames)))
  frames_removed at k h shifts cuts =
      let fs = p.frames in
      let l : length fs ≡ n = sym (many ∙ frames_counted b₀ p is) in
      let long : length (lowered at k fs) ≡ n = lowered_length at k fs (omega arith) ∙ l in
      cuts (with_frames p (lowered at k fs)) (shifts p is l) long
      ∙ ap (λ (gs : List Frame). bytes (laid (with_frames p gs))) (rw (← l) (removed fs at k (omega arith)))
