-- Laws of access, by area: the length of a block, its counts, and word j of record i.
use mathlib.Core.Path.{◌≡◌, refl, sym, ap, ◌∙◌}
use mathlib.Core.List.{List, [], ◌∷◌, ◌++◌, append_assoc, append-nil, map, flatten}
use Prim.Native.Nat.{ℕ, ◌+◌, ◌*◌, ◌<◌, ◌≤◌}
use native.Mathlib.Nat.{mul-suc, mul-le-mul_left}
use native.Mathlib.Omega.{arith}
use lib.ListN.{length, get_or, replicate, length-append, get_or-eq_default}
use lib.Seq.{ext_get_or}
use Rattle.words.specs.Word.{bytes, word_at}
use Rattle.words.proofs.Laws.{word_bytes, length_bytes}
use Rattle.limits.specs.Limits.{BLOCK, CLASS_FIELDS}
use Rattle.script.specs.Lists.{run}
use Rattle.script.proofs.Lists.{length_run, get_d_run}
use Rattle.machine.specs.declared.Frame.{Frame}
use Rattle.machine.specs.declared.Frame.TheVariants.{Awaits as awaits, Casts as casts, Locks as locks}
use Rattle.machine.specs.Config.{Object, Binding, Tree, running, returning, failed, join, Config}
use Rattle.block.specs.Rows.{filled, cell}
use Rattle.block.specs.Layout.{Area, Objects, Bindings, Positions, Frames, WORDS, VALUE, width, most, begins, END, counted, word_in, rows_in, count_word}
use Rattle.block.specs.Values.{value_words}
use Rattle.block.specs.Block.{object_words, binding_words, position_words, frame_words, Parts, parts_of, rows, area, header_words, laid, encode}
use Rattle.block.specs.Fits.{Few}
use Rattle.block.proofs.Rows.{Wide, wide_map, length_filled, get_d_filled, filled_zeros, get_inside, flatten_end, flatten_at}
use Rattle.block.proofs.Values.{value_width}

pub length_laid : (p : Parts) → length (laid p) ≡ WORDS
unfolding laid
length_laid p = length_filled WORDS _

-- every block is 65,536 bytes
pub laid_bytes : (p : Parts) → length (bytes (laid p)) ≡ BLOCK
laid_bytes p = length_bytes (laid p) ∙ omega (arith, length_laid p)

pub encode_length : (c : Config) → length (encode c) ≡ BLOCK
encode_length c = laid_bytes (parts_of c)

-- a record has as many words as its area asks
pub object_width : (o : Object) → length (object_words o) ≡ width Objects
object_width o = omega (arith, length_filled (VALUE * CLASS_FIELDS) (flatten (map value_words o.fields)))

pub binding_width : (b : Binding) → length (binding_words b) ≡ width Bindings
binding_width b = omega (arith, length-append (value_words b.value) (b.link ∷ []), value_width b.value)

pub position_width : (t : Tree) → length (position_words t) ≡ width Positions
position_width (running p e fs) = refl
position_width (returning v fs) = omega (arith, length-append (value_words v) (length fs ∷ []), value_width v)
position_width failed = refl
position_width (join fs p e l r) = refl

pub frame_width : (f : Frame) → length (frame_words f) ≡ width Frames
frame_width (awaits p e) = refl
frame_width (casts p) = refl
frame_width (locks o) = refl

pub rows_wide : (p : Parts) (a : Area) → Wide (width a) (rows p a)
rows_wide p Objects = wide_map object_words (width Objects) object_width p.objects
rows_wide p Bindings = wide_map binding_words (width Bindings) binding_width p.bindings
rows_wide p Positions = wide_map position_words (width Positions) position_width p.positions
rows_wide p Frames = wide_map frame_words (width Frames) frame_width p.frames

pub length_area : (a : Area) (rs : List (List ℕ)) → length (area a rs) ≡ width a * most a
unfolding area
length_area a rs = length_filled _ _

-- a record of zeros after the last says nothing
pub area_zeros : (a : Area) (rs : List (List ℕ)) → area a (rs ++ replicate (width a) 0 ∷ []) ≡ area a rs
unfolding area
area_zeros a rs = rw (flatten_end rs (replicate (width a) 0)) (filled_zeros (width a * most a) _ (width a))

-- a record of an area lies within it, and the areas within the block
pub within : (a : Area) (i j : ℕ) → i < most a → j < width a → width a * i + j < width a * most a
within a i j h hj = omega (arith, mul-suc (width a) i, mul-le-mul_left (width a) h)

pub area_ends : (a : Area) → begins a + width a * most a ≤ END
area_ends Objects = omega arith
area_ends Bindings = omega arith
area_ends Positions = omega arith
area_ends Frames = omega arith

-- what lies before an area, after the header, and what lies after it
unfoldable pub ahead : Parts → Area → List ℕ
ahead p Objects = []
ahead p Bindings = area Objects (rows p Objects)
ahead p Positions = area Objects (rows p Objects) ++ area Bindings (rows p Bindings)
ahead p Frames = area Objects (rows p Objects) ++ (area Bindings (rows p Bindings) ++ area Positions (rows p Positions))

unfoldable pub behind : Parts → Area → List ℕ
behind p Objects = area Bindings (rows p Bindings) ++ (area Positions (rows p Positions) ++ area Frames (rows p Frames))
behind p Bindings = area Positions (rows p Positions) ++ area Frames (rows p Frames)
behind p Positions = area Frames (rows p Frames)
behind p Frames = []

-- the block with one area set apart
pub apart : (p : Parts) (a : Area) → laid p ≡ filled WORDS ((header_words p ++ ahead p a) ++ (area a (rows p a) ++ behind p a))
unfolding laid ahead behind
apart p Objects = refl
apart p Bindings = refl
apart p Positions = simp append_assoc
apart p Frames = simp (append_assoc, append-nil)

pub ahead_length : (p : Parts) (a : Area) → length (ahead p a) + 4 ≡ begins a
unfolding ahead
ahead_length p Objects = refl
ahead_length p Bindings = omega (arith, length_area Objects (rows p Objects))
ahead_length p Positions = simp length-append (omega (arith, length_area Objects (rows p Objects), length_area Bindings (rows p Bindings)))
ahead_length p Frames = simp length-append (omega (arith, length_area Objects (rows p Objects), length_area Bindings (rows p Bindings), length_area Positions (rows p Positions)))

pub before_length : (p : Parts) (a : Area) → length (header_words p ++ ahead p a) ≡ begins a
before_length p a = omega (arith, ahead_length p a)

-- the count of an area
pub count_word_lem : (p : Parts) (a : Area) → get_or (laid p) (count_word a) 0 ≡ length (rows p a)
unfolding laid filled
count_word_lem p Objects = refl
count_word_lem p Bindings = refl
count_word_lem p Positions = refl
count_word_lem p Frames = refl

pub count_is_lem : (p : Parts) (a : Area) → counted (bytes (laid p)) a ≡ length (rows p a)
count_is_lem p a = word_bytes (laid p) (count_word a) ∙ count_word_lem p a

-- word j of record i of an area, and 0 where no record is
pub word_is : (p : Parts) (a : Area) (i j : ℕ) → i < most a → j < width a → word_in (bytes (laid p)) a i j ≡ cell (rows p a) i j
unfolding area
word_is p a i j hi hj =
    let l = within a i j hi hj in
    let e : begins a + width a * i + j ≡ length (header_words p ++ ahead p a) + (width a * i + j) = omega (arith, before_length p a) in
    let room : length (header_words p ++ ahead p a) + (width a * i + j) < WORDS = omega (arith, before_length p a, area_ends a) in
    word_bytes (laid p) (begins a + width a * i + j)
    ∙ rw (e, apart p a)
    (get_inside WORDS (header_words p ++ ahead p a) (area a (rows p a)) (behind p a) (width a * i + j) (omega (arith, length_area a (rows p a))) room
    ∙ get_d_filled (width a * most a) _ (width a * i + j) l
    ∙ flatten_at (width a) (rows p a) (rows_wide p a) i j hj)

-- past the areas
pub rest_blank : (p : Parts) (n : ℕ) → END ≤ n → n < WORDS → word_at (bytes (laid p)) (2 * n) ≡ 0
unfolding behind
rest_blank p n e h =
    let all : List ℕ = (header_words p ++ ahead p Frames) ++ (area Frames (rows p Frames) ++ behind p Frames) in
    let long : length all ≡ END =
    length-append (header_words p ++ ahead p Frames) (area Frames (rows p Frames) ++ behind p Frames)
    ∙ omega (arith, before_length p Frames, length-append (area Frames (rows p Frames)) (behind p Frames), length_area Frames (rows p Frames))
    in
    word_bytes (laid p) n ∙ rw (apart p Frames) (get_d_filled WORDS all n h ∙ get_or-eq_default all 0 {n = n} (omega (arith, long)))

-- the counted records of some bytes, by number and word
module _ (b : List ℕ) (a : Area) where
  abbrev line : ℕ → List ℕ
  line i = run (word_in b a i) 0 (width a)

  line_at : (i : ℕ) → i < counted b a → get_or (rows_in b a) i [] ≡ line i
  unfolding rows_in
  line_at i h = let z : 0 + i ≡ i = omega arith in get_d_run line 0 (counted b a) i [] h ∙ ap line z

  pub rows_in_length : length (rows_in b a) ≡ counted b a
  unfolding rows_in
  rows_in_length = length_run line 0 (counted b a)

  pub rows_in_wide : Wide (width a) (rows_in b a)
  rows_in_wide i h = rw (line_at i (omega (arith, rows_in_length))) (length_run (word_in b a i) 0 (width a))

  pub rows_in_cell : (i j : ℕ) → i < counted b a → j < width a → cell (rows_in b a) i j ≡ word_in b a i j
  rows_in_cell i j h hj = let z : 0 + j ≡ j = omega arith in rw (line_at i h) (get_d_run (word_in b a i) 0 (width a) j 0 hj ∙ ap (word_in b a i) z)

-- rows that are as many and as wide, and the same word by word
same_rows :
    (k : ℕ) (xs ys : List (List ℕ))
    → Wide k xs
    → Wide k ys
    → length xs ≡ length ys
    → ((i j : ℕ) → i < length xs → j < k → cell xs i j ≡ cell ys i j)
    → xs ≡ ys
same_rows k xs ys w v e h =
    ext_get_or [] xs ys e
    (λ i l. ext_get_or 0 (get_or xs i []) (get_or ys i []) (w i l ∙ sym (v i (omega arith))) (λ j m. h i j l (omega (arith, w i l))))

-- the records of an area read back
pub rows_read : (p : Parts) → Few p → (a : Area) → rows_in (bytes (laid p)) a ≡ rows p a
rows_read p few a =
    let b : List ℕ = bytes (laid p) in
    let n : length (rows_in b a) ≡ length (rows p a) = rows_in_length b a ∙ count_is_lem p a in
    same_rows (width a) (rows_in b a) (rows p a) (rows_in_wide b a) (rows_wide p a) n
    (λ i j h hj.
    let l : i < counted b a = omega (arith, rows_in_length b a) in
    rows_in_cell b a i j l hj ∙ word_is p a i j (omega (arith, n, few a)) hj)
