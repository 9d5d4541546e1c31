-- The frames of a block as bytes: where they lie, and a block of which the bytes of the later frames are changed.
use mathlib.Core.Path.{◌≡◌, refl, sym, ap, ◌∙◌}
use mathlib.Core.List.{List, [], ◌∷◌, ◌++◌, append_assoc, append-nil, map, flatten}
use Prim.Native.Nat.{ℕ, zero, suc, ◌+◌, ◌*◌, ◌-◌, ◌<◌, ◌≤◌}
use native.Mathlib.Omega.{arith}
use lib.ListN.{length, take, drop, replicate, length-append, length-drop, length-map, length-replicate, take-append-drop, replicate-append-replicate}
use lib.Seq.{length-take-le, take_at, drop_at}
use Rattle.words.specs.Word.{bytes}
use Rattle.words.proofs.Laws.{length_bytes, twice_suc, bytes_append}
use Rattle.slices.specs.Put.{put_word}
use Rattle.limits.specs.Limits.{FRAMES}
use Rattle.machine.specs.declared.Frame.{Frame}
use Rattle.block.specs.Rows.{filled}
use Rattle.block.specs.declared.Area.TheVariants.{Frames}
use Rattle.block.specs.Layout.{WORDS, begins, width, most, count_byte, word_byte}
use Rattle.block.specs.Block.{Parts, frame_words, rows, area, header_words, laid}
use Rattle.block.proofs.Rows.{filled_nil, length_flatten}
use Rattle.block.proofs.Words.{rows_wide, ahead, behind, apart, before_length}
use Rattle.representation.specs.Changed.{with_frames}
use Rattle.areas.specs.Shifts.{raised, lowered}
use Rattle.areas.proofs.Shifting.{up_length, down_length, whole_length}

-- words and zeros as bytes
bytes_zeros : (n : ℕ) → bytes (replicate n 0) ≡ replicate (2 * n) 0
unfolding bytes
bytes_zeros zero = refl
bytes_zeros (suc n) = rw (twice_suc n) (ap (λ (l : List ℕ). 0 ∷ 0 ∷ l) (bytes_zeros n))

filled_rest : (n : ℕ) (ws : List ℕ) → length ws ≤ n → filled n ws ≡ ws ++ replicate (n - length ws) 0
unfolding filled
filled_rest n [] h = let e : n - 0 ≡ n = omega arith in rw e (filled_nil n)
filled_rest zero (w ∷ ws) h = absurd (omega arith)
filled_rest (suc n) (w ∷ ws) h =
    let e : suc n - suc (length ws) ≡ n - length ws = omega arith in
    rw e (ap (λ (l : List ℕ). w ∷ l) (filled_rest n ws (omega arith)))

-- how many bytes a frame has, and the bytes of frames
abbrev FRAME : ℕ
FRAME = 2 * width Frames

frame_bytes : List Frame → List ℕ
frame_bytes fs = bytes (flatten (map frame_words fs))

frames_append : (fs gs : List Frame) → frame_bytes (fs ++ gs) ≡ frame_bytes fs ++ frame_bytes gs
unfolding frame_bytes flatten bytes
frames_append [] gs = refl
frames_append (f ∷ fs) gs =
    bytes_append (frame_words f) (flatten (map frame_words (fs ++ gs)))
    ∙ rw (frames_append fs gs, bytes_append (frame_words f) (flatten (map frame_words fs))) (sym (append_assoc (bytes (frame_words f)) (frame_bytes fs) (frame_bytes gs)))

frames_long : (p : Parts) → length (flatten (rows p Frames)) ≡ width Frames * length p.frames
frames_long p = length_flatten (width Frames) (rows p Frames) (rows_wide p Frames) ∙ ap (λ (n : ℕ). width Frames * n) (length-map p.frames frame_words)

frames_length : (fs : List Frame) → length (frame_bytes fs) ≡ FRAME * length fs
unfolding frame_bytes
frames_length fs = length_bytes (flatten (map frame_words fs)) ∙ omega (arith, frames_long (record { objects = []; bindings = []; positions = []; frames = fs }))

-- some frames at the beginning, or at the end
module _ (n : ℕ) (fs : List Frame) (h : n ≤ length fs) where
  parted : frame_bytes fs ≡ frame_bytes (take n fs) ++ frame_bytes (drop n fs)
  parted = ap frame_bytes (sym (take-append-drop n fs)) ∙ frames_append (take n fs) (drop n fs)

  first_long : length (frame_bytes (take n fs)) ≡ FRAME * n
  first_long = frames_length (take n fs) ∙ omega (arith, length-take-le n fs h)

  frames_take : take (FRAME * n) (frame_bytes fs) ≡ frame_bytes (take n fs)
  frames_take = rw parted (take_at (frame_bytes (take n fs)) (frame_bytes (drop n fs)) (FRAME * n) first_long)

  frames_drop : drop (FRAME * n) (frame_bytes fs) ≡ frame_bytes (drop n fs)
  frames_drop = rw parted (drop_at (frame_bytes (take n fs)) (frame_bytes (drop n fs)) (FRAME * n) first_long)

-- frames moved up or down, by their bytes
bytes_up : (k : ℕ) (fs : List Frame) → k ≤ length fs → take (FRAME * k) (frame_bytes fs) ++ take (FRAME * length fs - FRAME * k) (frame_bytes fs) ≡ frame_bytes (take k fs ++ take (length fs - k) fs)
bytes_up k fs h =
    let e : FRAME * length fs - FRAME * k ≡ FRAME * (length fs - k) = omega arith in
    rw (e, frames_take k fs h, frames_take (length fs - k) fs (omega arith)) (sym (frames_append (take k fs) (take (length fs - k) fs)))

bytes_down : (k : ℕ) (fs : List Frame) → k ≤ length fs → drop (FRAME * k) (frame_bytes fs) ++ drop (FRAME * length fs - FRAME * k) (frame_bytes fs) ≡ frame_bytes (drop k fs ++ drop (length fs - k) fs)
bytes_down k fs h =
    let e : FRAME * length fs - FRAME * k ≡ FRAME * (length fs - k) = omega arith in
    rw (e, frames_drop k fs h, frames_drop (length fs - k) fs (omega arith)) (sym (frames_append (drop k fs) (drop (length fs - k) fs)))

-- what lies before the frames, and the zeros after n frames
front : Parts → List ℕ
front p = bytes (header_words p ++ ahead p Frames)

after : ℕ → List ℕ
after n = replicate (2 * (WORDS - begins Frames) - FRAME * n) 0

front_length : (p : Parts) → length (front p) ≡ word_byte Frames 0 0
unfolding front
front_length p = length_bytes (header_words p ++ ahead p Frames) ∙ omega (arith, before_length p Frames)

front_put : (p : Parts) (gs : List Frame) (rest : List ℕ) → put_word (front p ++ rest) (count_byte Frames) (length gs) ≡ front (with_frames p gs) ++ rest
unfolding front bytes put_word ahead
front_put p gs rest = rw (length-map gs frame_words)

front_same : (p : Parts) (gs : List Frame) → length gs ≡ length p.frames → front (with_frames p gs) ≡ front p
unfolding front ahead
front_same p gs e = rw (length-map gs frame_words, length-map p.frames frame_words, e)

lie : (p : Parts) → length p.frames ≤ FRAMES → bytes (laid p) ≡ front p ++ (frame_bytes p.frames ++ after (length p.frames))
unfolding front frame_bytes after area behind
lie p few =
    let h : List ℕ = header_words p ++ ahead p Frames in
    let ws : List ℕ = flatten (rows p Frames) in
    let n = length p.frames in
    let long = frames_long p in
    let z : List ℕ = replicate (width Frames * most Frames - length ws) 0 in
    let all : area Frames (rows p Frames) ++ behind p Frames ≡ ws ++ z = append-nil (area Frames (rows p Frames)) ∙ filled_rest (width Frames * most Frames) ws (omega arith) in
    let j = width Frames * most Frames - length ws in
    let k = WORDS - length (h ++ (ws ++ z)) in
    let zl : length z ≡ j = length-replicate j 0 in
    let full : length (h ++ (ws ++ z)) ≡ begins Frames + width Frames * most Frames =
    length-append h (ws ++ z) ∙ omega (arith, length-append ws z, before_length p Frames)
    in
    let e : 2 * (j + k) ≡ 2 * (WORDS - begins Frames) - FRAME * n = omega arith in
    rw (apart p Frames, all, filled_rest WORDS (h ++ (ws ++ z)) (omega arith), append_assoc h (ws ++ z) (replicate k 0), append_assoc ws z (replicate k 0), replicate-append-replicate {A = ℕ} j k 0)
    (rw (bytes_append h (ws ++ replicate (j + k) 0), bytes_append ws (replicate (j + k) 0), bytes_zeros (j + k), e))

-- The bytes b of a block with n frames, of which those from frame `at` on lie from byte `from` to byte `end`.
module _ (b : List ℕ) (p : Parts) (is : b ≡ bytes (laid p)) (at n from end : ℕ) (long : length p.frames ≡ n) (few : n ≤ FRAMES) (h : at ≤ n) (f : from ≡ word_byte Frames at 0) (e : end ≡ word_byte Frames n 0) where
  abbrev early : List Frame
  early = take at p.frames

  abbrev late : List Frame
  late = drop at p.frames

  before : List ℕ
  before = front p ++ frame_bytes early

  set_apart : b ≡ before ++ (frame_bytes late ++ after n)
  unfolding before
  set_apart =
      is
      ∙ lie p (omega arith)
      ∙ rw (parted at p.frames (omega arith), long, append_assoc (frame_bytes early) (frame_bytes late) (after n))
      (sym (append_assoc (front p) (frame_bytes early) (frame_bytes late ++ after n)))

  before_long : length before ≡ from
  unfolding before
  before_long = length-append (front p) (frame_bytes early) ∙ omega (arith, front_length p, first_long at p.frames (omega arith), f)

  late_long : length (frame_bytes late) ≡ end - from
  late_long = frames_length late ∙ omega (arith, length-drop at p.frames, f, e)

  part_is : take (end - from) (drop from b) ≡ frame_bytes late
  part_is = rw (set_apart, drop_at before (frame_bytes late ++ after n) from before_long) (take_at (frame_bytes late) (after n) (end - from) late_long)

  part_back : (ys : List ℕ) → take from b ++ (ys ++ drop (end - from) (drop from b)) ≡ front p ++ (frame_bytes early ++ (ys ++ after n))
  unfolding before
  part_back ys =
      rw (set_apart, take_at before (frame_bytes late ++ after n) from before_long, drop_at before (frame_bytes late ++ after n) from before_long, drop_at (frame_bytes late) (after n) (end - from) late_long)
      (append_assoc (front p) (frame_bytes early) (ys ++ after n))

  moved : (gs : List Frame) → length gs ≡ length late → take from b ++ (frame_bytes gs ++ drop (end - from) (drop from b)) ≡ bytes (laid (with_frames p (early ++ gs)))
  moved gs same =
      let all : length (early ++ gs) ≡ n = whole_length at p.frames gs (omega arith) same ∙ long in
      part_back (frame_bytes gs)
      ∙ sym
      (lie (with_frames p (early ++ gs)) (omega arith)
      ∙ rw (all, front_same p (early ++ gs) (all ∙ sym long), frames_append early gs) (rw (append_assoc (frame_bytes early) (frame_bytes gs) (after n))))

  -- the later frames moved one place up, or k places down
  abbrev part : List ℕ
  part = take (end - from) (drop from b)

  part_long : length part ≡ FRAME * length late
  part_long = ap length part_is ∙ frames_length late

  pub moved_up : (ys : List ℕ) → at < n → ys ≡ take FRAME part ++ take (length part - FRAME) part → take from b ++ (ys ++ drop (end - from) (drop from b)) ≡ bytes (laid (with_frames p (raised at p.frames)))
  moved_up ys l are =
      let some : 1 ≤ length late = omega (arith, length-drop at p.frames) in
      let ys_are : ys ≡ frame_bytes (take 1 late ++ take (length late - 1) late) = are ∙ rw (part_long, part_is) (bytes_up 1 late some) in
      rw ys_are (moved (take 1 late ++ take (length late - 1) late) (up_length 1 late some))

  pub moved_down : (k : ℕ) (ys : List ℕ) → at + k ≤ n → ys ≡ drop (FRAME * k) part ++ drop (length part - FRAME * k) part → take from b ++ (ys ++ drop (end - from) (drop from b)) ≡ bytes (laid (with_frames p (lowered at k p.frames)))
  moved_down k ys l are =
      let some : k ≤ length late = omega (arith, length-drop at p.frames) in
      let ys_are : ys ≡ frame_bytes (drop k late ++ drop (length late - k) late) = are ∙ rw (part_long, part_is) (bytes_down k late some) in
      rw ys_are (moved (drop k late ++ drop (length late - k) late) (down_length k late some))

  -- the later frames made 0, and the count of those that are left
  pub cut_off : (ys : List ℕ) → ys ≡ replicate (length part) 0 → put_word (take from b ++ (ys ++ drop (end - from) (drop from b))) (count_byte Frames) at ≡ bytes (laid (with_frames p early))
  unfolding after
  cut_off ys are =
      let l : length early ≡ at = length-take-le at p.frames (omega arith) in
      let room = 2 * (WORDS - begins Frames) in
      let m : length part + (room - FRAME * n) ≡ room - FRAME * at = omega (arith, part_long, length-drop at p.frames) in
      let rest : ys ++ after n ≡ after at = rw are (replicate-append-replicate {A = ℕ} (length part) (room - FRAME * n) 0 ∙ rw m) in
      rw (part_back ys, rest)
      (ap (put_word (front p ++ (frame_bytes early ++ after at)) (count_byte Frames)) (sym l)
      ∙ front_put p early (frame_bytes early ++ after at)
      ∙ sym (lie (with_frames p early) (omega arith) ∙ rw l))
