-- The position that a choice names is the record of that number: places against records, a part replaced, and the joins that a thread resumes.
use mathlib.Core.Path.{◌≡◌, refl, sym, ap, subst, ◌∙◌}
use mathlib.Core.Logic.{◌↔◌}
use mathlib.Core.Bool.{Bool, true, false, cond}
use mathlib.Core.List.{List, [], ◌∷◌, ◌++◌, append_assoc, append-nil, map, map-append, flat_map, reverse, reverse-cons, reverse-append}
use mathlib.Core.Option.{some, none-ne-some}
use Prim.Native.Nat.{ℕ, zero, suc, ◌+◌, ◌-◌, ◌<◌, ◌≤◌}
use native.Mathlib.Omega.{arith}
use native.Mathlib.Decide.{dec_lt}
use borrow.Author.Tests.{lt-ltb, le-ltb}
use lib.ListN.{length, get_or, take, drop, length-append, length-map, length-reverse, take-append-drop}
use lib.Seq.{take_at, drop_at, take-suc, take-take, drop-append-le, length-take-le, get_or_at, slice, slice_empty}
use Rattle.script.specs.Syntax.{Point}
use Rattle.script.specs.Lists.{sum_below}
use Rattle.machine.specs.declared.Frame.{Frame}
use Rattle.machine.specs.Config.{Code, Stores, Tree, running, returning, failed, join}
use Rattle.machine.specs.Machine.{Places, Outcome, still, full, moved, Path, here, left, right, in_left_tree, in_right_tree, move_at, size, locate, part}
use Rattle.machine.proofs.Positions.{size_some, outside}
use Rattle.block.specs.Block.{preorder, waiting, frames_of}
use Rattle.representation.specs.Changed.{frame_start}
use Rattle.representation.specs.Preorder.{splice, Named, replaced, frames_above, in_tree, is_join, joins_from}
use Rattle.block.proofs.Rows.{flat_map_append}
use Rattle.block.proofs.Trees.{frames_join}

pub preorder_length : (t : Tree) → length (preorder t) ≡ size t
unfolding preorder
preorder_length (running a e fs) = refl
preorder_length (returning v fs) = refl
preorder_length failed = refl
preorder_length (join fs a e l r) = omega (arith, length-append (preorder l) (preorder r), preorder_length l, preorder_length r)

-- position n of a tree is place p, and u is the part there
data Stands : Tree → ℕ → Path → Tree → Type 0 where
  at_root : {t : Tree} → Stands t 0 here t
  at_left : {fs : List Frame} {a : Point} {e n : ℕ} {l r u : Tree} {p : Path} → Stands l n p u → Stands (join fs a e l r) (suc n) (left p) u
  at_right : {fs : List Frame} {a : Point} {e n : ℕ} {l r u : Tree} {p : Path} → Stands r n p u → Stands (join fs a e l r) (suc (size l + n)) (right p) u

-- every number below that of the positions has a place, and no other has one
record Placed (t : Tree) (n : ℕ) : Type 0 where
  place : Path
  tree : Tree
  stands : Stands t n place tree

placed : (t : Tree) (n : ℕ) → n < size t → Placed t n
placed (running a e fs) zero h = record { place = here; tree = running a e fs; stands = at_root }
placed (running a e fs) (suc n) h = absurd (omega arith)
placed (returning v fs) zero h = record { place = here; tree = returning v fs; stands = at_root }
placed (returning v fs) (suc n) h = absurd (omega arith)
placed failed zero h = record { place = here; tree = failed; stands = at_root }
placed failed (suc n) h = absurd (omega arith)
placed (join fs a e l r) zero h = record { place = here; tree = join fs a e l r; stands = at_root }
placed (join fs a e l r) (suc n) h =
    elim (dec_lt n (size l)) [
      | yes k ↦ let x = placed l n k in record { place = left x.place; tree = x.tree; stands = at_left x.stands }
      | no k ↦
          let m : size l + (n - size l) ≡ n = omega arith in
          let x = placed r (n - size l) (omega arith) in
          record {
            place = right x.place;
            tree = x.tree;
            stands = subst (λ (i : ℕ). Stands (join fs a e l r) (suc i) (right x.place) x.tree) m (at_right x.stands);
          }
    ]

inside : {t u : Tree} {n : ℕ} {p : Path} → Stands t n p u → n < size t
inside {t} at_root = size_some t
inside (at_left x) = omega (arith, inside x)
inside (at_right x) = omega (arith, inside x)

root_located : (t : Tree) → locate t 0 ≡ some here
root_located (running a e fs) = refl
root_located (returning v fs) = refl
root_located failed = refl
root_located (join fs a e l r) = refl

located : {t u : Tree} {n : ℕ} {p : Path} → Stands t n p u → locate t n ≡ some p
located {t} at_root = root_located t
located (at_left {n = n} {l = l} x) = rw (lt-ltb n (size l) (inside x), located x)
located (at_right {n = n} {l = l} x) =
    let m : (size l + n) - size l ≡ n = omega arith in
    rw (le-ltb (size l + n) (size l) (omega arith), m, located x)

parted : {t u : Tree} {n : ℕ} {p : Path} → Stands t n p u → part t p ≡ some u
parted at_root = refl
parted (at_left x) = parted x
parted (at_right x) = parted x

found : (t : Tree) (n : ℕ) (p : Path) → locate t n ≡ some p → (u : Tree) × Stands t n p u
found t n p h =
    elim (dec_lt n (size t)) [
      | yes k ↦
          let x = placed t n k in
          let e : x.place ≡ p = cc (located x.stands) in
          (x.tree, subst (λ (q : Path). Stands t n q x.tree) e x.stands)
      | no k ↦ absurd (none-ne-some _ (sym (outside t n (omega arith)) ∙ h))
    ]

-- A choice names a place if and only if it is below the number of positions.
pub named_below : (t : Tree) (n : ℕ) → ((p : Path) × (locate t n ≡ some p)) ↔ (n < size t)
named_below t n = (λ x. inside (found t n x.0 x.1).1, λ h. let x = placed t n h in (x.place, located x.stands))

-- Every part of a tree stands at a place that a choice names.
at_part : (t : Tree) (p : Path) (u : Tree) → part t p ≡ some u → (n : ℕ) × Stands t n p u
at_part t here u h = let e : t ≡ u = cc in (0, subst (Stands t 0 here) e at_root)
at_part (running a e fs) (left p) u h = absurd (none-ne-some _ h)
at_part (running a e fs) (right p) u h = absurd (none-ne-some _ h)
at_part (returning v fs) (left p) u h = absurd (none-ne-some _ h)
at_part (returning v fs) (right p) u h = absurd (none-ne-some _ h)
at_part failed (left p) u h = absurd (none-ne-some _ h)
at_part failed (right p) u h = absurd (none-ne-some _ h)
at_part (join fs a e l r) (left p) u h = let x = at_part l p u h in (suc x.0, at_left x.1)
at_part (join fs a e l r) (right p) u h = let x = at_part r p u h in (suc (size l + x.0), at_right x.1)

-- the frames of some records, in the order of the frame area
abbrev frames_in : List Tree → List Frame
frames_in ss = flat_map (λ s. reverse (waiting s)) ss

-- the frames of the joins at the front of some records, the nearest record first
abbrev join_frames : List Tree → List Frame
join_frames [] = []
join_frames (running a e fs ∷ ss) = []
join_frames (returning v fs ∷ ss) = []
join_frames (failed ∷ ss) = []
join_frames (join fs a e l r ∷ ss) = fs ++ join_frames ss

-- the last record of a tree is a thread's
no_join_last : (t : Tree) (ss : List Tree) → join_frames (reverse (preorder t) ++ ss) ≡ []
unfolding preorder
no_join_last (running a e fs) ss = refl
no_join_last (returning v fs) ss = refl
no_join_last failed ss = refl
no_join_last (join fs a e l r) ss =
    simp (reverse-cons (join fs a e l r) (preorder l ++ preorder r), reverse-append (preorder l) (preorder r), append_assoc)
    (no_join_last r (reverse (preorder l) ++ ((join fs a e l r ∷ []) ++ ss)))

-- a position apart from the trees beneath it
abbrev pub alone : Tree → Tree
alone (running a e fs) = running a e fs
alone (returning v fs) = returning v fs
alone failed = failed
alone (join fs a e l r) = join fs a e failed failed

-- what stands before and after the records of a part
record Cut (t : Tree) (n : ℕ) (p : Path) (u : Tree) : Type 0 where
  before : List Tree
  after : List Tree
  number : length before ≡ n
  records : preorder t ≡ before ++ (preorder u ++ after)
  positions : (w : Tree) → map alone (preorder (replaced t p w)) ≡ map alone before ++ (map alone (preorder w) ++ map alone after)
  frames : (w : Tree) → frames_of (replaced t p w) ≡ frames_in before ++ (frames_of w ++ frames_in after)
  above : (ss : List Tree) → frames_above (join_frames ss) t p ≡ join_frames (reverse before ++ ss)

module _ {u : Tree} {n : ℕ} {p : Path} (fs : List Frame) (a : Point) (e : ℕ) (l r : Tree) where
  cut_left : Cut l n p u → Cut (join fs a e l r) (suc n) (left p) u
  unfolding preorder frames_of flat_map
  cut_left c =
      record {
        before = join fs a e l r ∷ c.before;
        after = c.after ++ preorder r;
        number = ap suc c.number;
        records = rw c.records (simp append_assoc);
        positions = λ w. rw (map-append alone (preorder (replaced l p w)) (preorder r), c.positions w, map-append alone c.after (preorder r)) (simp append_assoc);
        frames = λ w. frames_join fs a e (replaced l p w) r ∙ simp (c.frames w, flat_map_append, append_assoc);
        above = λ ss. c.above (join fs a e l r ∷ ss) ∙ rw (reverse-cons (join fs a e l r) c.before) (simp append_assoc);
      }

  cut_right : Cut r n p u → Cut (join fs a e l r) (suc (size l + n)) (right p) u
  unfolding preorder frames_of flat_map
  cut_right c =
      record {
        before = join fs a e l r ∷ (preorder l ++ c.before);
        after = c.after;
        number = omega (arith, length-append (preorder l) c.before, preorder_length l, c.number);
        records = rw c.records (simp append_assoc);
        positions = λ w. rw (map-append alone (preorder l) (preorder (replaced r p w)), c.positions w, map-append alone (preorder l) c.before) (simp append_assoc);
        frames = λ w. frames_join fs a e l (replaced r p w) ∙ simp (c.frames w, flat_map_append, append_assoc);
        above = λ ss.
            ap (λ (fs : List Frame). frames_above fs r p) (sym (no_join_last l (join fs a e l r ∷ ss)))
            ∙ c.above (reverse (preorder l) ++ join fs a e l r ∷ ss)
            ∙ rw (reverse-cons (join fs a e l r) (preorder l ++ c.before), reverse-append (preorder l) c.before) (simp append_assoc);
      }

cut : {t u : Tree} {n : ℕ} {p : Path} → Stands t n p u → Cut t n p u
unfolding flat_map
cut {t} at_root =
    record {
      before = [];
      after = [];
      number = refl;
      records = sym (append-nil (preorder t));
      positions = λ w. sym (append-nil (map alone (preorder w)));
      frames = λ w. sym (append-nil (frames_of w));
      above = λ ss. refl;
    }
cut (at_left {fs = fs} {a = a} {e = e} {l = l} {r = r} x) = cut_left fs a e l r (cut x)
cut (at_right {fs = fs} {a = a} {e = e} {l = l} {r = r} x) = cut_right fs a e l r (cut x)

cut_before : {t u : Tree} {n : ℕ} {p : Path} (c : Cut t n p u) → take n (preorder t) ≡ c.before
cut_before {u = u} {n = n} c = rw c.records (take_at c.before (preorder u ++ c.after) n c.number)

standing : (t : Tree) (n : ℕ) (p : Path) (u : Tree) → locate t n ≡ some p → part t p ≡ some u → Stands t n p u
standing t n p u h k = let x = found t n p h in let e : x.0 ≡ u = cc (parted x.1) in subst (Stands t n p) e x.1

-- the middle of a list exchanged
spliced : {A : Type 0} {x y : List A} (a b c new : List A) {n k : ℕ} → x ≡ a ++ (b ++ c) → y ≡ a ++ (new ++ c) → length a ≡ n → length b ≡ k → y ≡ splice x n k new
spliced a b c new {n} {k} f g h l =
    let e : length (a ++ b) ≡ n + k = omega (arith, length-append a b) in
    let back = drop_at (a ++ b) c (n + k) e in
    rw (f, g, take_at a (b ++ c) n h, ← append_assoc a b c, back)

root_first : (u : Tree) → (ss : List Tree) × (preorder u ≡ u ∷ ss)
unfolding preorder
root_first (running a e fs) = ([], refl)
root_first (returning v fs) = ([], refl)
root_first failed = ([], refl)
root_first (join fs a e l r) = (preorder l ++ preorder r, refl)

-- Record n of a block is the root of the part that choice n names, and the records from n on begin with all records of that part.
pub named : (t : Tree) (n : ℕ) (p : Path) → locate t n ≡ some p → Named t n p
named t n p h =
    let x = found t n p h in
    let c = cut x.1 in
    let f = root_first x.0 in
    record {
      tree = x.0;
      there = parted x.1;
      root = rw (c.records, f.1) (get_or_at c.before x.0 (f.0 ++ c.after) failed n c.number);
      records = spliced c.before (preorder x.0) c.after (preorder x.0) c.records c.records c.number (preorder_length x.0);
    }

-- how many frames the first records have
abbrev frames_before : List Tree → ℕ → ℕ
frames_before ss i = sum_below (λ n. length (waiting (get_or ss n failed))) i

frames_before_lem : (ss : List Tree) (i : ℕ) → i ≤ length ss → length (frames_in (take i ss)) ≡ frames_before ss i
unfolding sum_below flat_map
frames_before_lem ss zero h = refl
frames_before_lem ss (suc i) h =
    rw (take-suc ss i failed (omega arith), flat_map_append (λ s. reverse (waiting s)) (take i ss) (get_or ss i failed ∷ []), append-nil)
    (omega (arith, length-append (frames_in (take i ss)) (reverse (waiting (get_or ss i failed))), frames_before_lem ss i (omega arith), length-reverse (waiting (get_or ss i failed))))

-- A part replaced: its records, and its frames, are exchanged for those of the new part, and all others stay.
module _ (t : Tree) (n : ℕ) (p : Path) (u : Tree) (h : locate t n ≡ some p) (k : part t p ≡ some u) (w : Tree) where
  pub records_replaced : map alone (preorder (replaced t p w)) ≡ splice (map alone (preorder t)) n (size u) (map alone (preorder w))
  records_replaced =
      let c = cut (standing t n p u h k) in
      spliced (map alone c.before) (map alone (preorder u)) (map alone c.after) (map alone (preorder w))
      (ap (map alone) c.records ∙ simp map-append)
      (c.positions w)
      (length-map c.before alone ∙ c.number)
      (length-map (preorder u) alone ∙ preorder_length u)

  pub frames_replaced : frames_of (replaced t p w) ≡ splice (frames_of t) (frame_start t n) (length (frames_of u)) (frames_of w)
  unfolding frames_of
  frames_replaced =
      let x = standing t n p u h k in
      let c = cut x in
      spliced (frames_in c.before) (frames_of u) (frames_in c.after) (frames_of w) (whole c) (c.frames w) (start c (inside x)) refl
    where
      whole : (c : Cut t n p u) → frames_of t ≡ frames_in c.before ++ (frames_of u ++ frames_in c.after)
      whole c = ap frames_in c.records ∙ simp flat_map_append

      start : (c : Cut t n p u) → n < size t → length (frames_in c.before) ≡ frame_start t n
      start c l = rw (← cut_before c) (frames_before_lem (preorder t) n (omega (arith, preorder_length t)))

-- an outcome put back into the tree step by step
here_whole : (t : Tree) (o : Outcome) → o ≡ in_tree t here o
here_whole t still = refl
here_whole t (full k) = refl
here_whole t (moved st w) = refl

module _ (fs : List Frame) (a : Point) (e : ℕ) (l r : Tree) (p : Path) where
  left_whole : (o : Outcome) → in_left_tree fs a e r (in_tree l p o) ≡ in_tree (join fs a e l r) (left p) o
  left_whole still = refl
  left_whole (full k) = refl
  left_whole (moved st w) = refl

  right_whole : (o : Outcome) → in_right_tree fs a e l (in_tree r p o) ≡ in_tree (join fs a e l r) (right p) o
  right_whole still = refl
  right_whole (full k) = refl
  right_whole (moved st w) = refl

module _ (s : Code) (room : Places) (st : Stores) where
  moves_there : {t u : Tree} {n : ℕ} {p : Path} → Stands t n p u → (above : List Frame)
      → move_at s room st above t p ≡ in_tree t p (move_at s room st (frames_above above t p) u here)
  moves_there {t} at_root above = here_whole t (move_at s room st above t here)
  moves_there (at_left {fs = fs} {a = a} {e = e} {l = l} {r = r} {u = u} {p = p} x) above =
      ap (in_left_tree fs a e r) (moves_there x (fs ++ above)) ∙ left_whole fs a e l r p (move_at s room st (frames_above (fs ++ above) l p) u here)
  moves_there (at_right {fs = fs} {a = a} {e = e} {l = l} {r = r} {u = u} {p = p} x) above =
      ap (in_right_tree fs a e l) (moves_there x []) ∙ right_whole fs a e l r p (move_at s room st (frames_above [] r p) u here)

  -- The choice of a place comes to what the part there does under the frames of the joins above it, put back into the tree.
  pub part_moves : (above : List Frame) (t : Tree) (p : Path) (u : Tree) → part t p ≡ some u
      → move_at s room st above t p ≡ in_tree t p (move_at s room st (frames_above above t p) u here)
  part_moves above t p u h = moves_there (at_part t p u h).1 above

-- the joins directly before a record
joins_within : (ss : List Tree) (n : ℕ) → joins_from ss n ≤ n
joins_within ss zero = omega arith
joins_within ss (suc n) = go (is_join (get_or ss n failed)) (joins_within ss n)
  where
    go : (b : Bool) → joins_from ss n ≤ n → cond b (joins_from ss n) (suc n) ≤ suc n
    go true h = omega arith
    go false h = omega arith

slice_next : {A : Type 0} (m n : ℕ) (l : List A) (d : A) → m ≤ n → n < length l → slice m (suc n) l ≡ slice m n l ++ (get_or l n d ∷ [])
slice_next m n l d h k = rw (take-suc l n d k) (drop-append-le m (take n l) (get_or l n d ∷ []) (rw (length-take-le n l (omega arith)) h))

-- their frames, nearest first
module _ (ss : List Tree) where
  run_step : (n m : ℕ) (u : Tree) → get_or ss n failed ≡ u → n < length ss → m ≤ n → join_frames (reverse (take n ss)) ≡ flat_map waiting (reverse (slice m n ss))
      → join_frames (u ∷ reverse (take n ss)) ≡ flat_map waiting (reverse (slice (cond (is_join u) m (suc n)) (suc n) ss))
  unfolding flat_map
  run_step n m (running a e fs) g h l k = rw (slice_empty (suc n) ss)
  run_step n m (returning v fs) g h l k = rw (slice_empty (suc n) ss)
  run_step n m failed g h l k = rw (slice_empty (suc n) ss)
  run_step n m (join fs a e x y) g h l k = rw (slice_next m n ss failed l h, g, reverse-append (slice m n ss) (join fs a e x y ∷ []), k)

  run_frames : (n : ℕ) → n ≤ length ss → join_frames (reverse (take n ss)) ≡ flat_map waiting (reverse (slice (joins_from ss n) n ss))
  unfolding flat_map
  run_frames zero h = refl
  run_frames (suc n) h =
      ap join_frames (ap reverse (take-suc ss n failed h) ∙ reverse-append (take n ss) (get_or ss n failed ∷ []))
      ∙ run_step n (joins_from ss n) (get_or ss n failed) refl h (joins_within ss n) (run_frames n (omega arith))

turned_frames : (ss : List Tree) → frames_in ss ≡ reverse (flat_map waiting (reverse ss))
unfolding flat_map
turned_frames [] = refl
turned_frames (s ∷ ss) =
    rw (turned_frames ss, reverse-cons s ss, flat_map_append waiting (reverse ss) (s ∷ []), append-nil)
    (sym (reverse-append (flat_map waiting (reverse ss)) (waiting s)))

-- records one after the other have their frames one after the other
frames_split : (i : ℕ) (ss : List Tree) → frames_in ss ≡ frames_in (take i ss) ++ frames_in (drop i ss)
frames_split i ss = ap frames_in (sym (take-append-drop i ss)) ∙ flat_map_append (λ s. reverse (waiting s)) (take i ss) (drop i ss)

frames_slice : (ss : List Tree) (m n : ℕ) → m ≤ n → n ≤ length ss → slice (frames_before ss m) (frames_before ss n) (frames_in ss) ≡ frames_in (slice m n ss)
frames_slice ss m n h k =
    ap (drop (frames_before ss m))
    (ap (take (frames_before ss n)) (frames_split n ss)
    ∙ take_at (frames_in (take n ss)) (frames_in (drop n ss)) (frames_before ss n) (frames_before_lem ss n k)
    ∙ frames_split m (take n ss)
    ∙ rw (take-take m n ss h))
    ∙ drop_at (frames_in (take m ss)) (frames_in (slice m n ss)) (frames_before ss m) (frames_before_lem ss m (omega arith))

-- The frames that the part at position n is handed are those of the joins that stand one after the other directly before record n, the nearest first.
pub above_run : (t : Tree) (n : ℕ) (p : Path) → locate t n ≡ some p → frames_above [] t p ≡ flat_map waiting (reverse (slice (joins_from (preorder t) n) n (preorder t)))
above_run t n p h =
    let x = (found t n p h).1 in
    let c = cut x in
    c.above [] ∙ rw (append-nil (reverse c.before), ← cut_before c) (run_frames (preorder t) n (omega (arith, inside x, preorder_length t)))

-- So the frames that a thread will resume lie one after the other in the frame area, the outermost first: those of these joins, and then its own.
pub resumed_run : (t : Tree) (n : ℕ) (p : Path) (u : Tree) → locate t n ≡ some p → part t p ≡ some u
    → slice (frame_start t (joins_from (preorder t) n)) (frame_start t (suc n)) (frames_of t) ≡ reverse (waiting u ++ frames_above [] t p)
unfolding frames_of flat_map
resumed_run t n p u h k =
    let ss : List Tree = preorder t in
    let m : ℕ = joins_from ss n in
    let x = named t n p h in
    let e : x.tree ≡ u = cc x.there in
    let b : n < length ss = omega (arith, (named_below t n).0 (p, h), preorder_length t) in
    frames_slice ss m (suc n) (omega (arith, joins_within ss n)) b
    ∙ ap frames_in (slice_next m n ss failed (joins_within ss n) b)
    ∙ flat_map_append (λ s. reverse (waiting s)) (slice m n ss) (get_or ss n failed ∷ [])
    ∙ rw (turned_frames (slice m n ss), ← above_run t n p h, x.root, e, append-nil) (sym (reverse-append (waiting u) (frames_above [] t p)))
