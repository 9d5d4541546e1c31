-- The block, seen from a position: the part there and all else; and the whole again, with another part there.
use mathlib.Core.Path.{◌≡◌, refl, sym, ap, subst, ◌∙◌}
use mathlib.Core.List.{List, [], ◌∷◌, ◌++◌, map, map-append, flat_map, reverse}
use mathlib.Core.Option.{some, none-ne-some}
use Prim.Native.Nat.{ℕ, ◌+◌, ◌*◌, ◌<◌, ◌≤◌}
use native.Mathlib.Omega.{arith}
use lib.ListN.{length, take, drop, length-append, length-map, length-reverse, take-append-drop}
use lib.Seq.{length-take-le}
use Rattle.words.specs.Word.{bytes}
use Rattle.machine.specs.declared.Frame.{Frame}
use Rattle.machine.specs.Config as machine
use Rattle.machine.specs.Config.{running, returning, failed, join, Stores, Config}
use Rattle.machine.specs.Machine.{Path, here, left, right, size, thread_count, locate, part}
use Rattle.block.specs.declared.Area.TheVariants.{Objects, Bindings, Positions, Frames}
use Rattle.block.specs.Rows.{filled}
use Rattle.block.specs.Layout.{WORDS, counted}
use Rattle.block.specs.Block.{preorder, waiting, position_words, frames_of, parts_of, rows, area, laid}
use Rattle.representation.specs.Changed.{frame_start}
use Rattle.block.specs.Fits.{Few}
use Rattle.representation.specs.Preorder.{splice, replaced}
use Rattle.block.proofs.Words.{count_is_lem}
use Rattle.representation.proofs.Preorder.{alone, preorder_length, named_below, records_replaced, frames_replaced}
use Rattle.tree.specs.declared.Entry.{Entry}
use Rattle.tree.specs.Entries.{root_entry, tree_entries, frame_sum}
use Rattle.tree.proofs.Trees.{entries_length, size_threads, sum_append, sum_start}
use Rattle.tree.proofs.EntryWords.{entry_words, words_entry}
use Rattle.state.specs.Represents.{parts_in, Represents, Rest, StateAt}
use Rattle.state.proofs.Storing.{storable_frames, storable_positions, storable_entries}
use Rattle.state.proofs.Seeing.{map_take, map_drop}

-- a part put in its own place
replaced_same : (t : machine.Tree) (p : Path) (u : machine.Tree) → part t p ≡ some u → replaced t p u ≡ t
replaced_same t here u h = cc
replaced_same (running a e fs) (left p) u h = absurd (none-ne-some _ h)
replaced_same (running a e fs) (right p) u h = absurd (none-ne-some _ h)
replaced_same (returning v fs) (left p) u h = absurd (none-ne-some _ h)
replaced_same (returning v fs) (right p) u h = absurd (none-ne-some _ h)
replaced_same failed (left p) u h = absurd (none-ne-some _ h)
replaced_same failed (right p) u h = absurd (none-ne-some _ h)
replaced_same (join fs a e l r) (left p) u h = rw (replaced_same l p u h)
replaced_same (join fs a e l r) (right p) u h = rw (replaced_same r p u h)

-- the entry of a position says nothing of the trees beneath it
entry_alone : (t : machine.Tree) → root_entry (alone t) ≡ root_entry t
entry_alone (running a e fs) = refl
entry_alone (returning v fs) = refl
entry_alone failed = refl
entry_alone (join fs a e l r) = refl

alone_entries : (ts : List machine.Tree) → map root_entry (map alone ts) ≡ map root_entry ts
alone_entries [] = refl
alone_entries (t ∷ ts) = rw (entry_alone t, alone_entries ts)

module _ (t : machine.Tree) (n : ℕ) (p : Path) (u : machine.Tree) (h : locate t n ≡ some p) (k : part t p ≡ some u) where
  -- A part replaced: its entries are exchanged for those of the new part, and all others stay.
  pub entries_replaced : (w : machine.Tree) → tree_entries (replaced t p w) ≡ splice (tree_entries t) n (size u) (tree_entries w)
  entries_replaced w =
      let rs : List machine.Tree = map alone (preorder t) in
      let new : List machine.Tree = map alone (preorder w) in
      let e = alone_entries (preorder t) in
      sym (alone_entries (preorder (replaced t p w)))
      ∙ ap (map root_entry) (records_replaced t n p u h k w)
      ∙ map-append root_entry (take n rs) (new ++ drop (n + size u) rs)
      ∙ rw (map-append root_entry new (drop (n + size u) rs), map_take root_entry n rs, map_drop root_entry (n + size u) rs, e, alone_entries (preorder w))

-- the frames of a tree are as many as its entries say, and the part at a position begins within them
listed : (ss : List machine.Tree) → length (flat_map (λ s. reverse (waiting s)) ss) ≡ frame_sum (map root_entry ss)
unfolding flat_map
listed [] = refl
listed (s ∷ ss) = length-append (reverse (waiting s)) (flat_map (λ s. reverse (waiting s)) ss) ∙ omega (arith, length-reverse (waiting s), listed ss)

pub frames_sum : (t : machine.Tree) → length (frames_of t) ≡ frame_sum (tree_entries t)
unfolding frames_of
frames_sum t = listed (preorder t)

pub sum_take : (es : List Entry) (n : ℕ) → frame_sum (take n es) ≤ frame_sum es
sum_take es n = omega (arith, sum_append (take n es) (drop n es), ap frame_sum (take-append-drop n es))

starts : (t : machine.Tree) (n : ℕ) → n < size t → length (take (frame_start t n) (frames_of t)) ≡ frame_sum (take n (tree_entries t))
starts t n h =
    let e = sum_start t n (omega arith) in
    length-take-le (frame_start t n) (frames_of t) (omega (arith, e, frames_sum t, sum_take (tree_entries t) n)) ∙ sym e

below : (t : machine.Tree) (n : ℕ) (p : Path) → locate t n ≡ some p → n < size t
below t n p h = (named_below t n).0 (p, h)

-- What lies in a block depends on the positions only by their entries.
pub laid_entries : (st : Stores) (ps qs : List machine.Tree) (fs : List Frame) → map root_entry ps ≡ map root_entry qs → laid (parts_in st ps fs) ≡ laid (parts_in st qs fs)
unfolding laid
laid_entries st ps qs fs e =
    let same : map position_words ps ≡ map position_words qs = sym (words_entries ps) ∙ ap (map entry_words) e ∙ words_entries qs in
    let p = parts_in st ps fs in
    ap (λ (rs : List (List ℕ)).
    filled WORDS
    ((length (rows p Objects) ∷ length (rows p Bindings) ∷ length (rows p Frames) ∷ length rs ∷ [])
    ++ (area Objects (rows p Objects) ++ (area Bindings (rows p Bindings) ++ (area Positions rs ++ area Frames (rows p Frames)))))) same
  where
    words_entries : (ts : List machine.Tree) → map entry_words (map root_entry ts) ≡ map position_words ts
    words_entries [] = refl
    words_entries (t ∷ ts) = rw (words_entry t, words_entries ts)

few_entries : (st : Stores) (ps qs : List machine.Tree) (fs : List Frame) → map root_entry ps ≡ map root_entry qs → Few (parts_in st ps fs) → Few (parts_in st qs fs)
few_entries st ps qs fs e few Objects = few Objects
few_entries st ps qs fs e few Bindings = few Bindings
few_entries st ps qs fs e few Positions =
    let many : length qs ≡ length ps = sym (length-map qs root_entry) ∙ ap length (sym e) ∙ length-map ps root_entry in
    rw (length-map qs position_words, many, ← length-map ps position_words) (few Positions)
few_entries st ps qs fs e few Frames = few Frames

-- All of the configuration c but the part u at position n.
abbrev pub around : Config → ℕ → machine.Tree → Rest
around c n u =
    record {
      before = take n (tree_entries c.tree);
      after = drop (n + size u) (tree_entries c.tree);
      outer = take (frame_start c.tree n) (frames_of c.tree);
      later = drop (frame_start c.tree n + length (frames_of u)) (frames_of c.tree);
    }

module _ (c : Config) (n : ℕ) (p : Path) (u : machine.Tree) (at : locate c.tree n ≡ some p) (there : part c.tree p ≡ some u) where
  entries_there : (w : machine.Tree) → tree_entries (replaced c.tree p w) ≡ (around c n u).before ++ (tree_entries w ++ (around c n u).after)
  entries_there w = entries_replaced c.tree n p u at there w

  frames_there : (w : machine.Tree) → frames_of (replaced c.tree p w) ≡ (around c n u).outer ++ (frames_of w ++ (around c n u).later)
  frames_there w = frames_replaced c.tree n p u at there w

  -- The configuration, seen from position n.
  pub seen_there : {b : List ℕ} → Represents b c → StateAt b n (around c n u) c.stores u
  seen_there h =
      let same = replaced_same c.tree p u there in
      let l : n < size c.tree = below c.tree n p at in
      let parts : frames_of c.tree ≡ (around c n u).outer ++ (frames_of u ++ (around c n u).later) = ap frames_of (sym same) ∙ frames_there u in
      record {
        positions = preorder c.tree;
        there = record {
          is = ap tree_entries (sym same) ∙ entries_there u;
          place = length-take-le n (tree_entries c.tree) (omega (arith, entries_length c.tree));
        };
        start = starts c.tree n l;
        block = h.block ∙ ap (λ (fs : List Frame). bytes (laid (parts_in c.stores (preorder c.tree) fs))) parts;
        few = subst (λ (fs : List Frame). Few (parts_in c.stores (preorder c.tree) fs)) parts h.few;
        storable = storable_frames (parts_of c) h.storable ((around c n u).outer ++ (frames_of u ++ (around c n u).later));
      }

  -- With another part there, it is the configuration with that part.
  pub seen_whole : {now : List ℕ} {st : Stores} {w : machine.Tree} → StateAt now n (around c n u) st w → Represents now (record { stores = st; tree = replaced c.tree p w })
  seen_whole {st = st} {w = w} s =
      let t = replaced c.tree p w in
      let same : map root_entry s.positions ≡ tree_entries t = s.there.is ∙ sym (entries_there w) in
      record {
        block =
            s.block
            ∙ ap (λ (fs : List Frame). bytes (laid (parts_in st s.positions fs))) (sym (frames_there w))
            ∙ ap bytes (laid_entries st s.positions (preorder t) (frames_of t) same);
        few = few_entries st s.positions (preorder t) (frames_of t) same (subst (λ (fs : List Frame). Few (parts_in st s.positions fs)) (sym (frames_there w)) s.few);
        storable =
            let p = parts_in st s.positions (frames_of t) in
            storable_positions p (storable_frames (parts_in st s.positions ((around c n u).outer ++ (frames_of w ++ (around c n u).later))) s.storable (frames_of t)) (preorder t)
            (storable_entries s.positions (preorder t) same (s.storable Positions));
      }

-- There are as many positions as the tree's size, one fewer than two for each thread.
pub positions_many : {b : List ℕ} {c : Config} → Represents b c → counted b Positions ≡ size c.tree
positions_many {c = c} h = rw h.block (count_is_lem (parts_of c) Positions ∙ length-map (preorder c.tree) position_words ∙ preorder_length c.tree)

pub positions_threads : {b : List ℕ} {c : Config} → Represents b c → counted b Positions + 1 ≡ 2 * thread_count c.tree
positions_threads {c = c} h = omega (arith, positions_many h, size_threads c.tree)
