-- What holds of the block wherever something is seen from a position: what the functions that change it ask.
use mathlib.Core.Path.{◌≡◌, refl, sym, ap, ◌∙◌}
use mathlib.Core.List.{List, [], ◌∷◌, ◌++◌, append-nil, map, flat_map, reverse}
use Prim.Native.Nat.{ℕ, zero, suc, ◌+◌, ◌<◌, ◌≤◌}
use native.Mathlib.Omega.{arith}
use lib.ListN.{length, take, drop, length-append, length-map, length-reverse}
use Rattle.limits.specs.Limits.{BLOCK, POSITIONS}
use Rattle.machine.specs.declared.Frame.{Frame}
use Rattle.machine.specs.Config as machine
use Rattle.machine.specs.Config.{Stores, running, returning, failed, join}
use Rattle.machine.specs.Machine.{size, frame_count}
use Rattle.machine.proofs.Positions.{size_some}
use Rattle.block.specs.declared.Area.{Area}
use Rattle.block.specs.declared.Area.TheVariants.{Objects, Bindings, Positions, Frames}
use Rattle.block.specs.Layout.{most, counted}
use Rattle.block.specs.Block.{object_words, binding_words, frame_words, preorder, waiting, frames_of, Parts, rows}
use Rattle.block.proofs.Trees.{frames_join}
use Rattle.block.proofs.Words.{laid_bytes, count_is_lem}
use Rattle.tree.specs.declared.Entry.{Entry}
use Rattle.tree.specs.Entries.{root_entry, frame_sum}
use Rattle.tree.specs.Parts.{PartAt, HasPart, FramesWithin}
use Rattle.tree.proofs.Parts.{part_before, part_inside, part_root}
use Rattle.state.specs.Represents.{parts_in, Rest, StateAt, SomeState}
use Rattle.state.specs.Positions.{entry_at, entries_in}
use Rattle.state.proofs.Taking.{entries_many, entry_there, entries_said}

-- the first and the last elements of a list of which each is put into another
pub map_take : {A B : Type 0} (f : A → B) (n : ℕ) (l : List A) → map f (take n l) ≡ take n (map f l)
map_take f zero l = refl
map_take f (suc n) [] = refl
map_take f (suc n) (x ∷ l) = rw (map_take f n l)

pub map_drop : {A B : Type 0} (f : A → B) (n : ℕ) (l : List A) → map f (drop n l) ≡ drop n (map f l)
map_drop f zero l = refl
map_drop f (suc n) [] = refl
map_drop f (suc n) (x ∷ l) = map_drop f n l

-- all frames, where the part has fs, and what lies in the block then
abbrev pub around : Rest → List Frame → List Frame
around x fs = x.outer ++ (fs ++ x.later)

abbrev pub lying : Rest → Stores → List machine.Tree → List Frame → Parts
lying x st ps fs = parts_in st ps (around x fs)

-- a tree's frames: those of its root, outermost first, and then those of the trees beneath
abbrev pub beneath : machine.Tree → List Frame
beneath (running a e fs) = []
beneath (returning v fs) = []
beneath failed = []
beneath (join fs a e l r) = frames_of l ++ frames_of r

pub frames_first : (t : machine.Tree) → frames_of t ≡ reverse (waiting t) ++ beneath t
unfolding frames_of preorder flat_map
frames_first (running a e fs) = refl
frames_first (returning v fs) = refl
frames_first failed = refl
frames_first (join fs a e l r) = frames_join fs a e l r

pub frames_thread : (t : machine.Tree) → size t ≡ 1 → frames_of t ≡ reverse (waiting t)
unfolding frames_of preorder flat_map
frames_thread (running a e fs) h = append-nil (reverse fs)
frames_thread (returning v fs) h = append-nil (reverse fs)
frames_thread failed h = refl
frames_thread (join fs a e l r) h = absurd (omega (arith, size_some l))

pub frames_many : (t : machine.Tree) → length (frames_of t) ≡ frame_count t
unfolding frames_of preorder flat_map
frames_many (running a e fs) = omega (arith, length-append (reverse fs) [], length-reverse fs)
frames_many (returning v fs) = omega (arith, length-append (reverse fs) [], length-reverse fs)
frames_many failed = refl
frames_many (join fs a e l r) =
    ap length (frames_join fs a e l r)
    ∙ omega (arith, length-append (reverse fs) (frames_of l ++ frames_of r), length-append (frames_of l) (frames_of r), length-reverse fs, frames_many l, frames_many r)

waiting_within : (t : machine.Tree) → length (waiting t) ≤ frame_count t
waiting_within t = omega (arith, frames_many t, ap length (frames_first t), length-append (reverse (waiting t)) (beneath t), length-reverse (waiting t))

module _ {b : List ℕ} {i : ℕ} {x : Rest} {st : Stores} {u : machine.Tree} (s : StateAt b i x st u) where
  pub some_state : SomeState b i
  some_state = record { rest = x; stores = st; part = u; seen = s }

  pub seen_length : length b ≡ BLOCK
  seen_length = rw s.block (laid_bytes (lying x st s.positions (frames_of u)))

  -- the counts
  pub seen_counted : (a : Area) → counted b a ≡ length (rows (lying x st s.positions (frames_of u)) a)
  seen_counted a = rw s.block (count_is_lem (lying x st s.positions (frames_of u)) a)

  pub seen_few : (a : Area) → counted b a ≤ most a
  seen_few a = rw (seen_counted a) (s.few a)

  pub objects_counted : counted b Objects ≡ length st.objects
  objects_counted = seen_counted Objects ∙ length-map st.objects object_words

  pub bindings_counted : counted b Bindings ≡ length st.bindings
  bindings_counted = seen_counted Bindings ∙ length-map (reverse st.bindings) binding_words ∙ length-reverse st.bindings

  pub frames_counted : counted b Frames ≡ length x.outer + (frame_count u + length x.later)
  frames_counted =
      seen_counted Frames
      ∙ length-map (around x (frames_of u)) frame_words
      ∙ omega (arith, length-append x.outer (frames_of u ++ x.later), length-append (frames_of u) x.later, frames_many u)

  -- the position, and the entry there
  pub seen_entries : entries_in b ≡ map root_entry s.positions
  seen_entries = entries_said b (lying x st s.positions (frames_of u)) s.block (seen_few Positions) (s.storable Positions)

  pub seen_part : PartAt (entries_in b) i x.before u x.after
  seen_part = rw seen_entries s.there

  pub seen_inside : i < counted b Positions
  seen_inside = omega (arith, part_inside seen_part, size_some u, entries_many b)

  pub seen_room : i < POSITIONS
  seen_room = omega (arith, seen_inside, seen_few Positions)

  pub seen_entry : entry_at b i ≡ root_entry u
  seen_entry = sym (entry_there b i seen_inside) ∙ part_root seen_part

  pub seen_waiting : (entry_at b i).frames ≡ length (waiting u)
  seen_waiting = ap (λ (y : Entry). y.frames) seen_entry

  -- where the frames of the part begin
  pub frames_begin : frame_sum (take i (entries_in b)) ≡ length x.outer
  frames_begin = ap frame_sum (part_before seen_part) ∙ omega (arith, s.start)

  -- the frames of the position, and those of the part, lie in the block
  pub waiting_few : frame_sum (take i (entries_in b)) + (entry_at b i).frames ≤ counted b Frames
  waiting_few = omega (arith, seen_waiting, frames_begin, frames_counted, waiting_within u)

  pub frames_inside : (at k : ℕ) → at ≡ frame_sum (take i (entries_in b)) → FramesWithin (entries_in b) i k → at + k ≤ counted b Frames
  frames_inside at k h many = omega (arith, h, frames_begin, many.part seen_part, frames_counted)

-- something is seen, so a part stands there
pub stands : {b : List ℕ} {i : ℕ} → SomeState b i → HasPart (entries_in b) i
stands s = record { before = s.rest.before; part = s.part; after = s.rest.after; there = seen_part s.seen }
