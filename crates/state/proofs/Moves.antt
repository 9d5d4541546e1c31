-- What each change of the block comes to, seen from its position: the callees' contracts are premises, and the code's locals variables.
use mathlib.Core.Path.{◌≡◌, refl, sym, ap, subst, ◌∙◌}
use mathlib.Core.Logic.{⊎_elim}
use mathlib.Core.List.Memᴰ
use mathlib.Core.List.{List, [], ◌∷◌, ◌++◌, append_assoc, append-nil, map, map-append, reverse, reverse-cons}
use Prim.Native.Nat.{ℕ, suc, ◌+◌, ◌<◌, ◌≤◌}
use native.Mathlib.Omega.{arith}
use lib.ListN.{length, get_or, set, take, drop, length-append, length-map, length-set, length-reverse}
use lib.Seq.{take_at, drop_at, get_or_at, append_snoc}
use Rattle.words.specs.Word.{bytes}
use Rattle.limits.specs.Limits.{OBJECTS, BINDINGS, POSITIONS, FRAMES}
use Rattle.script.specs.Lists.{◌∈◌, Every}
use Rattle.script.proofs.Lists.{every_in}
use Rattle.machine.specs.declared.Value.{Value}
use Rattle.machine.specs.declared.Frame.{Frame}
use Rattle.machine.specs.declared.Frame.TheVariants.{Awaits as awaits}
use Rattle.machine.specs.Config as machine
use Rattle.machine.specs.Config.{Object, Binding, Stores, running, returning, failed, join}
use Rattle.machine.specs.Machine.{size, frame_count}
use Rattle.machine.proofs.Positions.{size_some}
use Rattle.block.specs.declared.Area.TheVariants.{Objects, Bindings, Positions, Frames}
use Rattle.block.specs.Layout.{counted}
use Rattle.block.specs.Values.{Storable}
use Rattle.block.specs.Block.{object_words, binding_words, position_words, frame_words, preorder, waiting, returned, frames_of, Parts, laid}
use Rattle.representation.specs.Changed.{with_objects, with_bindings, with_frames}
use Rattle.block.specs.Fits.{Few, StorableIn}
use Rattle.block.proofs.Trees.{frames_join}
use Rattle.block.proofs.Words.{count_is_lem}
use Rattle.representation.proofs.Changes.{map_set}
use Rattle.areas.proofs.Laws.{Reads}
use Rattle.tree.specs.declared.Cell.{Cell}
use Rattle.tree.specs.declared.Cell.TheVariants.{Running}
use Rattle.tree.specs.declared.Entry.{Entry}
use Rattle.tree.specs.declared.Tree.{Tree}
use Rattle.tree.specs.Entries.{cell_of, root_entry, tree_entries, frame_sum, used, Bounded, result_of}
use Rattle.tree.specs.Parts.{PartAt, Forked, Failing, Joined, FramesWithin}
use Rattle.tree.proofs.Trees.{entries_thread}
use Rattle.tree.proofs.Parts.{used_length, part_before, part_after, part_inside, part_set}
use Rattle.state.specs.Represents.{Rest, StateAt}
use Rattle.state.specs.Positions.{entry_at, entries_in, with_positions}
use Rattle.state.proofs.Storing.{storable_frames, storable_positions, storable_objects, storable_bindings, set_in, exchanged_in, returned_entry}
use Rattle.state.proofs.Seeing.{around, lying, beneath, frames_first, frames_thread, frames_many, seen_few, bindings_counted, frames_counted, seen_part, seen_waiting, frames_begin, map_take, map_drop}

-- what insert_frame and remove_frames ensure, of the bytes b before and c after
abbrev pub Inserts : List ℕ → List ℕ → ℕ → Frame → Type 0
Inserts b c at f = (p : Parts) → b ≡ bytes (laid p) → c ≡ bytes (laid (with_frames p (take at p.frames ++ f ∷ drop at p.frames)))

abbrev pub Removes : List ℕ → List ℕ → ℕ → ℕ → Type 0
Removes b c at k = (p : Parts) → b ≡ bytes (laid p) → c ≡ bytes (laid (with_frames p (take at p.frames ++ drop (at + k) p.frames)))

-- a list with an element put in, and one with a part taken out
module _ {A : Type 0} (outer mine later : List A) (at : ℕ) (here : at ≡ length outer + length mine) where
  ends : length (outer ++ mine) ≡ at
  ends = length-append outer mine ∙ sym here

  put_in : (f : A) → take at (outer ++ (mine ++ later)) ++ f ∷ drop at (outer ++ (mine ++ later)) ≡ outer ++ ((mine ++ f ∷ []) ++ later)
  put_in f =
      rw (← append_assoc outer mine later, take_at (outer ++ mine) later at ends, drop_at (outer ++ mine) later at ends)
      (append_assoc outer mine (f ∷ later) ∙ ap (λ (l : List A). outer ++ l) (sym (append_snoc mine f later)))

  taken_out : (gone : List A) (k : ℕ) → k ≡ length gone
      → take at (outer ++ ((mine ++ gone) ++ later)) ++ drop (at + k) (outer ++ ((mine ++ gone) ++ later)) ≡ outer ++ (mine ++ later)
  taken_out gone k e =
      let whole : outer ++ ((mine ++ gone) ++ later) ≡ (outer ++ mine) ++ (gone ++ later) = simp append_assoc in
      let whole₂ : outer ++ ((mine ++ gone) ++ later) ≡ ((outer ++ mine) ++ gone) ++ later = simp append_assoc in
      let long : length ((outer ++ mine) ++ gone) ≡ at + k = length-append (outer ++ mine) gone ∙ omega (arith, ends) in
      let front : take at (outer ++ ((mine ++ gone) ++ later)) ≡ outer ++ mine = ap (take at) whole ∙ take_at (outer ++ mine) (gone ++ later) at ends in
      let back : drop (at + k) (outer ++ ((mine ++ gone) ++ later)) ≡ later = ap (drop (at + k)) whole₂ ∙ drop_at ((outer ++ mine) ++ gone) later (at + k) long in
      rw (front, back) (append_assoc outer mine later)

  got : (f d : A) (rest : List A) → get_or (outer ++ ((mine ++ f ∷ rest) ++ later)) at d ≡ f
  got f d rest =
      let whole : outer ++ ((mine ++ f ∷ rest) ++ later) ≡ (outer ++ mine) ++ f ∷ (rest ++ later) = simp append_assoc in
      ap (λ (l : List A). get_or l at d) whole ∙ get_or_at (outer ++ mine) f (rest ++ later) d at ends

-- other frames, positions, objects or bindings where there is room
few_frames : (p : Parts) (fs : List Frame) → Few p → length fs ≤ FRAMES → Few (with_frames p fs)
few_frames p fs h l Objects = h Objects
few_frames p fs h l Bindings = h Bindings
few_frames p fs h l Positions = h Positions
few_frames p fs h l Frames = rw (length-map fs frame_words) l

few_positions : (p : Parts) (ts : List machine.Tree) → Few p → length ts ≤ POSITIONS → Few (with_positions p ts)
few_positions p ts h l Objects = h Objects
few_positions p ts h l Bindings = h Bindings
few_positions p ts h l Positions = rw (length-map ts position_words) l
few_positions p ts h l Frames = h Frames

few_objects : (p : Parts) (os : List Object) → Few p → length os ≤ OBJECTS → Few (with_objects p os)
few_objects p os h l Objects = rw (length-map os object_words) l
few_objects p os h l Bindings = h Bindings
few_objects p os h l Positions = h Positions
few_objects p os h l Frames = h Frames

few_bindings : (p : Parts) (bs : List Binding) → Few p → length bs ≤ BINDINGS → Few (with_bindings p bs)
few_bindings p bs h l Objects = h Objects
few_bindings p bs h l Bindings = rw (length-map bs binding_words) l
few_bindings p bs h l Positions = h Positions
few_bindings p bs h l Frames = h Frames

-- The stores: other objects, and one binding more. The block has the bindings in the order in which they were made, the stores newest first.
module _ {b : List ℕ} {i : ℕ} {x : Rest} {st : Stores} {u : machine.Tree} (s : StateAt b i x st u) where
  abbrev pub lies : Parts
  lies = lying x st s.positions (frames_of u)

  pub seen_objects : {c : List ℕ} (os : List Object) → length os ≤ OBJECTS → StorableIn (with_objects lies os) Objects → c ≡ bytes (laid (with_objects lies os))
      → StateAt c i x (record { objects = os; bindings = st.bindings }) u
  seen_objects os l k e =
      record {
        positions = s.positions;
        there = s.there;
        start = s.start;
        block = e;
        few = few_objects lies os s.few l;
        storable = storable_objects lies s.storable os k;
      }

  pub seen_bindings : {c : List ℕ} (d : Binding) → counted b Bindings < BINDINGS → Storable d.value
      → c ≡ bytes (laid (with_bindings lies (reverse st.bindings ++ d ∷ [])))
      → StateAt c i x (record { objects = st.objects; bindings = d ∷ st.bindings }) u
  seen_bindings d room v e =
      let turned : reverse st.bindings ++ d ∷ [] ≡ reverse (d ∷ st.bindings) = sym (reverse-cons d st.bindings) in
      let l : length (reverse (d ∷ st.bindings)) ≤ BINDINGS = rw (length-reverse (d ∷ st.bindings)) (omega (arith, bindings_counted s, room)) in
      record {
        positions = s.positions;
        there = s.there;
        start = s.start;
        block = e ∙ ap (λ (bs : List Binding). bytes (laid (with_bindings lies bs))) turned;
        few = few_bindings lies (reverse (d ∷ st.bindings)) s.few l;
        storable =
            storable_bindings lies s.storable (reverse (d ∷ st.bindings))
            (subst (λ (bs : List Binding). (y : Binding) → y ∈ bs → Storable y.value) turned more);
      }
    where
      more : (y : Binding) → y ∈ reverse st.bindings ++ d ∷ [] → Storable y.value
      more y m = ⊎_elim (s.storable Bindings y) (λ (k : y ∈ d ∷ []). rw (Memᴰ.eq_of_singleton k) v) (Memᴰ.append_cases (reverse st.bindings) m)

-- The part: another, with other positions and frames.
module _ {b : List ℕ} {i : ℕ} {x : Rest} {st : Stores} {u : machine.Tree} (s : StateAt b i x st u) (w : machine.Tree) (ts : List machine.Tree) where
  changed : {c : List ℕ} → PartAt (map root_entry ts) i x.before w x.after → length ts ≤ POSITIONS
      → ((t : machine.Tree) → t ∈ ts → Storable (returned t)) → (fs : List Frame) → fs ≡ around x (frames_of w)
      → frame_count w + length x.outer + length x.later ≤ FRAMES → c ≡ bytes (laid (with_positions (with_frames (lies s) fs) ts)) → StateAt c i x st w
  changed p room k fs e l is =
      let long : length (around x (frames_of w)) ≤ FRAMES = omega (arith, length-append x.outer (frames_of w ++ x.later), length-append (frames_of w) x.later, frames_many w) in
      record {
        positions = ts;
        there = p;
        start = s.start;
        block = is ∙ ap (λ (gs : List Frame). bytes (laid (with_positions (with_frames (lies s) gs) ts))) e;
        few = few_positions (with_frames (lies s) (around x (frames_of w))) ts (few_frames (lies s) (around x (frames_of w)) s.few long) room;
        storable = storable_positions (with_frames (lies s) (around x (frames_of w))) (storable_frames (lies s) s.storable (around x (frames_of w))) ts k;
      }

entry_of : (w : machine.Tree) (cell : Cell) (n : ℕ) → cell_of w ≡ cell → length (waiting w) ≡ n → record { cell = cell; frames = n } ≡ root_entry w
entry_of w cell n e f = rw (← e, ← f)

-- the value of a thread, by its cell
cell_storable : (w : machine.Tree) (cell : Cell) → cell_of w ≡ cell → Storable (result_of cell) → Storable (returned w)
cell_storable w cell e v = rw (returned_entry w, e) v

-- what put_entry and put_tree ensure, of the bytes b before and c after
abbrev pub Puts : List ℕ → List ℕ → ℕ → Entry → Type 0
Puts b c i y = (p : Parts) (t : machine.Tree) → b ≡ bytes (laid p) → i < length p.positions → y ≡ root_entry t → c ≡ bytes (laid (with_positions p (set p.positions i t)))

abbrev pub Writes : List ℕ → List ℕ → Tree → Type 0
Writes b c self = (p : Parts) (ts : List machine.Tree) → b ≡ bytes (laid p) → map root_entry ts ≡ used self → c ≡ bytes (laid (with_positions p ts))

-- one position put: the part, which is a thread, is another thread
module _ {b : List ℕ} {i : ℕ} {x : Rest} {st : Stores} {u : machine.Tree} (s : StateAt b i x st u) (one : size u ≡ 1) (w : machine.Tree) (too : size w ≡ 1) where
  abbrev one_put : List machine.Tree
  one_put = set s.positions i w

  put_part : PartAt (map root_entry one_put) i x.before w x.after
  put_part =
      record {
        is = sym (map_set root_entry s.positions i w) ∙ part_set s.there one (root_entry w) ∙ ap (λ (l : List Entry). x.before ++ (l ++ x.after)) (sym (entries_thread w too));
        place = s.there.place;
      }

  position_inside : i < length s.positions
  position_inside = omega (arith, part_inside s.there, size_some u, length-map s.positions root_entry)

  put_storable : Storable (returned w) → (t : machine.Tree) → t ∈ one_put → Storable (returned t)
  put_storable v t m = ⊎_elim (λ (e : t ≡ w). rw e v) (s.storable Positions t) (set_in s.positions i w t m)

  put_few : length one_put ≤ POSITIONS
  put_few = rw (length-set s.positions i w, ← length-map s.positions position_words) (s.few Positions)

-- the tree put: the part is another one
module _ {b : List ℕ} {i : ℕ} {x : Rest} {st : Stores} {u : machine.Tree} (s : StateAt b i x st u) (w : machine.Tree) (r : Tree) (bounded : Bounded r) (now : PartAt (used r) i x.before w x.after) where
  abbrev part_put : List machine.Tree
  part_put = take i s.positions ++ (preorder w ++ drop (i + size u) s.positions)

  put_same : map root_entry part_put ≡ x.before ++ (tree_entries w ++ x.after)
  put_same =
      let ps = s.positions in
      map-append root_entry (take i ps) (preorder w ++ drop (i + size u) ps)
      ∙ rw (
        map-append root_entry (preorder w) (drop (i + size u) ps),
        map_take root_entry i ps,
        map_drop root_entry (i + size u) ps,
        part_before s.there,
        part_after s.there,
      )

  put_used : map root_entry part_put ≡ used r
  put_used = put_same ∙ sym now.is

  put_there : PartAt (map root_entry part_put) i x.before w x.after
  put_there = record { is = put_same; place = now.place }

  part_storable : Every (λ (t : machine.Tree). Storable (returned t)) (preorder w) → (t : machine.Tree) → t ∈ part_put → Storable (returned t)
  part_storable v t m =
      ⊎_elim (every_in (λ (u : machine.Tree). Storable (returned u)) (preorder w) v t)
      (s.storable Positions t) (exchanged_in s.positions i (i + size u) (preorder w) t m)

  put_room : length part_put ≤ POSITIONS
  put_room = omega (arith, ap length put_used, length-map part_put root_entry, used_length r bounded, bounded.small)

-- frames as they are, of a part with as many
module _ {b : List ℕ} {i : ℕ} {x : Rest} {st : Stores} {u : machine.Tree} (s : StateAt b i x st u) (w : machine.Tree) (e : frames_of u ≡ frames_of w) where
  same_room : frame_count w + length x.outer + length x.later ≤ FRAMES
  same_room = omega (arith, frames_counted s, seen_few s Frames, frames_many u, frames_many w, ap length e)

module _ {b c : List ℕ} {i : ℕ} {x : Rest} {st : Stores} where
  -- set_cell
  pub settled : {u w : machine.Tree} (cell : Cell) (n : ℕ) → n ≡ (entry_at b i).frames → Puts b c i (record { cell = cell; frames = n }) → Storable (result_of cell) → size u ≡ 1 → size w ≡ 1 → cell_of w ≡ cell
      → waiting w ≡ waiting u → StateAt b i x st u → StateAt c i x st w
  settled {u} {w} cell n m put v one too e f s =
      let same : frames_of u ≡ frames_of w = frames_thread u one ∙ ap reverse (sym f) ∙ sym (frames_thread w too) in
      let entry : record { cell = cell; frames = n } ≡ root_entry w = entry_of w cell n e (ap length f ∙ sym (m ∙ seen_waiting s)) in
      changed s w (one_put s one w too) (put_part s one w too) (put_few s one w too) (put_storable s one w too (cell_storable w cell e v)) (around x (frames_of u)) (ap (around x) same) (same_room s w same)
      (put (lies s) w s.block (position_inside s one w too) entry)

  -- fork
  pub forks : {a₀ e₀ : ℕ} {fs : List Frame} (self r : Tree) (a d k e : ℕ) → used self ≡ entries_in b → Forked self i a d k e r → Writes b c r → StateAt b i x st (running a₀ e₀ fs)
      → StateAt c i x st (join fs k e (running a e []) (running d e []))
  unfolding preorder
  forks {a₀} {e₀} {fs} self r a d k e is p put s =
      let t = join fs k e (running a e []) (running d e []) in
      let same : frames_of (running a₀ e₀ fs) ≡ frames_of t =
      frames_thread (running a₀ e₀ fs) refl
      ∙ sym (frames_join fs k e (running a e []) (running d e []) ∙ rw (frames_thread (running a e []) refl, frames_thread (running d e []) refl) (append-nil (reverse fs)))
      in
      let was : PartAt (used self) i x.before (running a₀ e₀ fs) x.after = rw is (seen_part s) in
      let now : PartAt (used r) i x.before t x.after = p.now refl was in
      changed s t (part_put s t r p.bounded now) (put_there s t r p.bounded now) (put_room s t r p.bounded now) (part_storable s t r p.bounded now _) (around x (frames_of (running a₀ e₀ fs))) (ap (around x) same) (same_room s t same)
      (put (lies s) (part_put s t r p.bounded now) s.block (put_used s t r p.bounded now))

  -- rejoin
  pub rejoins : {fs : List Frame} {a e : ℕ} {left right : machine.Tree} (self r : Tree) → used self ≡ entries_in b → Joined self i r → Writes b c r → frames_of left ≡ [] → frames_of right ≡ []
      → StateAt b i x st (join fs a e left right) → StateAt c i x st (running a e fs)
  unfolding preorder
  rejoins {fs} {a} {e} {left} {right} self r is p put l k s =
      let t = running a e fs in
      let same : frames_of (join fs a e left right) ≡ frames_of t = frames_join fs a e left right ∙ rw (l, k) (append-nil (reverse fs)) ∙ sym (frames_thread t refl) in
      let was : PartAt (used self) i x.before (join fs a e left right) x.after = rw is (seen_part s) in
      let now : PartAt (used r) i x.before t x.after = p.now was in
      changed s t (part_put s t r p.bounded now) (put_there s t r p.bounded now) (put_room s t r p.bounded now) (part_storable s t r p.bounded now _) (around x (frames_of (join fs a e left right))) (ap (around x) same) (same_room s t same)
      (put (lies s) (part_put s t r p.bounded now) s.block (put_used s t r p.bounded now))

module _ {b c d : List ℕ} {i : ℕ} {x : Rest} {st : Stores} where
  -- push
  pub pushed : {a₀ e₀ : ℕ} {fs : List Frame} (at n a e : ℕ) (f : Frame) → counted b Frames < FRAMES → n ≡ (entry_at b i).frames → at ≡ frame_sum (take i (entries_in b)) + n → Inserts b c at f
      → Puts c d i (record { cell = Running a e; frames = n + 1 }) → StateAt b i x st (running a₀ e₀ fs) → StateAt d i x st (running a e (f ∷ fs))
  pushed {a₀} {e₀} {fs} at n a e f room m h ins put s =
      let u = running a₀ e₀ fs in
      let w = running a e (f ∷ fs) in
      let entry : record { cell = Running a e; frames = n + 1 } ≡ root_entry w = entry_of w (Running a e) (n + 1) refl (omega (arith, m, seen_waiting s)) in
      let here : at ≡ length x.outer + length (reverse fs) = omega (arith, h, m, seen_waiting s, frames_begin s, length-reverse fs) in
      let now : take at (around x (frames_of u)) ++ f ∷ drop at (around x (frames_of u)) ≡ around x (frames_of w) =
      rw (frames_thread u refl, frames_thread w refl, reverse-cons f fs) (put_in x.outer (reverse fs) x.later at here f)
      in
      changed s w (one_put s refl w refl) (put_part s refl w refl) (put_few s refl w refl) (put_storable s refl w refl _) _ now (omega (arith, frames_counted s, room))
      (put (with_frames (lies s) (take at (around x (frames_of u)) ++ f ∷ drop at (around x (frames_of u)))) w (ins (lies s) s.block) (position_inside s refl w refl) entry)

  -- pop
  pub popped : {w : machine.Tree} {v : Value} {f : Frame} {fs : List Frame} (at n : ℕ) (cell : Cell) → n + 1 ≡ (entry_at b i).frames → at ≡ frame_sum (take i (entries_in b)) + n → Removes b c at 1
      → Puts c d i (record { cell = cell; frames = n }) → Storable (result_of cell) → size w ≡ 1 → cell_of w ≡ cell → waiting w ≡ fs
      → StateAt b i x st (returning v (f ∷ fs)) → StateAt d i x st w
  popped {w} {v} {f} {fs} at n cell m h rem put value one e k s =
      let u = returning v (f ∷ fs) in
      let entry : record { cell = cell; frames = n } ≡ root_entry w = entry_of w cell n e (ap length k ∙ omega (arith, m, seen_waiting s)) in
      let here : at ≡ length x.outer + length (reverse fs) = omega (arith, h, m, seen_waiting s, frames_begin s, length-reverse fs) in
      let now : take at (around x (frames_of u)) ++ drop (at + 1) (around x (frames_of u)) ≡ around x (frames_of w) =
      rw (frames_thread u refl, frames_thread w one, k, reverse-cons f fs) (taken_out x.outer (reverse fs) x.later at here (f ∷ []) 1 refl)
      in
      changed s w (one_put s refl w one) (put_part s refl w one) (put_few s refl w one) (put_storable s refl w one (cell_storable w cell e value)) _ now (omega (arith, frames_counted s, seen_few s Frames, thread_frames w one, ap length k))
      (put (with_frames (lies s) (take at (around x (frames_of u)) ++ drop (at + 1) (around x (frames_of u)))) w (rem (lies s) s.block) (position_inside s refl w one) entry)
    where
      thread_frames : (t : machine.Tree) → size t ≡ 1 → frame_count t ≡ length (waiting t)
      thread_frames t z = sym (frames_many t) ∙ ap length (frames_thread t z) ∙ length-reverse (waiting t)

  -- fail
  pub fails : {u : machine.Tree} (self r : Tree) (at k : ℕ) → at ≡ frame_sum (take i (entries_in b)) → FramesWithin (entries_in b) i k → used self ≡ entries_in b → Failing self i r → Removes b c at k → Writes c d r
      → StateAt b i x st u → StateAt d i x st failed
  unfolding preorder
  fails {u} self r at k h many is p rem put s =
      let none : frames_of failed ≡ [] = frames_thread failed refl in
      let here : at ≡ length x.outer + length {A = Frame} [] = omega (arith, h, frames_begin s) in
      let long : k ≡ length (frames_of u) = many.part (seen_part s) ∙ sym (frames_many u) in
      let now : take at (around x (frames_of u)) ++ drop (at + k) (around x (frames_of u)) ≡ around x (frames_of failed) =
      rw none (taken_out x.outer [] x.later at here (frames_of u) k long)
      in
      let was : PartAt (used self) i x.before u x.after = rw is (seen_part s) in
      let there : PartAt (used r) i x.before failed x.after = p.now was in
      changed s failed (part_put s failed r p.bounded there) (put_there s failed r p.bounded there) (put_room s failed r p.bounded there) (part_storable s failed r p.bounded there _) _ now (omega (arith, frames_counted s, seen_few s Frames))
      (put (with_frames (lies s) (take at (around x (frames_of u)) ++ drop (at + k) (around x (frames_of u)))) (part_put s failed r p.bounded there) (rem (lies s) s.block) (put_used s failed r p.bounded there))

-- other frames leave the positions
pub frames_few : {b c : List ℕ} {i : ℕ} {x : Rest} {st : Stores} {u : machine.Tree} → StateAt b i x st u
    → ((p : Parts) → b ≡ bytes (laid p) → (fs : List Frame) × (c ≡ bytes (laid (with_frames p fs)))) → counted c Positions ≤ POSITIONS
frames_few s other =
    let now = other (lies s) s.block in
    rw now.1 (rw (count_is_lem (with_frames (lies s) now.0) Positions) (s.few Positions))

-- top_frame
pub top_read : {b : List ℕ} {i : ℕ} {x : Rest} {st : Stores} {u : machine.Tree} {g f : Frame} {fs : List Frame} (at n : ℕ)
    → n + 1 ≡ (entry_at b i).frames → at ≡ frame_sum (take i (entries_in b)) + n → Reads b at g → waiting u ≡ f ∷ fs → StateAt b i x st u → g ≡ f
top_read {x = x} {st} {u} {g} {f} {fs} at n m h reads e s =
    let k : length (waiting u) ≡ suc (length fs) = ap length e in
    let here : at ≡ length x.outer + length (reverse fs) = omega (arith, h, m, seen_waiting s, frames_begin s, length-reverse fs) in
    let mine : frames_of u ≡ reverse fs ++ f ∷ beneath u = frames_first u ∙ rw (e, reverse-cons f fs) (append_snoc (reverse fs) f (beneath u)) in
    let whole : around x (frames_of u) ≡ around x (reverse fs ++ f ∷ beneath u) = ap (around x) mine in
    let l : at < length (around x (frames_of u)) =
    omega (arith, length-append x.outer (frames_of u ++ x.later), length-append (frames_of u) x.later, ap length mine, length-append (reverse fs) (f ∷ beneath u))
    in
    reads (lies s) s.block l
    ∙ ap (λ (l : List Frame). get_or l at (awaits 0 0)) whole
    ∙ got x.outer (reverse fs) x.later at here f (awaits 0 0) (beneath u)
