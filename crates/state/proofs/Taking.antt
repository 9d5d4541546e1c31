-- The tree taken out of the block: each position read from its words, and the array filled with the positions from the front.
use mathlib.Core.Path.{◌≡◌, refl, sym, ap, ◌∙◌}
use mathlib.Core.Bool.{Bool, true, false, cond}
use mathlib.Core.List.{List, [], ◌∷◌, ◌++◌, map}
use Prim.Native.Nat.{ℕ, ◌+◌, ◌<◌, ◌≤◌}
use native.Mathlib.Numerals.{add-one}
use native.Mathlib.Omega.{arith}
use borrow.Author.Tests.{ne_eqb}
use lib.Dec.{eqb}
use lib.ListN.{length, get_or, set, take, drop, replicate, length-map, length-replicate, get_or-map}
use lib.Seq.{take_all, take-suc, ext_get_or}
use Rattle.words.specs.Word.{bytes}
use Rattle.limits.specs.Limits.{POSITIONS}
use Rattle.script.proofs.Lists.{length_run, get_d_run}
use Rattle.machine.specs.declared.Value.{Value}
use Rattle.machine.specs.Config as machine
use Rattle.machine.specs.Config.{running, returning, failed, join}
use Rattle.block.specs.declared.Area.TheVariants.{Positions}
use Rattle.block.specs.Rows.{word_of}
use Rattle.block.specs.Layout.{counted, word_in, width, KIND, NODE, ENV, RESULT, WAITING, RUNNING, RETURNING, JOIN}
use Rattle.block.specs.Values.{Storable}
use Rattle.block.specs.Fits.{StorableIn}
use Rattle.block.specs.Block.{returned, position_words, Parts, laid}
use Rattle.block.proofs.Rows.{row_at_lem}
use Rattle.block.proofs.Words.{count_is_lem, word_is}
use Rattle.block.proofs.Values.{value_same, value_back, value_after}
use Rattle.representation.proofs.Ordered.{at_in}
use Rattle.tree.specs.declared.Cell.{Cell}
use Rattle.tree.specs.declared.Cell.TheVariants.{Failed, Running, Returning, Join}
use Rattle.tree.specs.declared.Entry.{Entry}
use Rattle.tree.specs.declared.Tree.{Tree}
use Rattle.tree.specs.Entries.{root_entry, beneath_cell, blank, used, result_of, Worded}
use Rattle.tree.proofs.Lists.{over_turn, over_length, over_take}
use Rattle.tree.proofs.Parts.{used_length}
use Rattle.tree.proofs.Worded.{every_append}
use Rattle.state.specs.Positions.{cell_from, entry_from, entry_at, entries_in, Taken}

-- what the words of a position say
module _ (k a e : ℕ) (v : Value) where
  pub running_said : k ≡ RUNNING → Running a e ≡ cell_from k a e v
  running_said h = rw h

  pub returning_said : k ≡ RETURNING → Returning v ≡ cell_from k a e v
  returning_said h = rw h

  pub join_said : k ≡ JOIN → Join a e ≡ cell_from k a e v
  join_said h = rw h

  pub failed_said : (k ≡ RUNNING → ⊥) → (k ≡ RETURNING → ⊥) → (k ≡ JOIN → ⊥) → Failed ≡ cell_from k a e v
  failed_said f g h = rw (ne_eqb k RUNNING f, ne_eqb k RETURNING g, ne_eqb k JOIN h)

-- the words of a tree's root say its entry
pub entry_back : (t : machine.Tree) → Storable (returned t) → entry_from (word_of (position_words t)) ≡ root_entry t
entry_back (running a e fs) s = refl
entry_back (returning v fs) s =
    let row = RETURNING ∷ 0 ∷ 0 ∷ [] in
    let n = value_after row v (length fs ∷ []) 0 in
    rw (value_back row v (length fs ∷ []) s, n)
entry_back failed s = refl
entry_back (join fs a e l r) s = refl

same_entry : (w x : ℕ → ℕ) → ((j : ℕ) → j < width Positions → w j ≡ x j) → entry_from w ≡ entry_from x
same_entry w x h = rw (h KIND (omega arith), h NODE (omega arith), h ENV (omega arith), value_same w x RESULT (λ m l. h (RESULT + m) (omega arith)), h WAITING (omega arith))

-- the value of a position that is read from words is a word
pub storable_cell : (x : Cell) (k a e : ℕ) (v : Value) → x ≡ cell_from k a e v → Storable v → Storable (result_of x)
storable_cell x k a e v q h = rw q (go (eqb k RUNNING) (eqb k RETURNING) (eqb k JOIN))
  where
    go : (x y z : Bool) → Storable (result_of (cond x (Running a e) (cond y (Returning v) (cond z (Join a e) Failed))))
    go true y z = _
    go false true z = h
    go false false true = _
    go false false false = _

-- how many trees stand beneath a position, by its kind
pub beneath_join : (k a e : ℕ) (v : Value) → k ≡ JOIN → 2 ≡ beneath_cell (cell_from k a e v)
beneath_join k a e v h = rw h

pub beneath_none : (k a e : ℕ) (v : Value) → (k ≡ JOIN → ⊥) → 0 ≡ beneath_cell (cell_from k a e v)
beneath_none k a e v h = rw (ne_eqb k JOIN h) (go (eqb k RUNNING) (eqb k RETURNING))
  where
    go : (x y : Bool) → 0 ≡ beneath_cell (cond x (Running a e) (cond y (Returning v) Failed))
    go true y = refl
    go false true = refl
    go false false = refl

-- the positions of the bytes b
module _ (b : List ℕ) where
  pub entries_many : length (entries_in b) ≡ counted b Positions
  entries_many = length_run (entry_at b) 0 (counted b Positions)

  pub entry_there : (k : ℕ) → k < counted b Positions → get_or (entries_in b) k blank ≡ entry_at b k
  entry_there k h = let z : 0 + k ≡ k = omega arith in get_d_run (entry_at b) 0 (counted b Positions) k blank h ∙ ap (entry_at b) z

  -- what the positions of laid parts say
  module _ (p : Parts) (is : b ≡ bytes (laid p)) (few : counted b Positions ≤ POSITIONS) (storable : StorableIn p Positions) where
    positions_many : counted b Positions ≡ length p.positions
    positions_many = rw is (count_is_lem p Positions ∙ length-map p.positions position_words)

    word_said : (i : ℕ) → i < POSITIONS → i < length p.positions → (j : ℕ) → j < width Positions → word_in b Positions i j ≡ get_or (position_words (get_or p.positions i failed)) j 0
    word_said i room l j hj = rw is (word_is p Positions i j room hj ∙ ap (λ (r : List ℕ). get_or r j 0) (row_at_lem position_words p.positions i failed l))

    pub entries_said : entries_in b ≡ map root_entry p.positions
    entries_said =
        let q = positions_many in
        ext_get_or blank (entries_in b) (map root_entry p.positions) (entries_many ∙ q ∙ sym (length-map p.positions root_entry))
        (λ i l.
        let k : i < counted b Positions = omega (arith, entries_many) in
        entry_there i k
        ∙ same_entry (word_in b Positions i) (λ j. get_or (position_words (get_or p.positions i failed)) j 0) (word_said i (omega arith) (omega arith))
        ∙ entry_back (get_or p.positions i failed) (storable (get_or p.positions i failed) (at_in p.positions i failed (omega arith)))
        ∙ sym (get_or-map root_entry p.positions i failed))

  -- how far an array is filled with the first n positions
  pub record Filling (n : ℕ) (out : List Entry) (i : ℕ) : Type 0 where
    pub few : n ≤ POSITIONS
    pub many : n ≡ counted b Positions
    pub inside : i ≤ n
    pub filled : out ≡ take i (entries_in b) ++ drop i (replicate POSITIONS blank)
    pub worded : Worded (take i (entries_in b))

  pub fill_more : (n : ℕ) (out new : List Entry) (i : ℕ) (x : Entry) → i < n → Filling n out i → x ≡ entry_at b i → Storable (result_of x.cell) → new ≡ set out i x → Filling n new (i + 1)
  fill_more n out new i x l f e v s =
      let few = f.few in
      let h : i < counted b Positions = omega (arith, f.many) in
      let at : x ≡ get_or (entries_in b) i blank = e ∙ sym (entry_there i h) in
      let k : i < length (entries_in b) = omega (arith, entries_many) in
      let word : Storable (result_of (get_or (entries_in b) i blank).cell) = rw at at v in
      record {
        few = f.few;
        many = f.many;
        inside = omega arith;
        filled = s ∙ ap (λ (o : List Entry). set o i x) f.filled ∙ over_turn (entries_in b) (replicate POSITIONS blank) blank x i k (omega (arith, length-replicate POSITIONS blank)) at;
        worded = rw (add-one i, take-suc (entries_in b) i blank k) (every_append _ (take i (entries_in b)) (get_or (entries_in b) i blank ∷ []) f.worded (word, _));
      }

  -- the array filled is the block's tree
  pub taken : (n : ℕ) (r : Tree) → r.len ≡ n → Filling n r.entries n → Taken b r
  taken n r len f =
      let few = f.few in
      let long : length (entries_in b) ≡ n = entries_many ∙ sym f.many in
      let room : length (replicate POSITIONS blank) ≡ POSITIONS = length-replicate POSITIONS blank in
      let same : used r ≡ entries_in b =
      rw len (ap (take n) f.filled ∙ over_take (entries_in b) (replicate POSITIONS blank) n (omega (arith, long)) ∙ take_all n (entries_in b) (omega (arith, long)))
      in
      record {
        bounded = record {
          small = omega arith;
          whole = ap length f.filled ∙ over_length (entries_in b) (replicate POSITIONS blank) n (omega (arith, long)) (omega (arith, room)) ∙ room;
        };
        same = same;
        worded = rw same (rw (take_all n (entries_in b) (omega (arith, long))) at f.worded);
      }

pub taken_len : {b : List ℕ} {r : Tree} → Taken b r → r.len ≡ counted b Positions
taken_len {b} {r} t = omega (arith, used_length r t.bounded, ap length t.same, entries_many b)
