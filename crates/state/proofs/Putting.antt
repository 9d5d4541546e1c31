-- Positions written into the block: the words of each, records written one after the other, the positions of the block exchanged, and one of them.
use mathlib.Core.Path.{◌≡◌, refl, sym, ap, ◌∙◌}
use mathlib.Core.List.{List, [], ◌∷◌, ◌++◌, append_assoc, append-nil, map, flatten}
use Prim.Native.Nat.{ℕ, zero, suc, ◌+◌, ◌*◌, ◌-◌, ◌<◌, ◌≤◌}
use native.Mathlib.Omega.{arith}
use lib.ListN.{length, get_or, set, take, replicate, length-append, length-map, replicate-append-replicate, get_or-map, get_or-eq_default}
use lib.Seq.{sets, sets-eq, take-suc, length-take-le, get_or-take, drop_at}
use Rattle.words.specs.Word.{bytes}
use Rattle.slices.specs.Put.{put_word}
use Rattle.slices.proofs.Laws.{put_bytes}
use Rattle.limits.specs.Limits.{POSITIONS}
use Rattle.machine.specs.declared.Value.{Value}
use Rattle.machine.specs.Config as machine
use Rattle.machine.specs.Config.{failed}
use Rattle.block.specs.declared.Area.TheVariants.{Positions}
use Rattle.block.specs.Rows.{filled}
use Rattle.block.specs.Layout.{WORDS, width, begins, counted, count_word, count_byte, word_byte}
use Rattle.block.specs.Values.{value_words}
use Rattle.block.specs.Block.{position_words, Parts, rows, area, header_words, laid}
use Rattle.representation.proofs.Changes.{put_words_bytes, map_set, sets_all, put_words_lem}
use Rattle.block.proofs.Rows.{Wide, row_at_lem, filled_nil, set_filled, sets_inside}
use Rattle.block.proofs.Values.{value_width, value_listed}
use Rattle.block.proofs.Words.{position_width, count_is_lem, rows_wide, length_area, ahead, behind, apart, before_length}
use Rattle.tree.specs.declared.Cell.{Cell}
use Rattle.tree.specs.declared.Cell.TheVariants.{Failed, Running, Returning, Join}
use Rattle.tree.specs.declared.Entry.{Entry}
use Rattle.tree.specs.declared.Tree.{Tree}
use Rattle.tree.specs.Entries.{root_entry, blank, used, Bounded}
use Rattle.tree.proofs.Parts.{used_length}
use Rattle.tree.proofs.EntryWords.{cell_words, entry_words, words_entry}
use Rattle.state.specs.Positions.{row_at, with_positions}

-- the words of a position, one after the other, and by its cell
pub row_listed : (k a e : ℕ) (v : Value) (n : ℕ) (w : List ℕ) → w ≡ value_words v → k ∷ a ∷ e ∷ get_or w 0 0 ∷ get_or w 1 0 ∷ get_or w 2 0 ∷ n ∷ [] ≡ k ∷ a ∷ e ∷ (value_words v ++ n ∷ [])
row_listed k a e v n w h = rw h (ap (λ (ws : List ℕ). k ∷ a ∷ e ∷ (ws ++ n ∷ [])) (value_listed v))

row_width : (c : Cell) (n : ℕ) → length (cell_words c n) ≡ width Positions
row_width Failed n = refl
row_width (Running a e) n = refl
row_width (Returning v) n = omega (arith, length-append (value_words v) (n ∷ []), value_width v)
row_width (Join a e) n = refl

pub row_said : (x : Entry) (c : Cell) (r : List ℕ) → x.cell ≡ c → r ≡ cell_words c x.frames → (length r ≡ width Positions) × ((t : machine.Tree) → x ≡ root_entry t → r ≡ position_words t)
row_said x c r e is =
    (ap length is ∙ row_width c x.frames, λ t h. is ∙ ap (λ (k : Cell). cell_words k x.frames) (sym e) ∙ ap entry_words h ∙ words_entry t)

-- element i of a list of which each is put into a row
row_in : {A B : Type 0} (f : A → B) (xs : List A) (i : ℕ) (y : B) (d : A) → i < length xs → get_or (map f xs) i y ≡ f (get_or xs i d)
row_in f [] i y d h = absurd (omega arith)
row_in f (x ∷ xs) zero y d h = refl
row_in f (x ∷ xs) (suc i) y d h = row_in f xs i y d (omega arith)

module _ (self : Tree) (bounded : Bounded self) (ts : List machine.Tree) (is : map root_entry ts ≡ used self) where
  -- the tree has as many records as positions
  records_many : length (map position_words ts) ≡ self.len
  records_many = omega (arith, used_length self bounded, ap length is, length-map ts position_words, length-map ts root_entry)

  pub row_past : (i : ℕ) → self.len ≤ i → replicate (width Positions) 0 ≡ row_at ts i
  row_past i h = sym (get_or-eq_default (map position_words ts) (replicate (width Positions) 0) {n = i} (omega (arith, records_many)))

  pub row_there : (i : ℕ) (r : List ℕ) → i < self.len → ((u : machine.Tree) → get_or self.entries i blank ≡ root_entry u → r ≡ position_words u) → r ≡ row_at ts i
  row_there i r h said =
      let u = get_or ts i failed in
      let l : i < length ts = omega (arith, records_many, length-map ts position_words) in
      let e : get_or self.entries i blank ≡ root_entry u =
      sym (get_or-take self.len self.entries i blank h) ∙ ap (λ (es : List Entry). get_or es i blank) (sym is) ∙ get_or-map root_entry ts i failed
      in
      said u e ∙ sym (row_in position_words ts i (replicate (width Positions) 0) failed l)

-- words set one after the other
sets_append : (l : List ℕ) (n : ℕ) (a b : List ℕ) → sets l n (a ++ b) ≡ sets (sets l n a) (n + length a) b
sets_append l n [] b = let z : n + 0 ≡ n = omega arith in rw z
sets_append l n (v ∷ a) b = let z : n + suc (length a) ≡ suc n + length a = omega arith in rw z (sets_append (set l n v) (suc n) a b)

-- put_row: one word more
pub word_put : (b c ws row : List ℕ) (i j v : ℕ) → length row ≡ width Positions → j < width Positions → v ≡ get_or row j 0
    → b ≡ bytes (sets ws (begins Positions + width Positions * i) (take j row))
    → c ≡ put_word b (word_byte Positions i j) v
    → c ≡ bytes (sets ws (begins Positions + width Positions * i) (take (j + 1) row))
word_put b c ws row i j v long h e is put =
    let n = begins Positions + width Positions * i in
    let m : length (take j row) ≡ j = length-take-le j row (omega arith) in
    let s : j + 1 ≡ suc j = omega arith in
    put
    ∙ ap (λ (x : List ℕ). put_word x (word_byte Positions i j) v) is
    ∙ put_bytes (sets ws n (take j row)) (n + j) v
    ∙ ap bytes (ap (λ (k : ℕ). set (sets ws n (take j row)) (n + k) v) (sym m) ∙ sym (sets_append ws n (take j row) (v ∷ [])) ∙ rw (s, take-suc row j 0 (omega arith), e))

-- n records of five words: those of the rows, and zeros where no row is
abbrev records : List (List ℕ) → ℕ → List ℕ
records rs zero = []
records [] (suc n) = replicate (width Positions) 0 ++ records [] n
records (r ∷ rs) (suc n) = r ++ records rs n

records_next : (rs : List (List ℕ)) (n : ℕ) → records rs (suc n) ≡ records rs n ++ get_or rs n (replicate (width Positions) 0)
records_next [] zero = append-nil (replicate (width Positions) 0)
records_next [] (suc n) = ap (λ (l : List ℕ). replicate (width Positions) 0 ++ l) (records_next [] n) ∙ sym (append_assoc (replicate (width Positions) 0) (records [] n) (replicate (width Positions) 0))
records_next (r ∷ rs) zero = append-nil r
records_next (r ∷ rs) (suc n) = ap (λ (l : List ℕ). r ++ l) (records_next rs n) ∙ sym (append_assoc r (records rs n) (get_or rs n (replicate (width Positions) 0)))

records_length : (rs : List (List ℕ)) → Wide (width Positions) rs → (n : ℕ) → length (records rs n) ≡ width Positions * n
records_length rs w zero = refl
records_length [] w (suc n) = length-append (replicate (width Positions) 0) (records [] n) ∙ omega (arith, records_length [] w n)
records_length (r ∷ rs) w (suc n) = length-append r (records rs n) ∙ omega (arith, w 0 (omega arith), records_length rs (λ i h. w (suc i) (omega arith)) n)

filled_front : (r ws : List ℕ) (k m : ℕ) → length r ≡ k → filled (k + m) (r ++ ws) ≡ r ++ filled m ws
unfolding filled
filled_front [] ws k m e = let z : k + m ≡ m = omega arith in rw z
filled_front (x ∷ r) ws k m e = let z : k + m ≡ suc (length r + m) = omega arith in rw z (ap (λ (l : List ℕ). x ∷ l) (filled_front r ws (length r) m refl))

-- so an area is laid
records_laid : (rs : List (List ℕ)) → Wide (width Positions) rs → (n : ℕ) → filled (width Positions * n) (flatten rs) ≡ records rs n
unfolding filled flatten
records_laid rs w zero = refl
records_laid [] w (suc n) =
    let z : width Positions * suc n ≡ width Positions + width Positions * n = omega arith in
    rw z
    (filled_nil (width Positions + width Positions * n)
    ∙ sym (replicate-append-replicate (width Positions) (width Positions * n) 0)
    ∙ ap (λ (l : List ℕ). replicate (width Positions) 0 ++ l) (sym (filled_nil (width Positions * n)) ∙ records_laid [] w n))
records_laid (r ∷ rs) w (suc n) =
    let z : width Positions * suc n ≡ width Positions + width Positions * n = omega arith in
    rw z (filled_front r (flatten rs) (width Positions) (width Positions * n) (w 0 (omega arith)) ∙ ap (λ (l : List ℕ). r ++ l) (records_laid rs (λ i h. w (suc i) (omega arith)) n))

-- where no row is, all is zeros
records_none : (k : ℕ) → records [] k ≡ replicate (width Positions * k) 0
records_none zero = refl
records_none (suc k) =
    let z : width Positions * suc k ≡ width Positions + width Positions * k = omega arith in
    rw (z, ← replicate-append-replicate {A = ℕ} (width Positions) (width Positions * k) 0) (ap (λ (l : List ℕ). replicate (width Positions) 0 ++ l) (records_none k))

records_past : (rs : List (List ℕ)) (m k : ℕ) → length rs ≤ m → records rs (m + k) ≡ records rs m ++ replicate (width Positions * k) 0
records_past [] zero k h = let z : 0 + k ≡ k = omega arith in rw z (records_none k)
records_past (r ∷ rs) zero k h = absurd (omega arith)
records_past [] (suc m) k h =
    let z : suc m + k ≡ suc (m + k) = omega arith in
    rw (z, records_past [] m k (omega arith)) (sym (append_assoc (replicate (width Positions) 0) (records [] m) (replicate (width Positions * k) 0)))
records_past (r ∷ rs) (suc m) k h =
    let z : suc m + k ≡ suc (m + k) = omega arith in
    rw (z, records_past rs m k (omega arith)) (sym (append_assoc r (records rs m) (replicate (width Positions * k) 0)))

-- m rows put over an area with at most m others: what is after them is zeros before and after
area_put : (rs qs : List (List ℕ)) → Wide (width Positions) rs → Wide (width Positions) qs → (m : ℕ) → length rs ≤ m → length qs ≤ m → m ≤ POSITIONS
    → sets (area Positions rs) 0 (records qs m) ≡ area Positions qs
unfolding area
area_put rs qs w v m h k l =
    let n = POSITIONS - m in
    let all : POSITIONS ≡ m + n = omega arith in
    let long : length (records rs m) ≡ length (records qs m) = records_length rs w m ∙ sym (records_length qs v m) in
    let was : filled (width Positions * POSITIONS) (flatten rs) ≡ records rs m ++ replicate (width Positions * n) 0 =
    records_laid rs w POSITIONS ∙ ap (records rs) all ∙ records_past rs m n h
    in
    let now : filled (width Positions * POSITIONS) (flatten qs) ≡ records qs m ++ replicate (width Positions * n) 0 =
    records_laid qs v POSITIONS ∙ ap (records qs) all ∙ records_past qs m n k
    in
    let room : 0 + length (records qs m) ≤ length (records rs m ++ replicate (width Positions * n) 0) = omega (arith, long, length-append (records rs m) (replicate (width Positions * n) 0)) in
    rw (was, now)
    (sets-eq (records qs m) (records rs m ++ replicate (width Positions * n) 0) 0 room
    ∙ ap (λ (z : List ℕ). records qs m ++ z) (drop_at (records rs m) (replicate (width Positions * n) 0) (0 + length (records qs m)) (omega (arith, long))))

-- the positions of a block exchanged for others, words and count
module _ (old : Parts) (qs : List machine.Tree) (m : ℕ) (h : length old.positions ≤ m) (k : length qs ≤ m) (l : m ≤ POSITIONS) where
  abbrev new : Parts
  new = with_positions old qs

  abbrev front : List ℕ
  front = header_words old ++ ahead old Positions

  positions_set : sets (laid old) (begins Positions) (records (map position_words qs) m) ≡ filled WORDS (front ++ (area Positions (rows new Positions) ++ behind old Positions))
  positions_set =
      let was : List ℕ = area Positions (rows old Positions) in
      let now : List ℕ = records (map position_words qs) m in
      let e : begins Positions ≡ length front + 0 = omega (arith, before_length old Positions) in
      let room : 0 + length now ≤ length was =
      omega (arith, records_length (map position_words qs) (rows_wide new Positions) m, length_area Positions (rows old Positions))
      in
      ap (λ (n : ℕ). sets (laid old) n now) e
      ∙ ap (λ (w : List ℕ). sets w (length front + 0) now) (apart old Positions)
      ∙ sets_inside WORDS front was (behind old Positions) 0 now room
      ∙ ap (λ (r : List ℕ). filled WORDS (front ++ (r ++ behind old Positions)))
      (area_put (rows old Positions) (rows new Positions) (rows_wide old Positions) (rows_wide new Positions) m (rw (length-map old.positions position_words) h) (rw (length-map qs position_words) k) l)

  count_set : set (filled WORDS (front ++ (area Positions (rows new Positions) ++ behind old Positions))) (count_word Positions) (length (rows new Positions)) ≡ laid new
  unfolding ahead behind
  count_set =
      let rest : List ℕ = area Positions (rows new Positions) ++ behind old Positions in
      set_filled WORDS (front ++ rest) (count_word Positions) (length (rows new Positions)) (omega arith) ∙ sym (apart new Positions)

  positions_put : put_word (bytes (sets (laid old) (begins Positions) (records (map position_words qs) m))) (count_byte Positions) (length (map position_words qs)) ≡ bytes (laid new)
  positions_put =
      put_bytes (sets (laid old) (begins Positions) (records (map position_words qs) m)) (count_word Positions) (length (map position_words qs))
      ∙ ap bytes (ap (λ (w : List ℕ). set w (count_word Positions) (length (map position_words qs))) positions_set ∙ count_set)

-- put_tree: the first i records are those of the tree
abbrev pub Writing : List ℕ → Tree → List ℕ → ℕ → Type 0
Writing b self now i =
    (p : Parts) (ts : List machine.Tree) → b ≡ bytes (laid p) → map root_entry ts ≡ used self → now ≡ bytes (sets (laid p) (begins Positions) (records (map position_words ts) i))

pub write_none : (b : List ℕ) (self : Tree) → Writing b self b 0
write_none b self p ts is same = is

module _ (b : List ℕ) (self : Tree) (now next : List ℕ) where
  pub write_more : (i : ℕ) (row : List ℕ) → Writing b self now i → ((ts : List machine.Tree) → map root_entry ts ≡ used self → row ≡ row_at ts i)
      → ((ws : List ℕ) → now ≡ bytes ws → next ≡ bytes (sets ws (begins Positions + width Positions * i) row))
      → Writing b self next (i + 1)
  write_more i row was said put p ts is same =
      let rs : List (List ℕ) = map position_words ts in
      let s : i + 1 ≡ suc i = omega arith in
      let n : begins Positions + width Positions * i ≡ begins Positions + length (records rs i) =
      ap (λ (k : ℕ). begins Positions + k) (sym (records_length rs (rows_wide (with_positions p ts) Positions) i))
      in
      put (sets (laid p) (begins Positions) (records rs i)) (was p ts is same)
      ∙ ap bytes
      (ap (λ (r : List ℕ). sets (sets (laid p) (begins Positions) (records rs i)) (begins Positions + width Positions * i) r) (said ts same)
      ∙ ap (λ (k : ℕ). sets (sets (laid p) (begins Positions) (records rs i)) k (row_at ts i)) n
      ∙ sym (sets_append (laid p) (begins Positions) (records rs i) (row_at ts i))
      ∙ ap (sets (laid p) (begins Positions)) (sym (records_next rs i))
      ∙ ap (λ (k : ℕ). sets (laid p) (begins Positions) (records rs k)) (sym s))

  pub written : (m : ℕ) → Bounded self → counted b Positions ≤ m → self.len ≤ m → m ≤ POSITIONS → Writing b self now m → next ≡ put_word now (count_byte Positions) self.len
      → (p : Parts) (ts : List machine.Tree) → b ≡ bytes (laid p) → map root_entry ts ≡ used self → next ≡ bytes (laid (with_positions p ts))
  written m bounded h k l all put p ts is same =
      let n = records_many self bounded ts same in
      let old : counted b Positions ≡ length p.positions = rw is (count_is_lem p Positions ∙ length-map p.positions position_words) in
      put
      ∙ ap (λ (k : ℕ). put_word now (count_byte Positions) k) (sym n)
      ∙ ap (λ (x : List ℕ). put_word x (count_byte Positions) (length (map position_words ts))) (all p ts is same)
      ∙ positions_put p ts m (omega arith) (omega (arith, length-map ts position_words)) l

-- one position put
pub position_put : (b c row : List ℕ) (i : ℕ) (p : Parts) (t : machine.Tree) → i < POSITIONS → i < length p.positions → row ≡ position_words t → b ≡ bytes (laid p)
    → ((ws : List ℕ) → b ≡ bytes ws → c ≡ bytes (sets ws (begins Positions + width Positions * i) row))
    → c ≡ bytes (laid (with_positions p (set p.positions i t)))
position_put b c row i p t room h e is put =
    let g = get_or p.positions i failed in
    let z : begins Positions + width Positions * i ≡ begins Positions + width Positions * i + 0 = omega arith in
    let l : i < length (rows p Positions) = rw (length-map p.positions position_words) h in
    let r : rows (with_positions p (set p.positions i t)) Positions ≡ set (rows p Positions) i (sets (get_or (rows p Positions) i []) 0 (position_words t)) =
    sym (map_set position_words p.positions i t)
    ∙ ap (set (rows p Positions) i) (sym (ap (λ (w : List ℕ). sets w 0 (position_words t)) (row_at_lem position_words p.positions i failed h) ∙ sets_all (position_words g) (position_words t) (position_width g ∙ sym (position_width t))))
    in
    put (laid p) is
    ∙ ap (λ (w : List ℕ). bytes (sets (laid p) (begins Positions + width Positions * i) w)) e
    ∙ ap (λ (n : ℕ). bytes (sets (laid p) n (position_words t))) z
    ∙ sym (put_words_bytes (laid p) (begins Positions + width Positions * i + 0) (position_words t))
    ∙ put_words_lem p (with_positions p (set p.positions i t)) Positions refl i 0 (position_words t) l room (omega (arith, position_width t)) r
