-- What the code of the marks answers, with the code's locals as variables.
use mathlib.Core.Path.{◌≡◌, refl, sym, ap, ◌∙◌}
use mathlib.Core.Bool.{Bool, true, false, not, ◌&&◌}
use mathlib.Core.List.{List}
use Prim.Native.Nat.{ℕ, zero, suc, ◌+◌, ◌-◌, ◌<◌, ◌≤◌}
use native.Mathlib.Omega.{arith}
use native.Mathlib.Decide.{ℕ_discrete, dec_lt}
use borrow.Author.Tests.{eq-eqb, ne_eqb, lt-ltb, le-ltb, le-leb, lt-leb}
use lib.Dec.{eqb, leb}
use lib.ListN.{get_or, set, replicate, length-set, length-replicate}
use lib.Seq.{get_or-set_same, get_or-set_other}
use Rattle.limits.specs.Limits.{OBJECTS}
use Rattle.script.specs.Lists.{run, sum_below}
use Rattle.script.specs.Questions.{all_of}
use Rattle.script.proofs.Lists.{zeros, sum_next}
use Rattle.script.proofs.Tests.{true_false}
use Rattle.machine.specs.Machine.{one_if}
use Rattle.machine.specs.Decide.{numbers_below}
use Rattle.block.specs.declared.Area.TheVariants.{Objects, Positions, Frames}
use Rattle.block.specs.Layout.{counted, word_in, FAILED, LOCKS}
use Rattle.locks.specs.Locking.{shut_in, lock_at, locks_in, Marks, Marking, marked, clashes, kind_at, goes_on}
use Rattle.values.proofs.StoreLaws.{all_begun, all_no, all_more}

-- whether an object is shut
module _ (b : List ℕ) (o : ℕ) where
  pub shut_there : o < counted b Objects → shut_in b o ≡ word_in b Objects o 1
  shut_there h = rw (lt-ltb o (counted b Objects) h) refl

  pub shut_absent : counted b Objects ≤ o → shut_in b o ≡ 0
  shut_absent h = rw (le-ltb o (counted b Objects) h) refl

-- one frame more
locks_more : (b : List ℕ) (o i : ℕ) → locks_in b o i + lock_at b o i ≡ locks_in b o (i + 1)
locks_more b o i = sum_next (lock_at b o) i (locks_in b o i) (lock_at b o i) refl refl

-- before the first frame
pub no_marks : (b : List ℕ) → Marks b 0 (replicate OBJECTS 0)
unfolding sum_below
no_marks b = record { size = length-replicate {A = ℕ} OBJECTS 0; counts = λ o. zeros OBJECTS o; distinct = λ o. omega arith }

module _ {b : List ℕ} {i : ℕ} {marks : List ℕ} (m : Marks b i marks) (kind : ℕ) (ek : kind ≡ word_in b Frames i 0) where
  -- a frame that is no lock frame
  pub frame_other : (kind ≡ LOCKS → ⊥) → Marking b (i + 1) marks true
  frame_other n = marked (record { size = m.size; counts = λ o. m.counts o ∙ same o; distinct = λ o. rw (← same o) (m.distinct o) })
    where
      same : (o : ℕ) → locks_in b o i ≡ locks_in b o (i + 1)
      same o =
          let z : lock_at b o i ≡ 0 = rw (ne_eqb (word_in b Frames i 0) LOCKS (λ e. n (ek ∙ e))) refl in
          omega (arith, locks_more b o i)

  -- a lock frame of object o
  module _ (lock : kind ≡ LOCKS) (o : ℕ) (eo : o ≡ word_in b Frames i 1) where
    one_more : (p : ℕ) → locks_in b p i + one_if (eqb p o) ≡ locks_in b p (i + 1)
    one_more p =
        let z : lock_at b p i ≡ one_if (eqb p o) = rw (eq-eqb (word_in b Frames i 0) LOCKS (sym ek ∙ lock), eo) refl in
        omega (arith, locks_more b p i)

    own_more : locks_in b o (i + 1) ≡ suc (locks_in b o i)
    own_more = omega (arith, one_more o, ap one_if (eq-eqb o o refl))

    pub frame_absent : counted b Objects ≤ o → Marking b (i + 1) marks false
    frame_absent h = clashes o (omega (arith, own_more, shut_absent b o h))

    module _ (shut mark : ℕ) (there : o < counted b Objects) (es : shut ≡ word_in b Objects o 1) (em : mark ≡ get_or marks o 0) where
      pub frame_taken : shut ≤ mark → Marking b (i + 1) marks false
      frame_taken h = clashes o (omega (arith, own_more, shut_there b o there, m.counts o))

      pub frame_marked : counted b Objects ≤ OBJECTS → mark < shut → Marking b (i + 1) (set marks o (mark + 1)) true
      frame_marked few h =
          marked
          (record {
            size = length-set marks o (mark + 1) ∙ m.size;
            counts = λ p. elim (ℕ_discrete p o) [ yes e ↦ rw e own_counts | no n ↦ get_or-set_other marks o p (mark + 1) 0 n ∙ m.counts p ∙ other p n ];
            distinct = λ p. elim (ℕ_discrete p o) [ yes e ↦ rw e (omega (arith, own_more, shut_there b o there, m.counts o)) | no n ↦ rw (← other p n) (m.distinct p) ];
          })
        where
          own_counts : get_or (set marks o (mark + 1)) o 0 ≡ locks_in b o (i + 1)
          own_counts = get_or-set_same marks o (mark + 1) 0 (omega (arith, m.size)) ∙ omega (arith, own_more, m.counts o)

          other : (p : ℕ) → (p ≡ o → ⊥) → locks_in b p i ≡ locks_in b p (i + 1)
          other p n = omega (arith, one_more p, ap one_if (ne_eqb p o n))

-- all frames
locks_grow : (b : List ℕ) (o i n : ℕ) → i ≤ n → locks_in b o i ≤ locks_in b o n
unfolding sum_below
locks_grow b o i zero h = let z : i ≡ 0 = omega arith in rw z (omega arith)
locks_grow b o i (suc n) h = elim (dec_lt i (suc n)) [ yes l ↦ omega (arith, locks_grow b o i n (omega arith)) | no l ↦ let z : i ≡ suc n = omega arith in rw z (omega arith) ]

pub marking_no : {b : List ℕ} {i : ℕ} {marks : List ℕ} {r : Bool} → Marking b i marks r → not r ≡ true → (n : ℕ) → i ≤ n → Marking b n marks false
marking_no (marked m) q n h = absurd (true_false (sym q))
marking_no {b} {i} (clashes o l) q n h = clashes o (omega (arith, locks_grow b o i n h))

pub marking_yes : {b : List ℕ} {i : ℕ} {marks : List ℕ} {r : Bool} → Marking b i marks r → not r ≡ false → Marks b i marks
marking_yes (marked m) q = m
marking_yes (clashes o l) q = absurd (true_false q)

pub marking_done : {b : List ℕ} {i n : ℕ} {marks : List ℕ} → Marks b i marks → i ≡ n → Marking b n marks true
marking_done m e = rw (← e) (marked m)

-- a walk over the positions that has come to position i
abbrev pub PositionsLeft : List ℕ → ℕ → ℕ → Type 0
PositionsLeft b n i = all_of goes_on (run (kind_at b) 0 (counted b Positions)) ≡ all_of goes_on (run (kind_at b) i (n - i))

pub positions_begun : (b : List ℕ) (n : ℕ) → n ≡ counted b Positions → PositionsLeft b n 0
positions_begun b n e = all_begun goes_on (kind_at b) n (all_of goes_on (run (kind_at b) 0 (counted b Positions))) (rw e refl)

module _ (b : List ℕ) (n i : ℕ) (left : PositionsLeft b n i) (kind : ℕ) (h : i < n) (e : kind ≡ word_in b Positions i 0) where
  abbrev whole : Bool
  whole = all_of goes_on (run (kind_at b) 0 (counted b Positions))

  pub position_failed : kind ≡ FAILED → false ≡ whole
  position_failed q = all_no goes_on (kind_at b) n whole i left (not (eqb kind FAILED)) h (rw e refl) (rw (eq-eqb kind FAILED q) refl)

  pub position_more : (kind ≡ FAILED → ⊥) → PositionsLeft b n (i + 1)
  position_more q = all_more goes_on (kind_at b) n whole i left (not (eqb kind FAILED)) h (rw e refl) (rw (ne_eqb kind FAILED q) refl)

-- a walk over the objects, the last one first, that has those before number n left
abbrev pub is_marked : List ℕ → List ℕ → ℕ → Bool
is_marked b marks o = leb (shut_in b o) (get_or marks o 0)

abbrev pub MarksLeft : List ℕ → List ℕ → ℕ → Type 0
MarksLeft b marks n = all_of (is_marked b marks) (numbers_below (counted b Objects)) ≡ all_of (is_marked b marks) (numbers_below n)

pub marks_begun : (b marks : List ℕ) (n : ℕ) → n ≡ counted b Objects → MarksLeft b marks n
marks_begun b marks n e = rw e refl

module _ (b marks : List ℕ) (n : ℕ) (left : MarksLeft b marks n) where
  pub objects_done : (0 < n → ⊥) → true ≡ all_of (is_marked b marks) (numbers_below (counted b Objects))
  unfolding all_of
  objects_done h = let z : n ≡ 0 = omega arith in sym (rw z at left)

  module _ (mark shut : ℕ) (h : 0 < n) (l : n ≤ counted b Objects) (em : mark ≡ get_or marks (n - 1) 0) (es : shut ≡ word_in b Objects (n - 1) 1) where
    next : all_of (is_marked b marks) (numbers_below (counted b Objects)) ≡ leb shut mark && all_of (is_marked b marks) (numbers_below (n - 1))
    unfolding all_of
    next =
        let z : n ≡ suc (n - 1) = omega arith in
        left
        ∙ ap (λ (k : ℕ). all_of (is_marked b marks) (numbers_below k)) z
        ∙ rw (shut_there b (n - 1) (omega arith), em, es) refl

    pub object_unmarked : mark < shut → false ≡ all_of (is_marked b marks) (numbers_below (counted b Objects))
    object_unmarked q = sym (next ∙ rw (lt-leb shut mark q) refl)

    pub object_marked : shut ≤ mark → MarksLeft b marks (n - 1)
    object_marked q = next ∙ rw (le-leb shut mark q) refl
