-- What the code of question 9 answers: a law for each return, with the callees' results as variables.
use mathlib.Core.Path.{◌≡◌, refl, sym, ap, ◌∙◌}
use mathlib.Core.Bool.{Bool, true, false, cond}
use mathlib.Core.List.Memᴰ
use mathlib.Core.List.{List, ◌∷◌, map}
use mathlib.Core.Logic.{⊎_elim}
use mathlib.Core.Option.{Option, none, some}
use Prim.Native.Nat.{ℕ, zero, suc, ◌+◌, ◌-◌, ◌<◌, ◌≤◌}
use native.Mathlib.Omega.{arith}
use native.Mathlib.Nat.{eq-or-lt_of_le, le_of_suc-le-suc}
use lib.Dec.{eqb}
use lib.ListN.{get_or}
use borrow.Author.Tests.{lt-ltb, le-ltb}
use Rattle.limits.specs.Limits.{INTERFACES}
use Rattle.std.specs.Option.{unwrap_or, option_or}
use Rattle.std.specs.declared.option.Option.{Option as CodeOption}
use Rattle.std.specs.declared.option.Option.TheVariants.{Some, None}
use Rattle.std.specs.declared.result.Result.TheVariants.{Ok, Err}
use Rattle.script.specs.declared.Section.{Section}
use Rattle.script.specs.declared.Section.TheVariants.{Interfaces as interfaces, Signatures as signatures}
use Rattle.script.specs.Lists.{◌∈◌, run, sum_below}
use Rattle.script.specs.Section.{count_of, record_at, record_word}
use Rattle.script.specs.Syntax.{Signature, Interface, lists, extends, Program, an_interface}
use Rattle.script.specs.Reading.{own_signatures, signature_at, interface_at, program_of}
use Rattle.script.specs.Asking.{Decides, first_out_of, place_or, lowest_in}
use Rattle.script.specs.Questions.{all_of}
use Rattle.script.specs.Statements.{WithinLayout}
use Rattle.sections.specs.Laid.{passed_of}
use Rattle.script.proofs.Lists.{in_run, run_has, owner_of_lem}
use Rattle.script.proofs.Tests.{true_false, decides, yes_said, no_said, decides_all}
use Rattle.script.proofs.Declarations.{length_interfaces, interface_at_lem}
use Rattle.script.proofs.Regular.{regular}
use Rattle.typing.specs.Members.{meaning}
use Rattle.typing.specs.Published.{msigs_list}
use Rattle.typing.specs.Check.{names_in, same_types, agree_test, join_test, joins_test}
use Rattle.members.specs.Lookup.{MeaningIs, Meanings, join_of, join_by, FirstFault, LowestFault, place_in}
use Rattle.typing.proofs.Members.{signature_name}
use Rattle.interfaces.specs.Cover.{FirstAt}
use Rattle.subtypes.proofs.SubtypeLaws.{reads_list, reads_join, left_earlier, right_earlier}
use Rattle.members.proofs.LookupLaws.{run_ends}
use Rattle.members.proofs.MemberLaws.{no_word, word_at}

-- no two signatures clash
pub nothing_clashes : (o : Option ℕ) → o ≡ none → Ok tt ≡ passed_of o
nothing_clashes o e = rw e

-- two meanings agree where one of them is missing
agree_none : (o : Option Signature) → true ≡ agree_test o none
agree_none none = refl
agree_none (some g) = refl

-- Question 9 of the interface of record i, by what the table of the name m says of its parents.
module _ {s : List ℕ} (w : WithinLayout s) (i form : ℕ) (l : i < count_of s interfaces) (f : form ≡ record_word s interfaces i 0) where
  pub agree_list : (form ≡ 1 → ⊥) → (m : ℕ) → true ≡ join_by s m i
  agree_list n m = rw (reads_list s i (rw f at n))

  module _ (e : form ≡ 1) {m : ℕ} {table : List ℕ} (h : Meanings s m (count_of s interfaces) table) where
    pub left_word : (a : ℕ) → a ≡ record_word s interfaces i 1 → (a - 1 < INTERFACES) × MeaningIs s m (a - 1) (get_or table (a - 1) 0)
    left_word a p = let x = left_earlier w i form l f e a p in (omega (arith, w.counts_are.within interfaces), h.holds (a - 1) (omega arith))

    pub right_word : (b : ℕ) → b ≡ record_word s interfaces i 2 → (b - 1 < INTERFACES) × MeaningIs s m (b - 1) (get_or table (b - 1) 0)
    right_word b q = let x = right_earlier w i form l f e b q in (omega (arith, w.counts_are.within interfaces), h.holds (b - 1) (omega arith))

    module _ (a b : ℕ) (p : a ≡ record_word s interfaces i 1) (q : b ≡ record_word s interfaces i 2) where
      join_words : join_by s m i ≡ agree_test (meaning (program_of s) m (suc (a - 1))) (meaning (program_of s) m (suc (b - 1)))
      join_words =
          let x = left_earlier w i form l f e a p in
          let y = right_earlier w i form l f e b q in
          let c : suc (a - 1) ≡ a = omega arith in
          let d : suc (b - 1) ≡ b = omega arith in
          rw (reads_join s i (sym f ∙ e), c, d, p, q)

      pub agree_left : get_or table (a - 1) 0 ≡ 0 → true ≡ join_by s m i
      agree_left z = rw (join_words, no_word (left_word a p).1 z)

      pub agree_right : get_or table (b - 1) 0 ≡ 0 → true ≡ join_by s m i
      agree_right z = rw (join_words, no_word (right_word b q).1 z) (agree_none (meaning (program_of s) m (suc (a - 1))))

      pub agree_both : (r : Bool) → (get_or table (a - 1) 0 ≡ 0 → ⊥) → (get_or table (b - 1) 0 ≡ 0 → ⊥) → r ≡ same_types (signature_at s (get_or table (a - 1) 0 - 1)) (signature_at s (get_or table (b - 1) 0 - 1)) → r ≡ join_by s m i
      agree_both r x y o = rw (join_words, (word_at (left_word a p).1 x).1, (word_at (right_word b q).1 y).1) o

-- A search for the first record at fault.
module _ (test : ℕ → Bool) (n i : ℕ) (before : (j : ℕ) → j < i → test j ≡ true) where
  pub passed_more : (r : Bool) → r ≡ test i → r ≡ true → (j : ℕ) → j < i + 1 → test j ≡ true
  passed_more r e t j h =
      ⊎_elim
      (λ (q : j ≡ i). rw q (sym e ∙ t))
      (λ (q : j < i). before j q)
      (eq-or-lt_of_le (le_of_suc-le-suc (let g : suc j ≤ suc i = omega arith in g)))

  pub fault_here : (r : Bool) → i < n → r ≡ test i → r ≡ false → FirstAt test n (Some i)
  fault_here r h e t = (h, before, sym e ∙ t)

  pub fault_nowhere : n ≤ i → FirstAt test n None
  fault_nowhere h = λ j k. before j (omega arith)

-- The lowest record at fault, name by name: one that was found for some names, or none, and then for one name more before it.
abbrev pub Inside : ℕ → CodeOption ℕ → Type 0
Inside n None = Unit {0}
Inside n (Some r) = r < n

pub record LowestOf (test : ℕ → ℕ → Bool) (names n : ℕ) (found : CodeOption ℕ) : Type 0 where
  pub lowest : LowestFault test names n (unwrap_or found n)
  pub inside : Inside n found

module _ (test : ℕ → ℕ → Bool) (n : ℕ) where
  pub no_names : LowestOf test 0 n None
  no_names =
      record {
        lowest = record { within = omega arith; passed = λ k i h l. absurd (omega arith); fault = λ h. absurd (omega arith) };
        inside = tt;
      }

  one_name_more : (k low r : ℕ) → LowestFault test k n low → FirstFault (test k) low r → LowestFault test (k + 1) n r
  one_name_more k low r a b =
      record {
        within = omega (arith, a.within, b.within);
        passed = λ j i h l. ⊎_elim
            (λ (q : j ≡ k). rw q (b.passed i l))
            (λ (q : j < k). a.passed j i q (omega (arith, b.within)))
            (eq-or-lt_of_le (le_of_suc-le-suc (let g : suc j ≤ suc k = omega arith in g)));
        fault = λ h. ⊎_elim
            (λ (q : r ≡ low). let x = a.fault (omega arith) in (x.0, omega (arith, x.1), ap (test x.0) q ∙ x.2))
            (λ (q : r < low). (k, omega arith, b.fault q))
            (eq-or-lt_of_le b.within);
      }

  -- What is found before the last one takes its place.
  pub name_next : (k upto : ℕ) (found next : CodeOption ℕ) → LowestOf test k n found → upto ≡ unwrap_or found n → FirstAt (test k) upto next → LowestOf test (k + 1) n (option_or next found)
  name_next k upto found None a e b =
      record {
        lowest = one_name_more k (unwrap_or found n) (unwrap_or found n) a.lowest (record { within = omega arith; passed = rw e at b; fault = λ h. absurd (omega arith) });
        inside = a.inside;
      }
  name_next k upto found (Some r) a e b =
      record {
        lowest = one_name_more k (unwrap_or found n) r a.lowest (record { within = omega (arith, b.0, e); passed = b.1; fault = λ h. b.2 });
        inside = omega (arith, b.0, e, a.lowest.within);
      }

-- the first record that fails a test
first_none : (test : ℕ → Bool) (i n : ℕ) → ((j : ℕ) → i ≤ j → j < i + n → test j ≡ true) → first_out_of test i n ≡ none
unfolding first_out_of
first_none test i zero all = refl
first_none test i (suc n) all = rw (all i (omega arith) (omega arith)) (first_none test (i + 1) n (λ j a b. all j (omega arith) (omega arith)))

first_at : (test : ℕ → Bool) (i n r : ℕ) → i ≤ r → r < i + n → ((j : ℕ) → i ≤ j → j < r → test j ≡ true) → test r ≡ false → first_out_of test i n ≡ some r
unfolding first_out_of
first_at test i zero r a b all e = absurd (omega arith)
first_at test i (suc n) r a b all e =
    ⊎_elim
    (λ (q : i ≡ r). rw (q, e))
    (λ (q : i < r). rw (all i (omega arith) q) (first_at test (i + 1) n r (omega arith) (omega arith) (λ j c d. all j (omega arith) d) e))
    (eq-or-lt_of_le a)

-- The lowest record at fault for a name is the first that fails the test of all names.
module _ (test : ℕ → ℕ → Bool) (names n : ℕ) (whole : ℕ → Bool)
    (each : (i : ℕ) → i < n → ((k : ℕ) → k < names → test k i ≡ true) → whole i ≡ true)
    (some_one : (i k : ℕ) → i < n → k < names → test k i ≡ false → whole i ≡ false) where
  lowest_first : (s : List ℕ) (section : Section) (r : ℕ) → n ≡ count_of s section → LowestFault test names n r → place_in s section r ≡ place_or s section (first_out_of whole 0 n) none
  lowest_first s section r e low =
      ⊎_elim
      (λ (q : r ≡ n).
      rw (le-ltb r (count_of s section) (omega arith), first_none whole 0 n (λ j a b. each j (omega arith) (λ k h. low.passed k j h (omega arith)))))
      (λ (q : r < n).
      let x = low.fault q in
      rw (
        lt-ltb r (count_of s section) (omega arith),
        first_at whole 0 n r (omega arith) (omega arith) (λ j a b. each j (omega arith) (λ k h. low.passed k j h b)) (some_one r x.0 q x.1 x.2),
      ))
      (eq-or-lt_of_le low.within)

-- question 9 asks only interfaces
only_joins : (s : List ℕ) (p : Program) → lowest_in s (joins_test s p) ≡ place_or s interfaces (first_out_of (λ i. join_test p (interface_at s i)) 0 (count_of s interfaces)) none
unfolding lowest_in joins_test
only_joins s p = refl

-- what the interface of a record lists
lists_run : (s : List ℕ) (i : ℕ) (gs : List Signature) → interface_at s i ≡ lists gs → gs ≡ run (signature_at s) (sum_below (own_signatures s) i) (own_signatures s i)
unfolding interface_at
lists_run s i gs e = go (eqb (record_word s interfaces i 0) 1) e
  where
    go : (b : Bool) → cond b (extends (record_word s interfaces i 1) (record_word s interfaces i 2)) (lists (run (signature_at s) (sum_below (own_signatures s) i) (own_signatures s i))) ≡ lists gs → gs ≡ run (signature_at s) (sum_below (own_signatures s) i) (own_signatures s i)
    go true h = absurd (let z : ◌≡◌ {A = ℕ} 0 1 = cc in omega arith)
    go false h = cc

own_form : (s : List ℕ) (i : ℕ) → 0 < own_signatures s i → record_word s interfaces i 0 ≡ 1 → ⊥
unfolding own_signatures
own_form s i h e = let z : cond (eqb (record_word s interfaces i 0) 0) (record_word s interfaces i 1) 0 ≡ 0 = rw e refl in omega arith

-- the names that interfaces list are those of the signature records
record NameAt (s : List ℕ) (m : ℕ) : Type 0 where
  index : ℕ
  within : index < count_of s signatures
  is : m ≡ record_word s signatures index 0

module _ {s : List ℕ} (w : WithinLayout s) where
  listed_in : (i m : ℕ) (gs : List Signature) → i < count_of s interfaces → interface_at s i ≡ lists gs → m ∈ map (λ g. g.name) gs → NameAt s m
  unfolding signature_at
  listed_in i m gs l e h =
      let r = Memᴰ.of_map (λ (g : Signature). g.name) {b = m} (run (signature_at s) (sum_below (own_signatures s) i) (own_signatures s i)) (rw (lists_run s i gs e) at h) in
      let x = in_run (signature_at s) (sum_below (own_signatures s) i) (own_signatures s i) r.0 r.1 in
      record { index = x.index; within = omega (arith, x.upto, run_ends w signatures i l); is = sym r.2 ∙ ap (λ (g : Signature). g.name) x.is }

  names_among : (i n m : ℕ) → i + n ≤ count_of s interfaces → m ∈ names_in (run (interface_at s) i n) → NameAt s m
  unfolding run names_in
  names_among i zero m l h = absurd (Memᴰ.not-nil h)
  names_among i (suc n) m l h = go (interface_at s i) refl h (names_among (i + 1) n m (omega arith))
    where
      go : (x : Interface) → interface_at s i ≡ x → m ∈ names_in (x ∷ run (interface_at s) (i + 1) n) → (m ∈ names_in (run (interface_at s) (i + 1) n) → NameAt s m) → NameAt s m
      go (lists gs) e h more = ⊎_elim (λ k. listed_in i m gs (omega arith) e k) more (Memᴰ.append_cases (map (λ g. g.name) gs) h)
      go (extends a b) e h more = more h

  name_at_lem : (m : ℕ) → m ∈ names_in (program_of s).interfaces → NameAt s m
  unfolding program_of
  name_at_lem m h = names_among 0 (count_of s interfaces) m (omega arith) h

  name_in_lem : (k : ℕ) → k < count_of s signatures → record_word s signatures k 0 ∈ names_in (program_of s).interfaces
  unfolding signature_at
  name_in_lem k h =
      let o = owner_of_lem (own_signatures s) (count_of s interfaces) k (omega (arith, w.owners_are.of_signatures)) in
      signature_name (program_of s) (regular s w)
      (record { first = omega arith; last = rw (length_interfaces s) o.among })
      (msigs_list
      (interface_at_lem s o.owner o.among ∙ ap an_interface (reads_list s o.owner (own_form s o.owner (omega (arith, o.from, o.upto)))))
      (run_has (signature_at s) (sum_below (own_signatures s) o.owner) (own_signatures s o.owner) k o.from o.upto))

pub all_meanings : (s : List ℕ) (m n : ℕ) (table : List ℕ) → n ≡ count_of s interfaces → Meanings s m n table → Meanings s m (count_of s interfaces) table
all_meanings s m n table e h = rw e at h

-- all names pass a test, or one does not
all_decided : (test : ℕ → Bool) (l : List ℕ) → Decides ((m : ℕ) → m ∈ l → test m ≡ true) (all_of test l)
all_decided test l = decides_all (λ m. test m ≡ true) test l (λ m. decides (test m) (λ e. e) (λ e h. true_false (sym h ∙ e)))

all_pass : (test : ℕ → Bool) (l : List ℕ) → ((m : ℕ) → m ∈ l → test m ≡ true) → all_of test l ≡ true
all_pass test l h = yes_said (all_decided test l) h

one_fails : (test : ℕ → Bool) (l : List ℕ) (m : ℕ) → m ∈ l → test m ≡ false → all_of test l ≡ false
one_fails test l m h e = no_said (all_decided test l) (λ f. true_false (sym (f m h) ∙ e))

-- question 9 of an interface is asked name by name
join_passes : (p : Program) (i : Interface) → ((m : ℕ) → m ∈ names_in p.interfaces → join_of p m i ≡ true) → join_test p i ≡ true
join_passes p (lists gs) h = refl
join_passes p (extends a b) h = all_pass _ (names_in p.interfaces) h

join_fails : (p : Program) (i : Interface) (m : ℕ) → m ∈ names_in p.interfaces → join_of p m i ≡ false → join_test p i ≡ false
join_fails p (lists gs) m h e = absurd (true_false e)
join_fails p (extends a b) m h e = one_fails _ (names_in p.interfaces) m h e

module _ {s : List ℕ} (w : WithinLayout s) (k : ℕ) (g : count_of s signatures ≤ k) where
  -- what passes for the name of every signature record passes for every name
  every_name : (test : ℕ → Bool) → ((j : ℕ) → j < k → test (record_word s signatures j 0) ≡ true) → (m : ℕ) → m ∈ names_in (program_of s).interfaces → test m ≡ true
  every_name test h m x = let n = name_at_lem w m x in ap test n.is ∙ h n.index (omega (arith, n.within))

  module _ (upto : k ≤ count_of s signatures) where
    -- The place of the lowest join at fault is the answer to question 9.
    lowest_is : (r : ℕ) → LowestFault (λ j. join_by s (record_word s signatures j 0)) k (count_of s interfaces) r → place_in s interfaces r ≡ lowest_in s (joins_test s (program_of s))
    lowest_is r low =
        lowest_first (λ j. join_by s (record_word s signatures j 0)) k (count_of s interfaces) (λ i. join_test (program_of s) (interface_at s i))
        (λ i a h. join_passes (program_of s) (interface_at s i) (every_name (λ m. join_by s m i) h))
        (λ i j a b h. join_fails (program_of s) (interface_at s i) (record_word s signatures j 0) (name_in_lem w j (omega arith)) h)
        s interfaces r refl low
        ∙ sym (only_joins s (program_of s))

    pub joins_no :
        (r place : ℕ) → LowestOf (λ j. join_by s (record_word s signatures j 0)) k (count_of s interfaces) (Some r) → place ≡ record_at s interfaces r
        → Err place ≡ passed_of (lowest_in s (joins_test s (program_of s)))
    joins_no r place low e = rw (← lowest_is r low.lowest, lt-ltb r (count_of s interfaces) low.inside, e)

    pub joins_yes :
        LowestOf (λ j. join_by s (record_word s signatures j 0)) k (count_of s interfaces) None → Ok tt ≡ passed_of (lowest_in s (joins_test s (program_of s)))
    joins_yes low = rw (← lowest_is (count_of s interfaces) low.lowest, le-ltb (count_of s interfaces) (count_of s interfaces) (omega arith))
