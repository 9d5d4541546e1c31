-- The computed answers to questions 1 to 8 say what the plain statements say. `decides-..` is that a test says whether its statement holds, of the script or of a record.
use mathlib.Core.Path.{◌≡◌, refl, sym, ap, ◌∙◌}
use mathlib.Core.Bool.{Bool}
use mathlib.Core.List.{List, [], ◌∷◌}
use mathlib.Core.Logic.{⊎_elim, inl, inr}
use mathlib.Core.Option.{Option, none, some}
use Prim.Native.Nat.{ℕ, zero, suc, ◌+◌, ◌*◌, ◌-◌, ◌<◌, ◌≤◌}
use native.Mathlib.Omega.{arith}
use native.Mathlib.Nat.{eq-or-lt_of_le, le_of_suc-le-suc}
use lib.Dec.{eqb}
use lib.ListN.{length}
use borrow.Author.Tests.{le-leb, lt-leb}
use Rattle.limits.specs.Limits.{CONTENTS, FILE, CLASS_FIELDS}
use Rattle.script.specs.declared.Question.{Question}
use Rattle.script.specs.declared.Question.TheVariants.{Length, Counts, Places, Interfaces, Owners, Types, Nodes, Names, Joins}
use Rattle.script.specs.declared.Role.{Role}
use Rattle.script.specs.declared.Role.TheVariants.{Unused, Variable, Member, Bound, NewClass, CastType, Expression, Constant, Unknown}
use Rattle.script.specs.Lists.{sum_below, count_in}
use Rattle.script.specs.Section.{Section, interfaces, signatures, classes, fields, methods, nodes, sections, most_of, size_of, body_at, count_of, end_of, record_word}
use Rattle.script.specs.Syntax.{Point}
use Rattle.script.specs.Reading.{own_signatures, own_fields, own_methods}
use Rattle.script.specs.declared.Refusal.{Refusal}
use Rattle.script.specs.Asking.{first_no, lowest_in, Decides, holds, fails, Each, LowestNo, Lowest}
use Rattle.script.specs.Questions.{length_test, within_test, counts_test, placed_from, places_test, earlier_test, interface_test, interfaces_test, owners_test, type_test, interface_type_test, class_type_test, type_word_test, words_test, two_types_test, types_test, part_test, word_test, uses_in, due_uses, node_test, nodes_test, run_start, has_name, fresh_test, names_test, layout_questions}
use Rattle.script.specs.Statements.{LengthIs, CountsAre, Placed, PlacesAre, Earlier, InterfaceIs, a_list, a_join, InterfacesAre, OwnersAre, TypeWord, InterfaceWord, ClassWord, TypeWordIs, Words, TypesAre, Part, WordIs, NodeIs, NodesAre, Fresh, NamesAre, WithinLayout}
use Rattle.script.proofs.Lists.{AtIndex, sum_more, owner_of_lem}
use Rattle.script.proofs.Tests.{decides_as, decides_and, decides_or, decides_not, decides_eq, decides_le, decides_lt}
use Rattle.script.proofs.Lowest.{no_more, asked, passed, lowest, fault_not, ask_whole, ask_records}

-- Question 1.
pub decides_length : (s : List ℕ) → Decides (LengthIs s) (length_test s)
unfolding length_test
decides_length s =
    decides_as
    (λ h. record { least = h.0; most = h.1 })
    (λ h. (h.least, h.most))
    (decides_and (decides_le CONTENTS (length s)) (decides_le (length s) FILE))

-- Question 2, of some sections and of all.
abbrev Within : List ℕ → List Section → Type 0
Within s [] = Unit {0}
Within s (k ∷ ks) = (count_of s k ≤ most_of k) × Within s ks

decides_within : (s : List ℕ) (ks : List Section) → Decides (Within s ks) (within_test s ks)
unfolding within_test
decides_within s [] = holds tt
decides_within s (k ∷ ks) = decides_and (decides_le (count_of s k) (most_of k)) (decides_within s ks)

within_each : (s : List ℕ) → Within s sections → (k : Section) → count_of s k ≤ most_of k
unfolding sections
within_each s h interfaces = h.0
within_each s h signatures = h.1.0
within_each s h classes = h.1.1.0
within_each s h fields = h.1.1.1.0
within_each s h methods = h.1.1.1.1.0
within_each s h nodes = h.1.1.1.1.1.0

pub decides_counts : (s : List ℕ) → Decides (CountsAre s) (counts_test s)
unfolding counts_test sections
decides_counts s =
    decides_as
    (λ h. record { within = within_each s h.0; a_node = h.1 })
    (λ h. let w = h.within in ((w interfaces, (w signatures, (w classes, (w fields, (w methods, (w nodes, tt)))))), h.a_node))
    (decides_and (decides_within s sections) (decides_lt 0 (count_of s nodes)))

-- Question 3, of some sections and of all.
decides_placed : (s : List ℕ) (at : ℕ) (ks : List Section) → Decides (Placed s at ks) (placed_from s at ks)
unfolding placed_from
decides_placed s at [] = decides_eq at (length s)
decides_placed s at (k ∷ ks) = decides_and (decides_eq (body_at s k) at) (decides_placed s (end_of s k) ks)

pub decides_places : (s : List ℕ) → Decides (PlacesAre s) (places_test s)
unfolding places_test
decides_places s = decides_placed s CONTENTS sections

-- Question 4.
decides_earlier : (i t : ℕ) → Decides (Earlier i t) (earlier_test i t)
decides_earlier i t = decides_as (λ h. record { first = h.0; before = h.1 }) (λ h. (h.first, h.before)) (decides_and (decides_lt 0 t) (decides_le t i))

decides_interface : (s : List ℕ) (i : ℕ) → Decides (InterfaceIs s i) (interface_test s i)
unfolding interface_test
decides_interface s i =
    decides_as
    (⊎_elim (λ h. a_list h.0 h.1) (λ h. a_join h.0 h.1.0 h.1.1))
    (elim [ a_list f z ↦ inl (f, z) | a_join f a b ↦ inr (f, (a, b)) ])
    (decides_or
    (decides_and (decides_eq _ 0) (decides_eq _ 0))
    (decides_and (decides_eq _ 1) (decides_and (decides_earlier i _) (decides_earlier i _))))

-- Question 5.
pub decides_owners : (s : List ℕ) → Decides (OwnersAre s) (owners_test s)
unfolding owners_test
decides_owners s =
    decides_as
    (λ h. record { of_signatures = h.0; of_fields = h.1.0; of_methods = h.1.1 })
    (λ h. (h.of_signatures, (h.of_fields, h.of_methods)))
    (decides_and (decides_eq _ _) (decides_and (decides_eq _ _) (decides_eq _ _)))

-- Question 6.
decides_type : (s : List ℕ) (t : ℕ) → Decides (TypeWord s t) (type_test s t)
unfolding type_test
decides_type s t = decides_le t _

decides_class : (s : List ℕ) (t : ℕ) → Decides (ClassWord s t) (class_type_test s t)
unfolding class_type_test
decides_class s t = decides_as (λ h. record { past = h.0; last = h.1 }) (λ h. (h.past, h.last)) (decides_and (decides_lt (count_of s interfaces) t) (decides_le t _))

decides_implements : (s : List ℕ) (t : ℕ) → Decides (InterfaceWord s t) (interface_type_test s t)
unfolding interface_type_test
decides_implements s t = decides_as (λ h. record { first = h.0; last = h.1 }) (λ h. (h.first, h.last)) (decides_and (decides_lt 0 t) (decides_le t (count_of s interfaces)))

decides_type_word : (s : List ℕ) (r : Role) (w : ℕ) → Decides (TypeWordIs s r w) (type_word_test s r w)
decides_type_word s Unused w = holds tt
decides_type_word s Variable w = holds tt
decides_type_word s Member w = holds tt
decides_type_word s Bound w = holds tt
decides_type_word s NewClass w = decides_class s w
decides_type_word s CastType w = decides_type s w
decides_type_word s Expression w = holds tt
decides_type_word s Constant w = holds tt
decides_type_word s Unknown w = holds tt

decides_words :
    (s : List ℕ) (Is : Role → ℕ → Type 0) (test : Role → ℕ → Bool) (n : Point) → ((r : Role) (w : ℕ) → Decides (Is r w) (test r w))
    → Decides (Words s Is n) (words_test s test n)
decides_words s Is test n d =
    decides_as
    (λ h. record { a_is = h.0; b_is = h.1.0; c_is = h.1.1 })
    (λ h. (h.a_is, (h.b_is, h.c_is)))
    (decides_and (d _ _) (decides_and (d _ _) (d _ _)))

-- Question 7.
decides_part : (s : List ℕ) (n p : Point) → Decides (Part s n p) (part_test s n p)
decides_part s n p = decides_as (λ h. record { later = h.0; there = h.1 }) (λ h. (h.later, h.there)) (decides_and (decides_lt n p) (decides_lt p (count_of s nodes)))

decides_word : (s : List ℕ) (n : Point) (r : Role) (w : ℕ) → Decides (WordIs s n r w) (word_test s n r w)
decides_word s n Unused w = decides_eq w 0
decides_word s n Variable w = holds tt
decides_word s n Member w = holds tt
decides_word s n Bound w = decides_le 2 w
decides_word s n NewClass w = holds tt
decides_word s n CastType w = holds tt
decides_word s n Expression w = decides_part s n w
decides_word s n Constant w = holds tt
decides_word s n Unknown w = fails (λ h. h)

-- Whether node n is used as often as it is to be.
decides_used : (n uses : ℕ) → Decides ((n ≡ 0 → uses ≡ 0) × (0 < n → uses ≡ 1)) (eqb uses (due_uses n))
decides_used zero uses = decides_as (λ e. (λ z. e, λ h. absurd (omega arith))) (λ h. h.0 refl) (decides_eq uses 0)
decides_used (suc n) uses = decides_as (λ e. (λ z. absurd (omega arith), λ h. e)) (λ h. h.1 (omega arith)) (decides_eq uses 1)

decides_node : (s : List ℕ) (n : Point) → Decides (NodeIs s n) (node_test s n)
unfolding node_test
decides_node s n =
    decides_as
    (λ h. record { words = h.0; start_unused = h.1.0; used_once = h.1.1 })
    (λ h. (h.words, (h.start_unused, h.used_once)))
    (decides_and (decides_words s (WordIs s n) (word_test s n) n (decides_word s n)) (decides_used n (count_in n (uses_in s))))

-- Question 8. The run of the owner of record i begins where `run_start` says.
pub run_start_lem : (own : ℕ → ℕ) (n i owner : ℕ) → owner < n → sum_below own owner ≤ i → i < sum_below own owner + own owner → run_start own n i ≡ sum_below own owner
unfolding run_start
run_start_lem own zero i owner a f u = absurd (omega arith)
run_start_lem own (suc n) i owner a f u =
    ⊎_elim
    (λ (e : owner ≡ n). rw (← e, le-leb (sum_below own owner) i f))
    (λ (l : owner < n). rw (lt-leb (sum_below own n) i (omega (arith, sum_more own owner n l))) (run_start_lem own n i owner l f u))
    (eq-or-lt_of_le (le_of_suc-le-suc a))

-- Whether one of the k records from j on has the name x.
decides_named : (name : ℕ → ℕ) (x j k : ℕ) → Decides (AtIndex name j k x) (has_name name x j k)
unfolding has_name
decides_named name x j zero = fails (λ h. omega arith)
decides_named name x j (suc k) =
    decides_as
    (⊎_elim
    (λ e. record { index = j; from = omega arith; upto = omega arith; is = sym e })
    (λ h. record { index = h.index; from = omega arith; upto = omega arith; is = h.is }))
    (λ h.
    ⊎_elim
    (λ (e : j ≡ h.index). inl (ap name e ∙ sym h.is))
    (λ (l : j < h.index). inr (record { index = h.index; from = omega arith; upto = omega arith; is = h.is }))
    (eq-or-lt_of_le h.from))
    (decides_or (decides_eq (name j) x) (decides_named name x (j + 1) k))

-- Whether no earlier record of its owner has the name of record i, which has an owner.
decides_fresh : (name own : ℕ → ℕ) (n i : ℕ) → i < sum_below own n → Decides (Fresh name own n i) (fresh_test name own n i)
unfolding fresh_test
decides_fresh name own n i h =
    decides_as
    (λ f j o e.
    let low : sum_below own o.owner ≤ i = omega arith in
    let start = run_start_lem own n i o.owner o.among low o.upto in
    f (record { index = j; from = omega arith; upto = omega arith; is = sym e }))
    (λ f a.
    let o = owner_of_lem own n i h in
    let start = run_start_lem own n i o.owner o.among o.from o.upto in
    f a.index (record { owner = o.owner; among = o.among; from = omega arith; before = omega arith; upto = o.upto }) (sym a.is))
    (decides_not (decides_named name (name i) (run_start own n i) (i - run_start own n i)))

-- The place of a no to question 4, 6, 7 or 8 is that of the lowest record at fault.
module _ (s : List ℕ) (p : PlacesAre s) where
  pub lowest_interfaces : Lowest s (InterfacesAre s) (lowest_in s (interfaces_test s))
  unfolding interfaces_test sections
  lowest_interfaces = lowest s p (asked (λ i h f. decides_interface s i) (passed (passed (passed (passed (passed no_more))))))

  two_types : (k : Section) (i : ℕ) → Decides (TypeWord s (record_word s k i 1) × TypeWord s (record_word s k i 2)) (two_types_test s k i)
  two_types k i = decides_and (decides_type s _) (decides_type s _)

  pub lowest_types : Lowest s (TypesAre s) (lowest_in s (types_test s))
  unfolding types_test sections
  lowest_types =
      lowest s p
      (passed
      (asked (λ i h f. two_types signatures i)
      (asked (λ i h f. decides_implements s _)
      (asked (λ i h f. decides_type s _)
      (asked (λ i h f. two_types methods i)
      (asked (λ n h f. decides_words s (TypeWordIs s) (type_word_test s) n (decides_type_word s)) no_more))))))

  pub lowest_nodes : Lowest s (NodesAre s) (lowest_in s (nodes_test s))
  unfolding nodes_test sections
  lowest_nodes = lowest s p (passed (passed (passed (passed (asked (λ i h f. decides_lt _ _) (asked (λ n h f. decides_node s n) no_more))))))

  -- Where owners' counts add up, each signature, field and method has an owner.
  pub lowest_names : OwnersAre s → Lowest s (NamesAre s) (lowest_in s (names_test s))
  unfolding names_test sections
  lowest_names o =
      lowest s p
      (passed
      (asked (λ i h f. decides_fresh _ (own_signatures s) (count_of s interfaces) i (rw o.of_signatures h))
      (asked (λ i h f. decides_le (own_fields s i) CLASS_FIELDS)
      (asked (λ i h f. decides_fresh _ (own_fields s) (count_of s classes) i (rw o.of_fields h))
      (asked (λ i h f. decides_fresh _ (own_methods s) (count_of s classes) i (rw o.of_methods h))
      (passed no_more))))))

-- The plain statements of the questions before this one, the last first.
pub data Before (s : List ℕ) : Question → Type 0 where
  at_first : Before s Length
  length_is : LengthIs s → Before s Length → Before s Counts
  counts_are : CountsAre s → Before s Counts → Before s Places
  places_are : PlacesAre s → Before s Places → Before s Interfaces
  interfaces_are : Each s (InterfacesAre s) → Before s Interfaces → Before s Owners
  owners_are : OwnersAre s → Before s Owners → Before s Types
  types_are : Each s (TypesAre s) → Before s Types → Before s Nodes
  nodes_are : Each s (NodesAre s) → Before s Nodes → Before s Names
  names_are : Each s (NamesAre s) → Before s Names → Before s Joins

-- The first no to questions 1 to 8: its plain statement fails, with 0 or the offset of the lowest faulty record as the place, and those of the questions before it hold.
pub data LayoutNo (s : List ℕ) : Refusal → Type 0 where
  length_no : (LengthIs s → ⊥) → Before s Length → LayoutNo s (record { question = Length; place = 0 })
  counts_no : (CountsAre s → ⊥) → Before s Counts → LayoutNo s (record { question = Counts; place = 0 })
  places_no : (PlacesAre s → ⊥) → Before s Places → LayoutNo s (record { question = Places; place = 0 })
  interfaces_no : {place : ℕ} → LowestNo s (InterfacesAre s) place → Before s Interfaces → LayoutNo s (record { question = Interfaces; place = place })
  owners_no : (OwnersAre s → ⊥) → Before s Owners → LayoutNo s (record { question = Owners; place = 0 })
  types_no : {place : ℕ} → LowestNo s (TypesAre s) place → Before s Types → LayoutNo s (record { question = Types; place = place })
  nodes_no : {place : ℕ} → LowestNo s (NodesAre s) place → Before s Nodes → LayoutNo s (record { question = Nodes; place = place })
  names_no : {place : ℕ} → LowestNo s (NamesAre s) place → Before s Names → LayoutNo s (record { question = Names; place = place })

-- What the answer to questions 1 to 8 says.
pub data LayoutSays (s : List ℕ) : Option Refusal → Type 0 where
  all_yes : Before s Joins → LayoutSays s none
  first_no_lem : {r : Refusal} → LayoutNo s r → LayoutSays s (some r)

-- The computed answer says it.
pub layout_says : (s : List ℕ) → LayoutSays s (first_no (layout_questions s))
unfolding layout_questions
layout_says s =
    ask_whole Says Length _ (decides_length s) (λ n. first_no_lem (length_no n at_first)) λ y.
    let b = length_is y at_first in
    ask_whole Says Counts _ (decides_counts s) (λ n. first_no_lem (counts_no n b)) λ y.
    let b = counts_are y b in
    ask_whole Says Places _ (decides_places s) (λ n. first_no_lem (places_no n b)) λ p.
    let b = places_are p b in
    ask_records Says Interfaces _ (lowest_interfaces s p) (λ place n. first_no_lem (interfaces_no n b)) λ y.
    let b = interfaces_are y b in
    ask_whole Says Owners _ (decides_owners s) (λ n. first_no_lem (owners_no n b)) λ o.
    let b = owners_are o b in
    ask_records Says Types _ (lowest_types s p) (λ place n. first_no_lem (types_no n b)) λ y.
    let b = types_are y b in
    ask_records Says Nodes _ (lowest_nodes s p) (λ place n. first_no_lem (nodes_no n b)) λ y.
    let b = nodes_are y b in
    ask_records Says Names [] (lowest_names s p o) (λ place n. first_no_lem (names_no n b)) λ y.
    unfold first_no in all_yes (names_are y b)
  where
    Says : Option Refusal → Type 0
    Says = LayoutSays s

-- A yes to questions 1 to 8 is a script within layout and limits.
pub within_layout : (s : List ℕ) → first_no (layout_questions s) ≡ none → WithinLayout s
within_layout s e = go (rw e at (layout_says s))
  where
    go : LayoutSays s none → WithinLayout s
    go (all_yes (names_are n₈ (nodes_are n₇ (types_are n₆ (owners_are n₅ (interfaces_are n₄ (places_are n₃ (counts_are n₂ (length_is n₁ at_first))))))))) =
        record {
          length_is = n₁;
          counts_are = n₂;
          places_are = n₃;
          interfaces_are = n₄;
          owners_are = n₅;
          types_are = n₆;
          nodes_are = n₇;
          names_are = n₈;
        }

-- A script within layout and limits gets no no to questions 1 to 8.
none_refused : {s : List ℕ} {r : Refusal} → WithinLayout s → LayoutNo s r → ⊥
none_refused w (length_no n b) = n w.length_is
none_refused w (counts_no n b) = n w.counts_are
none_refused w (places_no n b) = n w.places_are
none_refused {s} w (interfaces_no {place = place} n b) = fault_not s (InterfacesAre s) place n.fault w.interfaces_are
none_refused w (owners_no n b) = n w.owners_are
none_refused {s} w (types_no {place = place} n b) = fault_not s (TypesAre s) place n.fault w.types_are
none_refused {s} w (nodes_no {place = place} n b) = fault_not s (NodesAre s) place n.fault w.nodes_are
none_refused {s} w (names_no {place = place} n b) = fault_not s (NamesAre s) place n.fault w.names_are

-- So it gets a yes.
pub layout_passes : (s : List ℕ) → WithinLayout s → first_no (layout_questions s) ≡ none
layout_passes s w = go (layout_says s)
  where
    go : {o : Option Refusal} → LayoutSays s o → o ≡ none
    go (all_yes b) = refl
    go (first_no_lem n) = absurd (none_refused w n)

-- The longest file: the contents, and each section with its most records.
pub longest_file :
    FILE
    ≡ CONTENTS
    + (size_of interfaces * most_of interfaces
    + (size_of signatures * most_of signatures
    + (size_of classes * most_of classes
    + (size_of fields * most_of fields
    + (size_of methods * most_of methods
    + size_of nodes * most_of nodes)))))
longest_file = refl
