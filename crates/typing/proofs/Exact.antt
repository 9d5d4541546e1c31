-- Check accepts exactly the programs that the published rules type, and refuses with the first no.
use Prim.Native.Nat.{ℕ, suc, ◌+◌, ◌<◌, ◌≤◌}
use mathlib.Core.Path.{◌≡◌, refl}
use mathlib.Core.List.{List, []}
use mathlib.Core.Logic.{◌↔◌, ⊎_elim}
use mathlib.Core.Option.{Option, none, some}
use native.Mathlib.Nat.{eq-or-lt_of_le}
use native.Mathlib.Omega.{arith}
use Rattle.script.specs.declared.Question.{Question}
use Rattle.script.specs.declared.Question.TheVariants.{Length, Counts, Places, Interfaces, Owners, Types, Nodes, Names, Joins, Classes}
use Rattle.script.specs.Lists.{◌∈◌}
use Rattle.script.specs.declared.Section.TheVariants.{Interfaces as interfaces, Classes as classes, Nodes as nodes}
use Rattle.script.specs.Section.{sections, count_of, record_at}
use Rattle.script.specs.Syntax.{Point, Method, Interface, lists, extends, Class, declaration_at, an_interface, a_class}
use Rattle.script.specs.Reading.{interface_at, class_at, program_of}
use Rattle.script.specs.declared.Refusal.{Refusal}
use Rattle.script.specs.Asking.{rank_of, first_no, lowest_in, Each, Lowest}
use Rattle.script.specs.Questions.{layout_questions}
use Rattle.script.specs.Statements.{WithinLayout}
use Rattle.script.specs.Regular.{RegularInterface}
use Rattle.script.proofs.Lists.{lt_or_le}
use Rattle.script.proofs.Declarations.{is_interface, interface_at_lem, interface_from, class_at_lem, class_from}
use Rattle.script.proofs.Lowest.{no_more, asked, passed, lowest, lowest_none, ask_records}
use Rattle.script.proofs.LayoutLaws.{Before, at_first, length_is, counts_are, places_are, interfaces_are, owners_are, types_are, nodes_are, names_are, LayoutSays, all_yes, first_no_lem, layout_says, within_layout, layout_passes}
use Rattle.script.proofs.Regular.{regular}
use Rattle.std.specs.declared.result.Result.TheVariants.{Ok}
use Rattle.typing.specs.Answers.{Answer, Verdict, refusal}
use Rattle.typing.specs.Typing.{Body, bodies_of, walk}
use Rattle.typing.specs.Check.{joins_test, classes_test, member_questions, refused_or, walked, check_of}
use Rattle.typing.specs.Published.{MsigsFunction, Infer, WfInterface, WF-INTERFACE, WF-INTERFACE-EXTENDS, WF-FIELD, WF-METHOD, WfMethod, WfClass, WF-CLASS, WfProgram, WF-PROGRAM}
use Rattle.typing.specs.Refusals.{JoinIs, JoinsAre, ClassIs, ClassesAre, of_walk, statement_of, Yes, No, NodeNo, FirstNo}
use Rattle.typing.proofs.First.{Order, before_walk, on_walk, order, rank_same, one_more, before, first, walk_no_walk, walk_last, yes_no, same_place_lem}
use Rattle.typing.proofs.Types.{type_wf}
use Rattle.typing.proofs.Joins.{decides_join, joins_function, function_joins, decides_class}
use Rattle.typing.proofs.Bodies.{body_in, in_bodies}
use Rattle.typing.proofs.Walk.{BodyChecks, ListNo, Walked, walks, halts, walked_by, walk_complete, walk_no_complete}
use Rattle.typing.proofs.MethodOrder.{walk_no_exactly}

module _ (s : List ℕ) (w : WithinLayout s) where
  join_at_lem : (t i : ℕ) (j : Interface) → t ≡ suc i → j ≡ interface_at s i → JoinIs (program_of s) (suc i) (interface_at s i) → JoinIs (program_of s) t j
  join_at_lem t i j e d h = rw (e, d) h

  -- Question 9 finds the lowest join with two meanings for a name.
  pub joins_lowest : Lowest s (JoinsAre s) (lowest_in s (joins_test s (program_of s)))
  unfolding joins_test sections
  joins_lowest =
      lowest s w.places_are
      (asked
      (λ i h f.
      decides_join (program_of s) (regular s w) (suc i) (interface_at s i) (interface_at_lem s i h)
      (λ u j l d. let x = interface_from s u j d in join_at_lem u x.0 j x.2 x.3 (f x.0 (omega (arith, x.2)))))
      (passed (passed (passed (passed (passed no_more))))))

  -- Question 10 finds the lowest class that lacks a method of its interface.
  pub classes_lowest : MsigsFunction (program_of s) → Lowest s (ClassesAre s) (lowest_in s (classes_test s (program_of s)))
  unfolding classes_test sections
  classes_lowest one =
      lowest s w.places_are
      (passed
      (passed
      (asked
      (λ i h f. decides_class (program_of s) (regular s w) one (suc (count_of s interfaces + i)) (class_at s i) (class_at_lem s i h))
      (passed (passed (passed no_more))))))

  -- Each join has one meaning for a name, so every type has.
  pub one_meaning : Each s (JoinsAre s) → MsigsFunction (program_of s)
  one_meaning f =
      joins_function (program_of s) (regular s w)
      (λ t i d. let x = interface_from s t i d in join_at_lem t x.0 i x.2 x.3 (f.0 x.0 x.1))

  -- Figure 3 for the interfaces and, with question 10 and the bodies, for the classes.
  wf_interface : (t : ℕ) (i : Interface) → RegularInterface (program_of s) t i → declaration_at (program_of s) t ≡ an_interface i → WfInterface (program_of s) i
  wf_interface t (lists gs) r d = WF-INTERFACE (λ g m. let h = r.0 g m in ((type_wf (program_of s) g.param).0 h.param, (type_wf (program_of s) g.result).0 h.result))
  wf_interface t (extends a b) r d =
      let i = is_interface (program_of s) t (extends a b) d in
      WF-INTERFACE-EXTENDS ((type_wf (program_of s) a).0 (omega (arith, i.last))) ((type_wf (program_of s) b).0 (omega (arith, i.last)))

  wf_class : (t : ℕ) (c : Class) → declaration_at (program_of s) t ≡ a_class c → ClassIs (program_of s) c → ((b : Body) → b ∈ bodies_of (program_of s) → BodyChecks (program_of s) b) → WfClass (program_of s) t c
  wf_class t c d h f =
      let r = (regular s w).classes t c d in
      WF-CLASS h
      (λ g m. WF-FIELD ((type_wf (program_of s) g.type).0 (r.field_types g m)))
      (λ m k. WF-METHOD (f (record { class = t; method = m }) (in_bodies (program_of s) t c m d k)))

  wf_program :
      {t : ℕ}
      → Each s (JoinsAre s)
      → Each s (ClassesAre s)
      → ((b : Body) → b ∈ bodies_of (program_of s) → BodyChecks (program_of s) b)
      → Infer (program_of s) [] (program_of s).start t
      → WfProgram (program_of s) t
  wf_program joins covers f h =
      WF-PROGRAM (one_meaning joins)
      (λ u i d. wf_interface u i ((regular s w).interfaces u i d) d)
      (λ u c d. let x = class_from s u c d in wf_class u c d (rw x.3 (covers.0 x.0 x.1)) f)
      h

  -- What the rules ask is what questions 9 and 10 and the walk ask.
  joins_pass : MsigsFunction (program_of s) → Each s (JoinsAre s)
  joins_pass one = (λ i h. function_joins (program_of s) (regular s w) one (suc i) (interface_at s i), tt)

  covers_of : {t : ℕ} {c : Class} → WfClass (program_of s) t c → ClassIs (program_of s) c
  covers_of (WF-CLASS h f m) = h

  classes_pass : ((u : ℕ) (c : Class) → declaration_at (program_of s) u ≡ a_class c → WfClass (program_of s) u c) → Each s (ClassesAre s)
  classes_pass f = (λ i h. covers_of (f (suc (count_of s interfaces + i)) (class_at s i) (class_at_lem s i h)), tt)

  method_of : {t : ℕ} {c : Class} {m : Method} → WfClass (program_of s) t c → m ∈ c.methods → WfMethod (program_of s) t m
  method_of (WF-CLASS h f g) k = g _ k

  check_of_lem : {t : ℕ} {m : Method} → WfMethod (program_of s) t m → BodyChecks (program_of s) (record { class = t; method = m })
  check_of_lem (WF-METHOD c) = c

  bodies_pass : ((u : ℕ) (c : Class) → declaration_at (program_of s) u ≡ a_class c → WfClass (program_of s) u c) → (b : Body) → b ∈ bodies_of (program_of s) → BodyChecks (program_of s) b
  bodies_pass f b m = let i = body_in (program_of s) b m in check_of_lem (method_of (f b.class i.class i.declared) i.there)

  -- A program that the rules type is accepted, with its type.
  accepts : {t : ℕ} → WfProgram (program_of s) t → check_of s ≡ Ok t
  unfolding check_of member_questions first_no
  accepts {t} (WF-PROGRAM one wi wc h) =
      rw (layout_passes s w, lowest_none joins_lowest (joins_pass one), lowest_none (classes_lowest one) (classes_pass wc), walk_complete (program_of s) (regular s w) one (bodies_of (program_of s)) t (bodies_pass wc) h)

-- What Check's answer says: the script is within layout and limits and the rules give its program this type, or the refusal is the first no.
pub data Says (s : List ℕ) : Verdict → Type 0 where
  accepted : {t : ℕ} → WithinLayout s → WfProgram (program_of s) t → Says s (Ok t)
  refused : {q : Question} {place : ℕ} → FirstNo s q place → Says s (refusal q place)

module _ (s : List ℕ) (w : WithinLayout s) (b : Before s Joins) where
  -- a no of the walk, after a yes to questions 1 to 10
  walk_first : (q : Question) (k : Point) → Each s (JoinsAre s) → Each s (ClassesAre s) → ListNo (program_of s) (bodies_of (program_of s)) q k → FirstNo s q (record_at s nodes k)
  walk_first q k joins covers n =
      record {
        before = λ r h. one_more s Classes (omega arith) covers (one_more s Joins (omega arith) joins (before s b)) r (walk_last s q r (walk_no_walk n s) h);
        no = rw (walk_no_walk n s) (record { node = k; no = (walk_no_exactly s w q k).0 n; there = refl });
      }

  walk_says : {r : Answer} → Each s (JoinsAre s) → Each s (ClassesAre s) → Walked (program_of s) (bodies_of (program_of s)) r → Says s (walked s r)
  walk_says joins covers (walks f h) = accepted w (wf_program s w joins covers f h)
  walk_says joins covers (halts {q} {k} n) = refused (walk_first q k joins covers n)

  members_say : Says s (refused_or (first_no (member_questions s (program_of s))) (walked s (walk (program_of s) (bodies_of (program_of s)))))
  unfolding member_questions
  members_say =
      ask_records On Joins _ (joins_lowest s w)
      (λ place n. refused (record { before = before s b; no = n })) λ joins.
      ask_records On Classes [] (classes_lowest s w (one_meaning s w joins))
      (λ place n. refused (record { before = one_more s Joins (omega arith) joins (before s b); no = n })) λ covers.
      unfold first_no in walk_says joins covers (walked_by (program_of s) (regular s w) (bodies_of (program_of s)) (body_in (program_of s)))
    where
      On : Option Refusal → Type 0
      On o = Says s (refused_or o (walked s (walk (program_of s) (bodies_of (program_of s)))))

-- Check answers so on every list of bytes.
pub check_says : (s : List ℕ) → Says s (check_of s)
unfolding check_of
check_says s = go (first_no (layout_questions s)) refl (layout_says s)
  where
    go : (o : Option Refusal) → first_no (layout_questions s) ≡ o → LayoutSays s o → Says s (refused_or o (refused_or (first_no (member_questions s (program_of s))) (walked s (walk (program_of s) (bodies_of (program_of s))))))
    go none e (all_yes b) = members_say s (within_layout s e) b
    go (some r) e (first_no_lem n) = refused (first s n)

accepted_typed : {s : List ℕ} {t : ℕ} → Says s (Ok t) → WfProgram (program_of s) t
accepted_typed (accepted w h) = h

refused_first : {s : List ℕ} {q : Question} {place : ℕ} → Says s (refusal q place) → FirstNo s q place
refused_first (refused n) = n

-- Exactness, demand 2: a script within layout and limits is accepted with type t exactly when the published rules give its program type t.
pub exact : (s : List ℕ) → WithinLayout s → (t : ℕ) → (check_of s ≡ Ok t) ↔ WfProgram (program_of s) t
exact s w t = (λ e. accepted_typed (rw e at (check_says s)), accepts s w)

-- There is one such type at most.
pub one_type : (s : List ℕ) → WithinLayout s → (t u : ℕ) → WfProgram (program_of s) t → WfProgram (program_of s) u → t ≡ u
one_type s w t u h k = let a = accepts s w h in let b = accepts s w k in cc

-- A script that is not within layout and limits is refused.
pub outside_refused : (s : List ℕ) (t : ℕ) → check_of s ≡ Ok t → WithinLayout s
outside_refused s t e = go (rw e at (check_says s))
  where
    go : Says s (Ok t) → WithinLayout s
    go (accepted w h) = w

module _ (s : List ℕ) where
  -- what comes before a no of the walk
  layout_before : ((r : Question) → rank_of r < 10 → Yes s r) → WithinLayout s
  layout_before f =
      record {
        length_is = f Length (omega arith);
        counts_are = f Counts (omega arith);
        places_are = f Places (omega arith);
        interfaces_are = f Interfaces (omega arith);
        owners_are = f Owners (omega arith);
        types_are = f Types (omega arith);
        nodes_are = f Nodes (omega arith);
        names_are = f Names (omega arith);
      }

  walk_refuses : (q : Question) (place : ℕ) → ((r : Question) → rank_of r < 10 → Yes s r) → NodeNo s q place → check_of s ≡ refusal q place
  unfolding check_of member_questions first_no
  walk_refuses q place f n =
      let w = layout_before f in
      let one = one_meaning s w (f Joins (omega arith)) in
      rw (layout_passes s w, lowest_none (joins_lowest s w) (f Joins (omega arith)), lowest_none (classes_lowest s w one) (f Classes (omega arith)), walk_no_complete (program_of s) (regular s w) one ((walk_no_exactly s w q n.node).1 n.no), n.there)

  -- an accepted script gets a yes to questions 1 to 10
  accepted_yes : {t : ℕ} → WithinLayout s → WfProgram (program_of s) t → (q : Question) → rank_of q < 10 → Yes s q
  accepted_yes w (WF-PROGRAM one wi wc h) =
      one_more s Classes (omega arith) (classes_pass s w wc)
      (one_more s Joins (omega arith) (joins_pass s w one)
      (before s
      (names_are w.names_are (nodes_are w.nodes_are (types_are w.types_are (owners_are w.owners_are (interfaces_are w.interfaces_are (places_are w.places_are (counts_are w.counts_are (length_is w.length_is at_first))))))))))

  -- the answer of a script with a first no before the walk
  early_refuses : (q : Question) (place : ℕ) → FirstNo s q place → rank_of q ≤ 9 → (statement_of s q ≡ of_walk → ⊥) → {v : Verdict} → Says s v → v ≡ refusal q place
  early_refuses q place n h e (accepted w k) = absurd (yes_no s q place (statement_of s q) e (accepted_yes w k q (omega arith)) n.no)
  early_refuses q place n h e (refused {q = r} {place = other} m) =
      ⊎_elim
      (λ (l : rank_of q < rank_of r). absurd (yes_no s q place (statement_of s q) e (m.before q l) n.no))
      (λ l.
      ⊎_elim
      (λ (d : rank_of r ≡ rank_of q). same r other (rank_same r q h d) m.no)
      (λ (g : rank_of r < rank_of q). absurd (earlier r other g (n.before r g) m.no (order s r)))
      (eq-or-lt_of_le l))
      (lt_or_le (rank_of q) (rank_of r))
    where
      same : (r : Question) (other : ℕ) → r ≡ q → No s r other → refusal r other ≡ refusal q place
      same r other d m =
          let o : No s q other = rw d at m in
          let c : other ≡ place = same_place_lem s q q other place (statement_of s q) e o n.no in
          cc

      earlier : (r : Question) (other : ℕ) → rank_of r < rank_of q → Yes s r → No s r other → Order s r → ⊥
      earlier r other g y m (before_walk k d) = yes_no s r other (statement_of s r) d y m
      earlier r other g y m (on_walk k d) = omega arith

-- The refusal is the first no, and there is one at most: Check refuses with a question and a place exactly where that question gets the first no, at that place.
pub refused_exact : (s : List ℕ) (q : Question) (place : ℕ) → (check_of s ≡ refusal q place) ↔ FirstNo s q place
refused_exact s q place = (λ e. refused_first (rw e at (check_says s)), λ n. go n (order s q))
  where
    go : FirstNo s q place → Order s q → check_of s ≡ refusal q place
    go n (before_walk h e) = early_refuses s q place n h e (check_says s)
    go n (on_walk h e) = walk_refuses s q place (λ r l. n.before r (omega arith)) (rw e at n.no)
