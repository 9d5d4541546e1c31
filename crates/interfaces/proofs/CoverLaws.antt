-- What the code of question 10 answers: a law for each return, with the callees' results as variables.
use mathlib.Core.Path.{◌≡◌, refl, sym, ap, ◌∙◌}
use mathlib.Core.Bool.{Bool, true, false, ◌&&◌}
use lib.Dec.{eqb}
use mathlib.Core.List.{List}
use mathlib.Core.Logic.{⊎_elim}
use mathlib.Core.Option.{map}
use Prim.Native.Nat.{ℕ, suc, ◌+◌, ◌-◌, ◌<◌, ◌≤◌}
use native.Mathlib.Omega.{arith}
use lib.ListN.{get_or, set, replicate, length-set, length-replicate}
use Rattle.limits.specs.Limits.{INTERFACES}
use Rattle.std.specs.declared.option.Option.{Option as CodeOption}
use Rattle.std.specs.declared.option.Option.TheVariants.{Some, None}
use Rattle.script.specs.declared.Section.TheVariants.{Interfaces as interfaces, Signatures as signatures, Classes as classes, Methods as methods}
use Rattle.script.specs.Lists.{run, sum_below}
use Rattle.script.specs.Section.{count_of, record_word}
use Rattle.script.specs.Syntax.{lists, extends, an_interface, a_class, declaration_at}
use Rattle.script.specs.Reading.{own_signatures, signature_at, method_at, class_at, program_of}
use Rattle.script.specs.Asking.{Decides, holds, fails}
use Rattle.script.specs.Statements.{WithinLayout, InterfaceWord}
use Rattle.sections.specs.Laid.{found_of}
use Rattle.script.proofs.Tests.{true_false, says_yes, yes_said, no_said, decides_as, decides_and, decides_eq}
use Rattle.script.proofs.Lists.{in_run, run_has}
use Rattle.script.proofs.Declarations.{interface_at_lem, class_at_lem}
use Rattle.script.proofs.Regular.{regular}
use Rattle.typing.specs.Check.{class_test}
use Rattle.typing.specs.Published.{msigs_list, msigs_left, msigs_right, DefIn, MsigsFunction}
use Rattle.typing.specs.Refusals.{ClassIs}
use Rattle.members.specs.declared.Types.{Types}
use Rattle.members.specs.Lookup.{own_named, types_in}
use Rattle.interfaces.specs.Cover.{Defines, Covers, Covered}
use Rattle.typing.proofs.Members.{found_some, found_none, msig_from, msig_by, own_found}
use Rattle.typing.proofs.Joins.{class_one, decides_class}
use Rattle.subtypes.proofs.SubtypeLaws.{reads_list, reads_join, interface_declared, unmarked, marked_more}
use Rattle.members.proofs.LookupLaws.{found_at, found_nothing}
use Rattle.members.proofs.MemberLaws.{own_method_lem}

-- A no, and two tests that decide one statement.
says_no : {P : Type 0} {b : Bool} → Decides P b → b ≡ false → P → ⊥
says_no (holds p) e q = true_false e
says_no (fails n) e q = n q

decided_same : {P : Type 0} {a b : Bool} → Decides P a → Decides P b → a ≡ b
decided_same (holds p) d = sym (yes_said d p)
decided_same (fails n) d = sym (no_said d n)

-- The method of signature i's name that was found among those of class c, or none.
module _ {s : List ℕ} (w : WithinLayout s) (c i name : ℕ) (h : c < count_of s classes) (p : name ≡ record_word s signatures i 0)
    (found : CodeOption ℕ) (o : found ≡ found_of (own_named s methods c name)) where
  pub defines_none : found ≡ None → Decides (Defines s c i) false
  unfolding signature_at
  defines_none q =
      fails
      (λ d.
      found_none
      (own_found (class_at s c) name)
      (own_method_lem s c name ∙ ap (map (λ j. (method_at s j).signature)) (found_nothing (own_named s methods c name) found o q))
      (signature_at s i)
      (d, sym p))

  module _ (j : ℕ) (q : found ≡ Some j) where
    own_def : DefIn (method_at s j).signature (class_at s c).methods × ((method_at s j).signature.name ≡ name)
    own_def =
        found_some
        (method_at s j).signature
        (own_found (class_at s c) name)
        (own_method_lem s c name ∙ ap (map (λ j. (method_at s j).signature)) (found_at (own_named s methods c name) found o j q))

    -- Names are unique in a class, so it is the one that the class would define the signature by.
    defined_same : Defines s c i → signature_at s i ≡ (method_at s j).signature
    unfolding signature_at
    defined_same d =
        let e = class_at_lem s c h in
        class_one (program_of s) (regular s w) (suc (count_of s interfaces + c)) (class_at s c) e (signature_at s i) (method_at s j).signature
        (msig_by (a_class (class_at s c)) e d) (msig_by (a_class (class_at s c)) e own_def.0) (sym p ∙ sym own_def.1)

    pub defines_typed :
        (x g : Types) {r : Bool} → x ≡ types_in s methods j → g ≡ types_in s signatures i → r ≡ eqb x.param g.param && eqb x.result g.result
        → Decides (Defines s c i) r
    unfolding signature_at method_at
    defines_typed x g x_is g_is e =
        rw e
        (decides_as
        (λ t. rw (same t) own_def.0)
        (λ d. (
          ap (λ t. t.param) x_is ∙ sym (ap (λ g. g.param) (defined_same d)) ∙ sym (ap (λ t. t.param) g_is),
          ap (λ t. t.result) x_is ∙ sym (ap (λ g. g.result) (defined_same d)) ∙ sym (ap (λ t. t.result) g_is),
        ))
        (decides_and (decides_eq x.param g.param) (decides_eq x.result g.result)))
      where
        same : (x.param ≡ g.param) × (x.result ≡ g.result) → signature_at s i ≡ (method_at s j).signature
        same t =
            λ k.
            record {
              name = (sym p ∙ sym own_def.1) k;
              param = (sym (ap (λ t. t.param) g_is) ∙ sym t.0 ∙ ap (λ t. t.param) x_is) k;
              result = (sym (ap (λ t. t.result) g_is) ∙ sym t.1 ∙ ap (λ t. t.result) x_is) k;
            }

-- The interface of record i is a list, whose signatures are gone through.
module _ (s : List ℕ) (c i : ℕ) (h : i < count_of s interfaces) (n : record_word s interfaces i 0 ≡ 1 → ⊥) (from count : ℕ)
    (p : from ≡ sum_below (own_signatures s) i) (q : count ≡ own_signatures s i) where
  list_declared : declaration_at (program_of s) (suc i) ≡ an_interface (lists (run (signature_at s) from count))
  list_declared = rw (p, q) (interface_at_lem s i h ∙ ap an_interface (reads_list s i n))

  pub list_no : (j : ℕ) (r : Bool) → from ≤ j → j < from + count → Decides (Defines s c j) r → r ≡ false → Decides (Covers s c (suc i)) false
  list_no j r a b d e = fails (λ all. says_no d e (all (signature_at s j) (msigs_list list_declared (run_has (signature_at s) from count j a b))))

  pub list_yes : (j : ℕ) → from + count ≤ j → ((k : ℕ) → k < j → from ≤ k → Defines s c k) → Decides (Covers s c (suc i)) true
  list_yes j l all =
      holds (λ g m. let x = in_run (signature_at s) from count g (rw list_declared at (msig_from m)) in rw x.is (all x.index (omega (arith, x.upto)) x.from))

-- What is covered of an interface t, whose record is t - 1: all if it is marked, and else what its list or its parents say.
module _ {s : List ℕ} (w : WithinLayout s) (c t : ℕ) (h : InterfaceWord s t) where
  pub cover_marked : (marks : List ℕ) → Covered s c marks → get_or marks (t - 1) 0 ≡ 1 → Decides (Covers s c t) true
  cover_marked marks m e = let q : suc (t - 1) ≡ t = omega arith in holds (rw q at (m.marked (t - 1) e))

  pub cover_list : (r b : Bool) → Decides (Covers s c (suc (t - 1))) r → r ≡ b → Decides (Covers s c t) b
  cover_list r b d e = let q : suc (t - 1) ≡ t = omega arith in rw (q, e) at d

  module _ (form : ℕ) (f : form ≡ record_word s interfaces (t - 1) 0) (e : form ≡ 1) where
    join_declared : declaration_at (program_of s) t ≡ an_interface (extends (record_word s interfaces (t - 1) 1) (record_word s interfaces (t - 1) 2))
    join_declared = interface_declared w t h ∙ ap an_interface (reads_join s (t - 1) (sym f ∙ e))

    module _ (a : ℕ) (x : Bool) (p : a ≡ record_word s interfaces (t - 1) 1) (l : Decides (Covers s c a) x) where
      pub cover_left : x ≡ false → Decides (Covers s c t) false
      cover_left n = fails (λ all. says_no l n (λ g m. all g (msigs_left join_declared (rw p at m))))

      pub cover_right : (b : ℕ) (y r : Bool) → x ≡ true → b ≡ record_word s interfaces (t - 1) 2 → Decides (Covers s c b) y → y ≡ r → Decides (Covers s c t) r
      cover_right b y r z q d k =
          rw k at
          (decides_as {Q = Covers s c t}
          (λ both g m. ⊎_elim (λ i. says_yes l z g (rw p i)) (λ i. both g (rw q i)) (rw join_declared at (msig_from m)))
          (λ all g m. all g (msigs_right join_declared (rw q at m)))
          d)

  -- One that is found to be covered can be marked.
  pub cover_more : (marks : List ℕ) → Covered s c marks → Decides (Covers s c t) true → Covered s c (set marks (t - 1) 1)
  cover_more marks m d =
      let q : suc (t - 1) ≡ t = omega arith in
      record { size = length-set marks (t - 1) 1 ∙ m.size; marked = marked_more (λ k. Covers s c (suc k)) marks (t - 1) m.marked (rw q (says_yes d refl)) }

pub no_covers : (s : List ℕ) (c : ℕ) → Covered s c (replicate INTERFACES 0)
no_covers s c = record { size = length-replicate {A = ℕ} INTERFACES 0; marked = λ k e. absurd (unmarked INTERFACES k e) }

-- A class covers its interface.
pub class_covers : (s : List ℕ) (c t : ℕ) (r : Bool) → t ≡ record_word s classes c 0 → Decides (Covers s c t) r → Decides (ClassIs (program_of s) (class_at s c)) r
unfolding class_at
class_covers s c t r e d = rw e at d

-- What question 10 asks of a class.
abbrev pub covers_test : List ℕ → ℕ → Bool
covers_test s c = class_test (program_of s) (class_at s c)

-- The test of question 10 answers the same of a class.
pub class_test_lem :
    {s : List ℕ} (w : WithinLayout s) → MsigsFunction (program_of s) → (c : ℕ) (r b : Bool) → c < count_of s classes → Decides (ClassIs (program_of s) (class_at s c)) r → r ≡ b
    → class_test (program_of s) (class_at s c) ≡ b
class_test_lem {s} w one c r b h d e = decided_same (decides_class (program_of s) (regular s w) one (suc (count_of s interfaces + c)) (class_at s c) (class_at_lem s c h)) d ∙ e
