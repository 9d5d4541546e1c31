-- What the code of the subtype question answers: a law for each return, with the callees' results as variables.
use mathlib.Core.Path.{◌≡◌, refl, sym, ap, ◌∙◌}
use mathlib.Core.Bool.{Bool, true, false, ◌||◌}
use mathlib.Core.List.{List}
use Prim.Native.Nat.{ℕ, zero, suc, ◌+◌, ◌-◌, ◌<◌, ◌≤◌}
use native.Mathlib.Omega.{arith}
use lib.Dec.{eqb}
use lib.ListN.{length, get_or, set, replicate}
use lib.Seq.{get_or-set_other}
use borrow.Author.Tests.{eq-eqb, ne_eqb, le-ltb, eqb-true, eqb-false}
use Rattle.limits.specs.Limits.{INTERFACES, CLASSES}
use Rattle.script.specs.declared.Section.{Section}
use Rattle.script.specs.declared.Section.TheVariants.{Interfaces as interfaces, Signatures as signatures, Classes as classes, Fields as fields, Methods as methods, Nodes as nodes}
use Rattle.script.specs.Lists.{run, sum_below}
use Rattle.script.specs.Section.{count_of, record_word}
use Rattle.script.specs.Syntax.{Signature, Interface, lists, extends, Program, Declaration, a_unit, an_interface, a_class, an_int, no_type, int_of, declared, declaration_at}
use Rattle.script.specs.Reading.{own_signatures, signature_at, interface_at, class_at, program_of}
use Rattle.script.specs.Statements.{Earlier, InterfaceIs, a_list, a_join, InterfaceWord, WithinLayout}
use Rattle.script.specs.Regular.{IsInterface, Regular}
use Rattle.script.proofs.Declarations.{length_interfaces, length_classes, interface_at_lem, class_at_lem, an_interface_at}
use Rattle.script.proofs.Regular.{regular}
use Rattle.subtypes.specs.declared.Declared.{Declared}
use Rattle.subtypes.specs.declared.Declared.TheVariants.{Interface as is_interface, Class as is_class, Neither as is-neither}
use Rattle.typing.specs.Members.{reach, reach_from, below}
use Rattle.subtypes.specs.Subtypes.{Memberless, DeclaredAs, as_interface, as_class, as_neither}
use Rattle.typing.proofs.Types.{from_parents}
use Rattle.typing.proofs.Values.{value_lists, value_extends}
use Rattle.sections.specs.Laid.{Laid, own_of}

-- A script that gets a yes to questions 1 to 8 got one to the first three.
pub laid : {s : List ℕ} → WithinLayout s → Laid s
laid w = record { length_is = w.length_is; counts_are = w.counts_are; places_are = w.places_are }

-- What an interface record is read as, by its form.
pub reads_list : (s : List ℕ) (i : ℕ) → (record_word s interfaces i 0 ≡ 1 → ⊥) → interface_at s i ≡ lists (run (signature_at s) (sum_below (own_signatures s) i) (own_signatures s i))
unfolding interface_at
reads_list s i n = rw (ne_eqb _ 1 n)

pub reads_join : (s : List ℕ) (i : ℕ) → record_word s interfaces i 0 ≡ 1 → interface_at s i ≡ extends (record_word s interfaces i 1) (record_word s interfaces i 2)
unfolding interface_at
reads_join s i e = rw (eq-eqb _ 1 e)

-- A join's parents are earlier interfaces.
join_parents : {s : List ℕ} {i : ℕ} → InterfaceIs s i → record_word s interfaces i 0 ≡ 1 → Earlier i (record_word s interfaces i 1) × Earlier i (record_word s interfaces i 2)
join_parents (a_list form unused) e = absurd (omega arith)
join_parents (a_join form a b) e = (a, b)

module _ {s : List ℕ} (w : WithinLayout s) (i form : ℕ) (l : i < count_of s interfaces) (f : form ≡ record_word s interfaces i 0) (e : form ≡ 1) (a : ℕ) where
  pub left_earlier : a ≡ record_word s interfaces i 1 → Earlier i a
  left_earlier p = rw p (join_parents (w.interfaces_are.0 i l) (sym f ∙ e)).0

  pub right_earlier : a ≡ record_word s interfaces i 2 → Earlier i a
  right_earlier p = rw p (join_parents (w.interfaces_are.0 i l) (sym f ∙ e)).1

-- a list of signatures is below itself, a join below itself and what its parents are below
module _ (p : Program) (ok : Regular p) (u : ℕ) where
  reach_lists : (t : ℕ) (gs : List Signature) → declaration_at p t ≡ an_interface (lists gs) → reach p t u ≡ eqb t u
  unfolding reach
  reach_lists t gs e = value_lists (λ v gs. eqb v u) (λ v a b. eqb v u || (a || b)) false p t gs e

  reach_extends : (t a b : ℕ) → declaration_at p t ≡ an_interface (extends a b) → reach p t u ≡ eqb t u || (reach p a u || reach p b u)
  unfolding reach
  reach_extends t a b e = value_extends (λ v gs. eqb v u) (λ v a b. eqb v u || (a || b)) false p ok t a b e

  reach_itself : (t : ℕ) → IsInterface p t → t ≡ u → reach p t u ≡ true
  reach_itself t h e = go (an_interface_at p t h).0 (an_interface_at p t h).1
    where
      go : (i : Interface) → declaration_at p t ≡ an_interface i → reach p t u ≡ true
      go (lists gs) d = reach_lists t gs d ∙ eq-eqb t u e
      go (extends a b) d = reach_extends t a b d ∙ rw (eq-eqb t u e)

  -- nothing leads to Unit, and parents are earlier, so nothing leads to a later type
  reach_before : (t : ℕ) → IsInterface p t → u ≡ 0 → 0 < t → reach p t u ≡ false
  reach_before =
      from_parents p ok (λ t. u ≡ 0 → 0 < t → reach p t u ≡ false)
      (λ t gs e z h. reach_lists t gs e ∙ ne_eqb t u (omega arith))
      (λ t a b e left right z h.
      let r = ok.interfaces t (extends a b) e in
      reach_extends t a b e ∙ rw (ne_eqb t u (omega arith), left z (omega (arith, r.0)), right z (omega (arith, r.2))))

  reach_later : (t : ℕ) → IsInterface p t → t < u → reach p t u ≡ false
  reach_later =
      from_parents p ok (λ t. t < u → reach p t u ≡ false)
      (λ t gs e h. reach_lists t gs e ∙ ne_eqb t u (omega arith))
      (λ t a b e left right h.
      let r = ok.interfaces t (extends a b) e in
      reach_extends t a b e ∙ rw (ne_eqb t u (omega arith), left (omega (arith, r.1)), right (omega (arith, r.3))))

-- No mark stands in a table of zeros, and one more can be made of what is known.
pub unmarked : (n k : ℕ) → get_or {A = ℕ} (replicate n 0) k 0 ≡ 1 → ⊥
unmarked zero k e = omega arith
unmarked (suc n) zero e = omega arith
unmarked (suc n) (suc k) e = unmarked n k e

pub marked_more : (P : ℕ → Type 0) (marks : List ℕ) (i : ℕ) → ((k : ℕ) → get_or marks k 0 ≡ 1 → P k) → P i → (k : ℕ) → get_or (set marks i 1) k 0 ≡ 1 → P k
marked_more P marks i all here k e = go (eqb k i) refl
  where
    go : (b : Bool) → eqb k i ≡ b → P k
    go true q = rw (eqb-true k i q) here
    go false q = all k (sym (get_or-set_other marks i k 1 0 (eqb-false k i q)) ∙ e)

-- The record of an interface is there.
pub record_there : {s : List ℕ} {t : ℕ} → InterfaceWord s t → t - 1 < count_of s interfaces
record_there h = omega (arith, h.first, h.last)

pub record_small : {s : List ℕ} {t : ℕ} → WithinLayout s → InterfaceWord s t → t - 1 < INTERFACES
record_small w h = omega (arith, record_there h, w.counts_are.within interfaces)

-- An earlier interface than t is an interface, with a smaller number.
pub earlier_interface : {s : List ℕ} {t a : ℕ} → InterfaceWord s t → Earlier (t - 1) a → InterfaceWord s a × (a < t)
earlier_interface h x = (record { first = x.first; last = omega arith }, omega arith)

module _ {s : List ℕ} (w : WithinLayout s) where
  interface_word : (t : ℕ) → InterfaceWord s t → IsInterface (program_of s) t
  interface_word t h = record { first = h.first; last = rw (length_interfaces s) h.last }

  pub interface_declared : (t : ℕ) → InterfaceWord s t → declaration_at (program_of s) t ≡ an_interface (interface_at s (t - 1))
  interface_declared t h = let e : suc (t - 1) ≡ t = omega arith in rw e at (interface_at_lem s (t - 1) (omega arith))

  -- What the interface of record i leads to: itself, no type that is not an interface, and what it is below as a list, or as a join with these parents.
  module _ (i u : ℕ) (h : i < count_of s interfaces) where
    record_word_lem : InterfaceWord s (suc i)
    record_word_lem = record { first = omega arith; last = omega arith }

    pub leads_itself : suc i ≡ u → reach (program_of s) (suc i) u ≡ true
    leads_itself e = reach_itself (program_of s) (regular s w) u (suc i) (interface_word (suc i) record_word_lem) e

    pub leads_unit : u ≡ 0 → false ≡ reach (program_of s) (suc i) u
    leads_unit e = sym (reach_before (program_of s) (regular s w) u (suc i) (interface_word (suc i) record_word_lem) e (omega arith))

    pub leads_later : suc i < u → false ≡ reach (program_of s) (suc i) u
    leads_later l = sym (reach_later (program_of s) (regular s w) u (suc i) (interface_word (suc i) record_word_lem) l)

    module _ (off : suc i ≡ u → ⊥) where
      pub leads_list : (record_word s interfaces i 0 ≡ 1 → ⊥) → reach (program_of s) (suc i) u ≡ false
      leads_list n =
          reach_lists (program_of s) (regular s w) u (suc i) _ (interface_at_lem s i h ∙ ap an_interface (reads_list s i n)) ∙ ne_eqb (suc i) u off

      pub leads_join :
          record_word s interfaces i 0 ≡ 1
          → reach (program_of s) (record_word s interfaces i 1) u || reach (program_of s) (record_word s interfaces i 2) u ≡ reach (program_of s) (suc i) u
      leads_join e =
          rw (reach_extends (program_of s) (regular s w) u (suc i) _ _ (interface_at_lem s i h ∙ ap an_interface (reads_join s i e)), ne_eqb (suc i) u off)

-- Past the last class is Int, or no type.
past_classes : (p : Program) (i : ℕ) (b : Bool) → Memberless (declared p i false false b)
past_classes p i true = tt
past_classes p i false = tt

-- What a type number is: Unit, an interface, a class, or past the last class.
module _ (s : List ℕ) (t : ℕ) where
  pub declares_unit : t ≡ 0 → DeclaredAs s t is-neither
  unfolding declaration_at
  declares_unit e = as_neither (rw e tt)

  module _ (n : ℕ) (p : n ≡ count_of s interfaces) (z : t ≡ 0 → ⊥) where
    pub declares_interface : t - 1 < n → DeclaredAs s t (is_interface (t - 1))
    declares_interface l = as_interface {i = t - 1} (omega arith) (omega arith)

    module _ (l : n ≤ t - 1) (m : ℕ) (q : m ≡ count_of s classes) where
      pub declares_class : t - 1 - n < m → DeclaredAs s t (is_class (t - 1 - n))
      declares_class k = as_class {c = t - 1 - n} (omega arith) (omega arith)

      pub declares_none : m ≤ t - 1 - n → DeclaredAs s t is-neither
      unfolding declaration_at
      declares_none k =
          let e : t ≡ suc (t - 1) = omega arith in
          as_neither
          (rw (
            e,
            le-ltb (t - 1) (length (program_of s).interfaces) (omega (arith, length_interfaces s)),
            le-ltb (t - 1) (length (program_of s).interfaces + length (program_of s).classes) (omega (arith, length_interfaces s, length_classes s)),
          )
          (past_classes (program_of s) (t - 1) (eqb (suc (t - 1)) (int_of (program_of s)))))

-- The type number of Int, from the two counts.
module _ {s : List ℕ} (w : WithinLayout s) (i c : ℕ) (ei : i ≡ count_of s interfaces) (ec : c ≡ count_of s classes) where
  pub int_small : i + c + 1 < INTERFACES + CLASSES + 2
  int_small = omega (arith, w.counts_are.within interfaces, w.counts_are.within classes)

  pub int_is : i + c + 1 ≡ int_of (program_of s)
  int_is = omega (arith, length_interfaces s, length_classes s)

-- What the code learns of a type number that it is told to be the type of an interface or a class, or neither.
module _ {s : List ℕ} {t : ℕ} {d : Declared} (h : DeclaredAs s t d) where
  pub interface_there : {i : ℕ} → d ≡ is_interface i → (i < count_of s interfaces) × (t ≡ suc i)
  interface_there e = go h e
    where
      go : {x : Declared} {i : ℕ} → DeclaredAs s t x → x ≡ is_interface i → (i < count_of s interfaces) × (t ≡ suc i)
      go {i = i} (as_interface {i = j} l q) e = let z : j ≡ i = cc in (omega arith, omega arith)
      go (as_class l q) e = absurd (let z : ◌≡◌ {A = ℕ} 0 1 = cc in omega arith)
      go (as_neither m) e = absurd (let z : ◌≡◌ {A = ℕ} 0 1 = cc in omega arith)

  pub class_there : {c : ℕ} → d ≡ is_class c → (c < count_of s classes) × (t ≡ suc (count_of s interfaces + c))
  class_there e = go h e
    where
      go : {x : Declared} {c : ℕ} → DeclaredAs s t x → x ≡ is_class c → (c < count_of s classes) × (t ≡ suc (count_of s interfaces + c))
      go (as_interface l q) e = absurd (let z : ◌≡◌ {A = ℕ} 0 1 = cc in omega arith)
      go {c = c} (as_class {c = j} l q) e = let z : j ≡ c = cc in (omega arith, omega arith)
      go (as_neither m) e = absurd (let z : ◌≡◌ {A = ℕ} 0 1 = cc in omega arith)

  pub type_neither : d ≡ is-neither → Memberless (declaration_at (program_of s) t)
  type_neither e = go h e
    where
      go : {x : Declared} → DeclaredAs s t x → x ≡ is-neither → Memberless (declaration_at (program_of s) t)
      go (as_interface l q) e = absurd (let z : ◌≡◌ {A = ℕ} 0 1 = cc in omega arith)
      go (as_class l q) e = absurd (let z : ◌≡◌ {A = ℕ} 0 1 = cc in omega arith)
      go (as_neither m) e = m

  pub type_interface : {i : ℕ} → d ≡ is_interface i → declaration_at (program_of s) t ≡ an_interface (interface_at s i)
  type_interface {i} e = let x = interface_there e in rw x.1 (interface_at_lem s i x.0)

  pub type_class : {c : ℕ} → d ≡ is_class c → declaration_at (program_of s) t ≡ a_class (class_at s c)
  type_class {c} e = let x = class_there e in rw x.1 (class_at_lem s c x.0)

  -- The subtype question: an interface and a class are walked up from.
  module _ (u : ℕ) (off : t ≡ u → ⊥) where
    pub below_interface : {i : ℕ} (r : Bool) → d ≡ is_interface i → r ≡ reach (program_of s) t u → r ≡ below (program_of s) t u
    unfolding below
    below_interface r e q = rw (ne_eqb t u off, type_interface e) q

    pub below_class : {c : ℕ} (i : ℕ) (r : Bool) → d ≡ is_class c → i ≡ record_word s classes c 0 → r ≡ reach (program_of s) i u → r ≡ below (program_of s) t u
    unfolding below class_at
    below_class i r e p q = rw (ne_eqb t u off, type_class e, ← p) q

    pub below_neither : d ≡ is-neither → false ≡ below (program_of s) t u
    unfolding below
    below_neither e = rw (ne_eqb t u off) (go (declaration_at (program_of s) t) (type_neither e))
      where
        go : (x : Declaration) → Memberless x → false ≡ reach_from (program_of s) t u x
        go a_unit m = refl
        go (an_interface i) m = absurd m
        go (a_class c) m = absurd m
        go an_int m = refl
        go no_type m = refl

-- What is led to by the byte of a number is led to by the number.
pub led : (p : Program) (t g u : ℕ) (r : Bool) → g ≡ u → r ≡ reach p t g → r ≡ reach p t u
led p t g u r e h = rw e at h

pub below_itself : (s : List ℕ) (t u : ℕ) → t ≡ u → true ≡ below (program_of s) t u
unfolding below
below_itself s t u e = rw (eq-eqb t u e)

-- A class's interface is an interface.
pub class_interface : {s : List ℕ} (w : WithinLayout s) (c i : ℕ) → c < count_of s classes → i ≡ record_word s classes c 0 → InterfaceWord s i
class_interface w c i h e = rw e (w.types_are.1.0 c h)

-- What is read off a declaration, and is the same for all but a class, is so for a type that is declared as none.
pub but_class :
    {A : Type 0} (f : Declaration → A) (e : A) → f a_unit ≡ e → ((i : Interface) → f (an_interface i) ≡ e) → f an_int ≡ e → f no_type ≡ e
    → {s : List ℕ} {t : ℕ} {d : Declared} → DeclaredAs s t d → ((c : ℕ) → d ≡ is_class c → ⊥) → f (declaration_at (program_of s) t) ≡ e
but_class {A} f e unit interface int none {s} {t} {d} h n = go d refl
  where
    none_of : (x : Declaration) → Memberless x → f x ≡ e
    none_of a_unit m = unit
    none_of (an_interface i) m = absurd m
    none_of (a_class c) m = absurd m
    none_of an_int m = int
    none_of no_type m = none

    go : (x : Declared) → d ≡ x → f (declaration_at (program_of s) t) ≡ e
    go (is_interface i) q = ap f (type_interface h q) ∙ interface (interface_at s i)
    go (is_class c) q = absurd (n c q)
    go is-neither q = none_of (declaration_at (program_of s) t) (type_neither h q)

-- Interfaces, classes and nodes have no owners' runs.
pub sum_none : (n : ℕ) → sum_below (λ o. 0) n ≡ 0
unfolding sum_below
sum_none zero = refl
sum_none (suc n) = omega (arith, sum_none n)

pub run_of_none : (s : List ℕ) (k : Section) (o : ℕ) → (k ≡ signatures → ⊥) → (k ≡ fields → ⊥) → (k ≡ methods → ⊥) → 0 ≡ sum_below (own_of s k) o
run_of_none s interfaces o a b c = sym (sum_none o)
run_of_none s signatures o a b c = absurd (a refl)
run_of_none s classes o a b c = sym (sum_none o)
run_of_none s fields o a b c = absurd (b refl)
run_of_none s methods o a b c = absurd (c refl)
run_of_none s nodes o a b c = sym (sum_none o)
