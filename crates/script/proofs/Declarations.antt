-- What a type number stands for, in any program and in the one that a script is read as.
use Prim.Native.Nat.{ℕ, zero, suc, ◌+◌, ◌-◌, ◌<◌, ◌≤◌}
use mathlib.Core.Path.{◌≡◌, refl, ap, ◌∙◌}
use mathlib.Core.Bool.{Bool, true, false}
use mathlib.Core.List.{List, []}
use native.Mathlib.Omega.{arith}
use lib.Dec.{eqb, ltb}
use lib.ListN.{length, get_or}
use borrow.Author.Tests.{eqb-true, eq-eqb, ltb-true, ltb-false, lt-ltb, le-ltb}
use Rattle.script.specs.Lists.{run}
use Rattle.script.specs.Section.{interfaces, classes, count_of}
use Rattle.script.specs.Syntax.{Interface, lists, Class, Program, an_interface, a_class, an_int, int_of, declared, declaration_at}
use Rattle.script.specs.Reading.{interface_at, class_at, program_of}
use Rattle.script.specs.Regular.{IsClass, IsInterface}
use Rattle.script.proofs.Lists.{length_run, get_d_run}

-- The interface and the class of this index.
abbrev pub interface_of : Program → ℕ → Interface
interface_of p i = get_or p.interfaces i (lists [])

abbrev pub class_of : Program → ℕ → Class
class_of p c = get_or p.classes c (record { implements = 0; fields = []; methods = [] })

module _ (p : Program) where
  -- The interfaces have types 1 to I.
  pub declares_interface : (i : ℕ) → i < length p.interfaces → declaration_at p (suc i) ≡ an_interface (interface_of p i)
  unfolding declaration_at
  declares_interface i h = rw (lt-ltb i (length p.interfaces) h)

  -- The classes have types I + 1 to I + C.
  pub declares_class : (c : ℕ) → c < length p.classes → declaration_at p (suc (length p.interfaces + c)) ≡ a_class (class_of p c)
  unfolding declaration_at
  declares_class c h =
      let i = length p.interfaces + c in
      let e : i - length p.interfaces ≡ c = omega arith in
      rw (le-ltb i (length p.interfaces) (omega arith), lt-ltb i (length p.interfaces + length p.classes) (omega arith), e)

  -- Nothing else is declared an interface.
  pub interface_declared :
      (t : ℕ) (j : Interface) → declaration_at p t ≡ an_interface j
      → (i : ℕ) × (i < length p.interfaces) × (t ≡ suc i) × (j ≡ interface_of p i)
  unfolding declaration_at
  interface_declared zero j e = absurd (let z : ◌≡◌ {A = ℕ} 0 1 = cc in omega arith)
  interface_declared (suc i) j e = go (ltb i (length p.interfaces)) (ltb i (length p.interfaces + length p.classes)) (eqb (suc i) (int_of p)) refl e
    where
      go : (a b d : Bool) → ltb i (length p.interfaces) ≡ a → declared p i a b d ≡ an_interface j → (k : ℕ) × (k < length p.interfaces) × (suc i ≡ suc k) × (j ≡ interface_of p k)
      go true b c q d = (i, ltb-true i (length p.interfaces) q, refl, cc)
      go false true c q d = absurd (let z : ◌≡◌ {A = ℕ} 0 1 = cc in omega arith)
      go false false true q d = absurd (let z : ◌≡◌ {A = ℕ} 0 1 = cc in omega arith)
      go false false false q d = absurd (let z : ◌≡◌ {A = ℕ} 0 1 = cc in omega arith)

  -- Nothing else is declared a class.
  pub class_declared :
      (t : ℕ) (c : Class) → declaration_at p t ≡ a_class c
      → (i : ℕ) × (i < length p.classes) × (t ≡ suc (length p.interfaces + i)) × (c ≡ class_of p i)
  unfolding declaration_at
  class_declared zero c e = absurd (let z : ◌≡◌ {A = ℕ} 0 1 = cc in omega arith)
  class_declared (suc i) c e = go (ltb i (length p.interfaces)) (ltb i (length p.interfaces + length p.classes)) (eqb (suc i) (int_of p)) refl refl e
    where
      go :
          (a b f : Bool) → ltb i (length p.interfaces) ≡ a → ltb i (length p.interfaces + length p.classes) ≡ b → declared p i a b f ≡ a_class c
          → (k : ℕ) × (k < length p.classes) × (suc i ≡ suc (length p.interfaces + k)) × (c ≡ class_of p k)
      go true b f q r d = absurd (let z : ◌≡◌ {A = ℕ} 0 1 = cc in omega arith)
      go false true f q r d =
          let low : length p.interfaces ≤ i = ltb-false i (length p.interfaces) q in
          let high : i < length p.interfaces + length p.classes = ltb-true i (length p.interfaces + length p.classes) r in
          (i - length p.interfaces, omega arith, omega arith, cc)
      go false false true q r d = absurd (let z : ◌≡◌ {A = ℕ} 0 1 = cc in omega arith)
      go false false false q r d = absurd (let z : ◌≡◌ {A = ℕ} 0 1 = cc in omega arith)

  -- What is declared an interface has the type number of one, and what has the type number of one is declared an interface.
  pub is_interface : (t : ℕ) (j : Interface) → declaration_at p t ≡ an_interface j → IsInterface p t
  is_interface t j e = let x = interface_declared t j e in omega arith

  pub an_interface_at : (t : ℕ) → IsInterface p t → (j : Interface) × (declaration_at p t ≡ an_interface j)
  an_interface_at zero h = absurd (omega arith)
  an_interface_at (suc i) h = (interface_of p i, declares_interface i h.last)

  -- The same of classes.
  pub is_class : (t : ℕ) (c : Class) → declaration_at p t ≡ a_class c → IsClass p t
  is_class t c e = let x = class_declared t c e in omega arith

  pub a_class_at : (t : ℕ) → IsClass p t → (c : Class) × (declaration_at p t ≡ a_class c)
  a_class_at t h =
      let c = t - suc (length p.interfaces) in
      let e : t ≡ suc (length p.interfaces + c) = omega arith in
      (class_of p c, ap (declaration_at p) e ∙ declares_class c (omega arith))

  -- Type I + C + 1 is Int, and nothing else is.
  pub int_declared : declaration_at p (int_of p) ≡ an_int
  unfolding declaration_at
  int_declared =
      let i = length p.interfaces + length p.classes in
      rw (le-ltb i (length p.interfaces) (omega arith), le-ltb i i (omega arith), eq-eqb (suc i) (suc i) refl)

  pub declared_int : (t : ℕ) → declaration_at p t ≡ an_int → t ≡ int_of p
  unfolding declaration_at
  declared_int zero e = absurd (let z : ◌≡◌ {A = ℕ} 0 1 = cc in omega arith)
  declared_int (suc i) e = go (ltb i (length p.interfaces)) (ltb i (length p.interfaces + length p.classes)) (eqb (suc i) (int_of p)) refl e
    where
      go : (a b c : Bool) → eqb (suc i) (int_of p) ≡ c → declared p i a b c ≡ an_int → suc i ≡ int_of p
      go true b c q d = absurd (let z : ◌≡◌ {A = ℕ} 0 1 = cc in omega arith)
      go false true c q d = absurd (let z : ◌≡◌ {A = ℕ} 0 1 = cc in omega arith)
      go false false true q d = eqb-true (suc i) (int_of p) q
      go false false false q d = absurd (let z : ◌≡◌ {A = ℕ} 0 1 = cc in omega arith)

-- What the first records of a section are read as.
run_at : {A : Type 0} (f : ℕ → A) (k i : ℕ) (d : A) → i < k → get_or (run f 0 k) i d ≡ f i
run_at f k i d h = let e : 0 + i ≡ i = omega arith in rw e at (get_d_run f 0 k i d h)

module _ (s : List ℕ) where
  -- A script's program has an interface for each record of that section, and a class for each of the other.
  pub length_interfaces : length (program_of s).interfaces ≡ count_of s interfaces
  unfolding program_of
  length_interfaces = length_run (interface_at s) 0 (count_of s interfaces)

  pub length_classes : length (program_of s).classes ≡ count_of s classes
  unfolding program_of
  length_classes = length_run (class_at s) 0 (count_of s classes)

  interface_read : (i : ℕ) → i < count_of s interfaces → interface_of (program_of s) i ≡ interface_at s i
  unfolding program_of
  interface_read i h = run_at (interface_at s) (count_of s interfaces) i _ h

  class_read : (c : ℕ) → c < count_of s classes → class_of (program_of s) c ≡ class_at s c
  unfolding program_of
  class_read c h = run_at (class_at s) (count_of s classes) c _ h

  -- Type i + 1 is the interface that record i is read as.
  pub interface_at_lem : (i : ℕ) → i < count_of s interfaces → declaration_at (program_of s) (suc i) ≡ an_interface (interface_at s i)
  interface_at_lem i h = declares_interface (program_of s) i (rw length_interfaces h) ∙ ap an_interface (interface_read i h)

  -- Type I + c + 1 is the class that record c is read as.
  pub class_at_lem : (c : ℕ) → c < count_of s classes → declaration_at (program_of s) (suc (count_of s interfaces + c)) ≡ a_class (class_at s c)
  class_at_lem c h = rw length_interfaces at (declares_class (program_of s) c (rw length_classes h)) ∙ ap a_class (class_read c h)

  -- Nothing else is an interface of the script.
  pub interface_from :
      (t : ℕ) (j : Interface) → declaration_at (program_of s) t ≡ an_interface j
      → (i : ℕ) × (i < count_of s interfaces) × (t ≡ suc i) × (j ≡ interface_at s i)
  interface_from t j e =
      let x = interface_declared (program_of s) t j e in
      let h : x.0 < count_of s interfaces = rw length_interfaces at x.1 in
      (x.0, h, x.2, x.3 ∙ interface_read x.0 h)

  -- Nothing else is a class of the script.
  pub class_from :
      (t : ℕ) (c : Class) → declaration_at (program_of s) t ≡ a_class c
      → (i : ℕ) × (i < count_of s classes) × (t ≡ suc (count_of s interfaces + i)) × (c ≡ class_at s i)
  class_from t c e =
      let x = class_declared (program_of s) t c e in
      let h : x.0 < count_of s classes = rw length_classes at x.1 in
      (x.0, h, rw length_interfaces at x.2, x.3 ∙ class_read x.0 h)
