-- Lists of tokens none of which is at fault.
use mathlib.Core.Path.{◌≡◌, refl}
use mathlib.Core.Bool.{Bool, true, false, ◌||◌}
use mathlib.Core.List.{List, [], ◌∷◌, ◌++◌}
use mathlib.Core.Option.{none}
use Prim.Native.Nat.{ℕ}
use native.Mathlib.Omega.{arith}
use lib.ListN.{length}
use Rattle.script.specs.Lists.{Every}
use Rattle.script.specs.declared.Section.{Section}
use Rattle.script.specs.declared.Section.TheVariants.{Interfaces as interfaces, Signatures as signatures, Classes as classes}
use Rattle.script.specs.declared.Section.TheVariants.{Fields as fields, Methods as methods, Nodes as nodes}
use Rattle.script.specs.Section.{sections}
use Rattle.grammar.specs.Faults.{Marked, begins_test, one_more_if, begun_in, too_many_test, outside_test, first_if, first_fault}

-- What holds of the sections one by one holds of each.
pub every_section_lem : (P : Section → Type 0) → Every P sections → (k : Section) → P k
unfolding sections
every_section_lem P e interfaces = e.0
every_section_lem P e signatures = e.1.0
every_section_lem P e classes = e.1.1.0
every_section_lem P e fields = e.1.1.1.0
every_section_lem P e methods = e.1.1.1.1.0
every_section_lem P e nodes = e.1.1.1.1.1.0

swapped : (a b : Bool) (n : ℕ) → one_more_if a (one_more_if b n) ≡ one_more_if b (one_more_if a n)
swapped true true n = refl
swapped true false n = refl
swapped false true n = refl
swapped false false n = refl

-- What one token more begins.
pub begun_next : (k : Section) (before : List Marked) (m : Marked) → begun_in k (before ++ (m ∷ [])) ≡ one_more_if (begins_test k m.role) (begun_in k before)
unfolding begun_in
begun_next k [] m = refl
begun_next k (b ∷ before) m = rw (begun_next k before m) (swapped (begins_test k b.role) (begins_test k m.role) (begun_in k before))

abbrev pub Test : Type 0
Test = List Marked → Marked → List Marked → Bool

-- What `limit_fault` asks of each token.
abbrev pub limit_test : Test
limit_test before m after = too_many_test sections before m || outside_test m after

pub or_neither : (a b : Bool) → a || b ≡ false → (a ≡ false) × (b ≡ false)
or_neither true b h = absurd (let z : ◌≡◌ {A = ℕ} 0 1 = cc in omega arith)
or_neither false b h = (refl, h)

pub faultless :
    (test : Test) (before : List Marked) (m : Marked) (after : List Marked)
    → first_fault test before (m ∷ after) ≡ none
    → (test before m after ≡ false) × (first_fault test (before ++ (m ∷ [])) after ≡ none)
unfolding first_fault
faultless test before m after h = go (test before m after) h
  where
    go : (b : Bool) → first_if b (length before) (first_fault test (before ++ (m ∷ [])) after) ≡ none → (b ≡ false) × (first_fault test (before ++ (m ∷ [])) after ≡ none)
    go true e = absurd (let z : ◌≡◌ {A = ℕ} 0 1 = cc in omega arith)
    go false e = (refl, e)
