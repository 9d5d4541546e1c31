-- Declarations: which names of types are declared again, and which nowhere.
use Rattle.std.specs.Prelude.{ℕ, ◌+◌, ◌<◌, ◌≡◌, Bool, true, false, not, ◌&&◌, List, [], ◌∷◌, eqb, ltb, length, get_or, take, Option as CodeOption, None, Some}
use Rattle.std.proofs.Math.Option.{Option, none, some}
use Rattle.grammar.specs.Tokens.{Spelling}
use Rattle.grammar.specs.Files.{rank_in, declared_role}
use Rattle.grammar.specs.Faults.{Marked, marked_by, declaration_fault}
use Rattle.spellings.specs.Table.{name_from}
use Rattle.numbering.specs.Numbers.{role_test, names_at, numbered, names_to}
use Rattle.numbering.specs.Chains.{FirstFrom}
use Rattle.numbering.specs.declared.Sort.TheVariants.{Types}

-- The first of n that passes a test, or n.
abbrev pub FirstOf : (ℕ → Bool) → ℕ → ℕ → Type 0
FirstOf test n r = FirstFrom test 0 n r

-- What was found stands among n.
abbrev pub Below : ℕ → CodeOption ℕ → Type 0
Below n None = Unit {0}
Below n (Some r) = r < n

-- Where a search ended, which is n if nothing was found.
abbrev pub place_or : ℕ → CodeOption ℕ → ℕ
place_or n None = n
place_or n (Some r) = r

-- The first of n that passes a test, or none.
abbrev pub FirstFound : (ℕ → Bool) → ℕ → CodeOption ℕ → Type 0
FirstFound test n r = FirstOf test n (place_or n r) × Below n r

-- What was found, as the definitions say it.
abbrev pub told : CodeOption ℕ → Option ℕ
told None = none
told (Some r) = some r

abbrev pub one_added_if : Bool → ℕ → ℕ
one_added_if true n = n + 1
one_added_if false n = n

-- How many of a list of roles declare.
unfoldable pub declared_in : List ℕ → ℕ
declared_in [] = 0
declared_in (r ∷ rs) = one_added_if (declared_role r) (declared_in rs)

-- A declaration whose number is not that of the declarations before it.
abbrev pub again_at : List ℕ → List ℕ → ℕ → Bool
again_at roles values k = declared_role (get_or roles k 0) && not (eqb (get_or values k 0) (declared_in (take k roles)))

-- A name of a type.
abbrev pub type_named : ℕ → Bool
type_named r = role_test Types r

-- A name of a type that is in no list of names.
abbrev pub nowhere_at : List Spelling → List ℕ → List ℕ → List ℕ → ℕ → Bool
nowhere_at names text roles offsets k = type_named (get_or roles k 0) && not (ltb (rank_in names (name_from text (get_or offsets k 0))) (length names))

-- The names of types among the first n tokens have their values.
abbrev pub TypedTo : List Spelling → List ℕ → List ℕ → List ℕ → List ℕ → ℕ → List ℕ → Type 0
TypedTo names text roles offsets before n values = values ≡ numbered type_named names (take n roles) (names_at text (take n offsets)) before

-- Token i is asked: is all well, and does it then have its value?
pub record TypeAsked (names : List Spelling) (text roles offsets values : List ℕ) (i : ℕ) (values' : List ℕ) (r : Bool) : Type 0 where
  pub says : not r ≡ nowhere_at names text roles offsets i
  pub valued : r ≡ true → (before : List ℕ) → TypedTo names text roles offsets before i values → TypedTo names text roles offsets before (i + 1) values'

-- All are asked, up to the first that is declared nowhere.
pub record TypesAsked (names : List Spelling) (text roles offsets before : List ℕ) (n : ℕ) (values : List ℕ) (r : CodeOption ℕ) : Type 0 where
  pub first : FirstFound (nowhere_at names text roles offsets) n r
  pub valued : r ≡ None → TypedTo names text roles offsets before n values

-- The first n tokens with their roles, each taken as a name.
abbrev pub marks_to : List ℕ → List ℕ → List ℕ → ℕ → List Marked
marks_to text roles offsets n = marked_by (take n roles) (names_at text (take n offsets))

-- 35: "a type name is declared nowhere or again", and what tells types apart if none is.
pub record Declarations (text roles offsets before : List ℕ) (n : ℕ) (values : List ℕ) (r : CodeOption ℕ) : Type 0 where
  pub within : Below n r
  pub fault : declaration_fault (marks_to text roles offsets n) ≡ told r
  pub valued :
      r ≡ None
      → let names = names_to declared_role text roles offsets n in
      values
      ≡ numbered type_named names (take n roles) (names_at text (take n offsets))
      (numbered declared_role names (take n roles) (names_at text (take n offsets)) before)
