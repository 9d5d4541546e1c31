-- Names numbered "by first appearance", token by token.
use Rattle.std.specs.Prelude.{ℕ, ◌+◌, ◌≡◌, Bool, true, false, List, [], ◌∷◌, map, eqb, length, take}
use Rattle.grammar.specs.Tokens.{Spelling, Lexeme, name_token}
use Rattle.grammar.specs.Roles.{R_TYPE}
use Rattle.grammar.specs.Files.{spelling_of, names_with, distinct, rank_in, method_role, field_role, other_role, declared_role}
use Rattle.tokens.specs.declared.roles.Tokens.{Tokens}
use Rattle.spellings.specs.declared.table.NameTable.{NameTable}
use Rattle.spellings.specs.Table.{name_from, Holds}
use Rattle.numbering.specs.declared.Sort.{Sort}
use Rattle.numbering.specs.declared.Sort.TheVariants.{Methods, Fields, Variables, Declared, Types}

-- The roles of the names of a sort.
abbrev pub role_test : Sort → ℕ → Bool
role_test Methods r = method_role r
role_test Fields r = field_role r
role_test Variables r = other_role r
role_test Declared r = declared_role r
role_test Types r = eqb r R_TYPE

-- What stands at each offset, taken as a name.
abbrev pub names_at : List ℕ → List ℕ → List Lexeme
names_at text offsets = map (λ at. name_token (name_from text at)) offsets

abbrev pub chosen_number : Bool → ℕ → ℕ → ℕ
chosen_number true a b = a
chosen_number false a b = b

-- Values of tokens: those whose role passes a test get the place of their name in a list, and others stay.
unfoldable pub numbered : (ℕ → Bool) → List Spelling → List ℕ → List Lexeme → List ℕ → List ℕ
numbered test l [] ts vs = vs
numbered test l (r ∷ rs) [] vs = vs
numbered test l (r ∷ rs) (t ∷ ts) [] = []
numbered test l (r ∷ rs) (t ∷ ts) (v ∷ vs) = chosen_number (test r) (rank_in l (spelling_of t)) v ∷ numbered test l rs ts vs

-- The names that pass a test among the first n tokens, each once.
abbrev pub names_to : (ℕ → Bool) → List ℕ → List ℕ → List ℕ → ℕ → List Spelling
names_to test text roles offsets n = distinct (names_with test (take n roles) (names_at text (take n offsets)))

-- The first n tokens are numbered, where the values were `before`, and the table holds their names.
pub record NumberedTo {N : ℕ} (test : ℕ → Bool) (text roles offsets before : List ℕ) (n : ℕ) (values : List ℕ) (t : NameTable N) : Type 0 where
  pub values_are : values ≡ numbered test (names_to test text roles offsets n) (take n roles) (names_at text (take n offsets)) before
  pub holds : Holds text t (names_to test text roles offsets n)
  pub counted : length (names_to test text roles offsets n) ≡ t.count

-- All of them are.
abbrev pub Numbered : {N : ℕ} → Sort → Tokens → List ℕ → List ℕ → NameTable N → Type 0
Numbered s k before values t = NumberedTo (role_test s) k.text.bytes.now k.roles.now k.offsets.now before (length k.roles.now) values t

-- One token more is numbered.
abbrev pub Numbers : {N : ℕ} → (ℕ → Bool) → List ℕ → List ℕ → List ℕ → ℕ → List ℕ → NameTable N → List ℕ → NameTable N → Type 0
Numbers test text roles offsets i values t values' t' =
    (before : List ℕ) → NumberedTo test text roles offsets before i values t → NumberedTo test text roles offsets before (i + 1) values' t'
