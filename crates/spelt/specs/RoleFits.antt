-- Roles and tokens that go together.
use Rattle.std.specs.Prelude.{ℕ, ◌≡◌, Bool, true, false, not, ◌||◌, List, [], ◌∷◌, eqb}
use Rattle.grammar.specs.Tokens.{Lexeme, fixed, name_token, digits_token}
use Rattle.grammar.specs.Roles.{R_TYPE, R_INTEGER, R_NEGATIVE}
use Rattle.grammar.specs.Files.{method_role, field_role, other_role, declared_role}

-- A role of a name that is numbered.
unfoldable pub named_role : ℕ → Bool
named_role r = method_role r || (field_role r || (other_role r || (declared_role r || eqb r R_TYPE)))

-- Names alone have such roles, and digits alone begin an integer.
unfoldable pub fit_test : ℕ → Lexeme → Bool
fit_test r (fixed k) = not (named_role r || eqb r R_INTEGER)
fit_test r (name_token y) = not (eqb r R_INTEGER)
fit_test r (digits_token d) = not (named_role r)

abbrev pub digits_head : List Lexeme → Bool
digits_head [] = false
digits_head (fixed k ∷ ls) = false
digits_head (name_token y ∷ ls) = false
digits_head (digits_token d ∷ ls) = true

-- Each of a list of roles fits its token, and digits come behind a minus.
unfoldable pub RoleFits : List ℕ → List Lexeme → Type 0
RoleFits [] ls = Unit {0}
RoleFits (r ∷ rs) [] = ⊥
RoleFits (r ∷ rs) (l ∷ ls) = (fit_test r l ≡ true) × ((not (eqb r R_NEGATIVE) || digits_head ls ≡ true) × RoleFits rs ls)
