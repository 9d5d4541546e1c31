-- The values that the passes leave are the numbers of the derivation's items.
use Prim.Native.Nat.{ℕ, ◌+◌, ◌<◌}
use mathlib.Core.Path.{◌≡◌, refl}
use mathlib.Core.Bool.{Bool, true, false, cond}
use mathlib.Core.List.{List, [], ◌∷◌, ◌++◌, map}
use native.Mathlib.Omega.{arith}
use lib.Dec.{eqb}
use lib.ListN.{length, replicate, drop, get_or}
use native.Mathlib.Numerals.{add-one}
use Rattle.std.proofs.Common.{drop-cons}
use Rattle.grammar.specs.Tokens.{Lexeme}
use Rattle.grammar.specs.Files.{Numbering, spelling_of, rank_in, method_role, field_role, other_role, declared_role}
use Rattle.grammar.specs.Roles.{R_TYPE}
use Rattle.rows.specs.Zipped.{value_by, items_by}
use Rattle.numbering.specs.Numbers.{role_test, numbered, chosen_number}
use Rattle.tokens.specs.declared.roles.Tokens.{Tokens}
use Rattle.numbering.specs.declared.Sort.{Sort}
use Rattle.ask_limits.specs.Numbers.{sort_numbered}
use Rattle.declarations.specs.Declaring.{type_named}

-- One token after the other sorts of names.
chosen_cond : (q : Bool) (a b : ℕ) → chosen_number q a b ≡ cond q a b
chosen_cond true a b = refl
chosen_cond false a b = refl

-- The values of all tokens: first declared names and names of types, then methods, fields and variables.
abbrev pub all_numbered : Numbering → List ℕ → List Lexeme → List ℕ → List ℕ
all_numbered k rs ls vs =
    numbered other_role k.other_names rs ls
    (numbered field_role k.field_names rs ls
    (numbered method_role k.method_names rs ls
    (numbered type_named k.type_names rs ls (numbered declared_role k.type_names rs ls vs))))

pub values_numbered :
    (k : Numbering) (rs : List ℕ) (ls : List Lexeme) (rest : List ℕ)
    → length rs ≡ length ls
    → all_numbered k rs ls (replicate (length rs) 0 ++ rest) ≡ map (λ e. e.value) (items_by k rs ls) ++ rest
unfolding numbered items_by value_by
values_numbered k [] ls rest h = refl
values_numbered k (r ∷ rs) [] rest h = absurd (omega (arith, h))
values_numbered k (r ∷ rs) (l ∷ ls) rest h =
    let y = spelling_of l in
    rw (
      chosen_cond (declared_role r) (rank_in k.type_names y) 0,
      chosen_cond (eqb r R_TYPE) (rank_in k.type_names y) (cond (declared_role r) (rank_in k.type_names y) 0),
      chosen_cond (method_role r) (rank_in k.method_names y) (cond (eqb r R_TYPE) (rank_in k.type_names y) (cond (declared_role r) (rank_in k.type_names y) 0)),
      chosen_cond (field_role r) (rank_in k.field_names y)
          (cond (method_role r) (rank_in k.method_names y) (cond (eqb r R_TYPE) (rank_in k.type_names y) (cond (declared_role r) (rank_in k.type_names y) 0))),
      chosen_cond (other_role r) (rank_in k.other_names y)
          (cond (field_role r) (rank_in k.field_names y)
          (cond (method_role r) (rank_in k.method_names y) (cond (eqb r R_TYPE) (rank_in k.type_names y) (cond (declared_role r) (rank_in k.type_names y) 0)))),
      values_numbered k rs ls rest (omega (arith, h)),
    )
    refl

-- The values where the names of a list of sorts have been numbered, one after another.
abbrev pub sorts_numbered : Tokens → List Sort → List ℕ → List ℕ
sorts_numbered k [] values = values
sorts_numbered k (s ∷ ss) values = sorts_numbered k ss (sort_numbered (role_test s) k values)

-- One sort more.
pub sorts_on :
    (k : Tokens) (ss : List Sort) (i : ℕ) (d : Sort) (v v' : List ℕ)
    → i < length ss
    → v' ≡ sort_numbered (role_test (get_or ss i d)) k v
    → sorts_numbered k (drop (i + 1) ss) v' ≡ sorts_numbered k (drop i ss) v
sorts_on k ss i d v v' h e = rw (e, add-one, drop-cons ss i d h) refl
