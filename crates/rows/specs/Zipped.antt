-- Items by roles and tokens: what the passes leave of each token whose role and lexeme are known.
use Rattle.std.specs.Prelude.{ℕ, cond, List, [], ◌∷◌, eqb}
use Rattle.grammar.specs.Tokens.{Spelling, Lexeme, fixed, name_token, digits_token, decimal}
use Rattle.grammar.specs.Roles.{R_TYPE}
use Rattle.grammar.specs.Files.{Numbering, rank_in, spelling_of, method_role, field_role, other_role, declared_role}
use Rattle.rows.specs.Rows.{Item}
use Rattle.rows.specs.Items.{item}

-- A name's number is its place among the names of its sort.
unfoldable pub value_by : Numbering → ℕ → Spelling → ℕ
value_by k r y =
    cond (other_role r) (rank_in k.other_names y)
    (cond (field_role r) (rank_in k.field_names y)
    (cond (method_role r) (rank_in k.method_names y)
    (cond (eqb r R_TYPE) (rank_in k.type_names y)
    (cond (declared_role r) (rank_in k.type_names y) 0))))

abbrev pub amount_by : Lexeme → ℕ
amount_by (fixed n) = 0
amount_by (name_token y) = 0
amount_by (digits_token d) = decimal d

unfoldable pub items_by : Numbering → List ℕ → List Lexeme → List Item
items_by k [] ls = []
items_by k (r ∷ rs) [] = []
items_by k (r ∷ rs) (l ∷ ls) = item r (value_by k r (spelling_of l)) (amount_by l) ∷ items_by k rs ls
