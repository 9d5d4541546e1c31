-- The words of a file, read off what the passes over a text have left of each token. The writer's contract is in these terms; that they are the words of the
-- derivation's file is proved in this crate.
use Rattle.std.specs.Prelude.{ℕ, zero, suc, ◌+◌, ◌*◌, ◌/◌, ◌%◌, Bool, true, false, cond, ◌||◌, List, [], ◌∷◌, ◌++◌, eqb, leb, pos, length, get_or, drop}
use Rattle.limits.specs.Limits.{CONTENTS}
use Rattle.grammar.specs.Roles.{R_INTERFACE, R_CLASS, R_METHOD, R_SIGNATURE, R_FIELD, R_TYPE, R_UNIT, R_INT, BINDING, B_OTHER}
use Rattle.grammar.specs.Roles.{R_NULL, R_VARIABLE, R_SELECT, R_UPDATE, R_CALL, R_LET, R_NEW, R_CAST, R_FORK, R_LOCK, R_INTEGER, R_SUM, R_NEGATIVE}
use Rattle.grammar.specs.Files.{negated, four_words, constant_words}

-- A token: its role, its number among the names of its sort, and what its digits say.
pub record Item : Type 0 where
  pub role : ℕ
  pub value : ℕ
  pub amount : ℕ

abbrev pub no_item : Item
no_item = record { role = 0; value = 0; amount = 0 }

-- The entry k behind the first.
abbrev pub row_item : List Item → ℕ → Item
row_item es k = get_or es k no_item

-- Words: a type's, of a text that declares so many; a variable's.
abbrev pub type_word : ℕ → Item → ℕ
type_word types e = cond (eqb e.role R_UNIT) 0 (cond (eqb e.role R_INT) (types + 1) (e.value + 1))

abbrev pub variable_word : Item → ℕ
variable_word e = cond (eqb (e.role / BINDING) B_OTHER) (e.value + 2) (e.role / BINDING)

-- Does an entry begin a declaration?
abbrev pub declaration_test : Item → Bool
declaration_test e = eqb e.role R_INTERFACE || eqb e.role R_CLASS

abbrev pub one_added_if : Bool → ℕ → ℕ
one_added_if true n = n + 1
one_added_if false n = n

-- How many entries of a role come before the next declaration.
unfoldable pub owned : ℕ → List Item → ℕ
owned r [] = 0
owned r (e ∷ es) = cond (declaration_test e) 0 (one_added_if (eqb e.role r) (owned r es))

-- The words of the record that begins with the first entry.
unfoldable pub interface_row : ℕ → List Item → List ℕ
interface_row types es =
    cond (eqb (row_item es 3).role R_TYPE) (1 ∷ type_word types (row_item es 3) ∷ type_word types (row_item es 5) ∷ [])
    (0 ∷ owned R_SIGNATURE (drop 1 es) ∷ 0 ∷ [])

unfoldable pub signature_row : ℕ → List Item → List ℕ
signature_row types es = (row_item es 0).value ∷ type_word types (row_item es 4) ∷ type_word types (row_item es 7) ∷ []

unfoldable pub class_row : ℕ → List Item → List ℕ
class_row types es = type_word types (row_item es 3) ∷ owned R_FIELD (drop 1 es) ∷ owned R_METHOD (drop 1 es) ∷ []

unfoldable pub field_row : ℕ → List Item → List ℕ
field_row types es = (row_item es 0).value ∷ type_word types (row_item es 2) ∷ []

unfoldable pub method_row : ℕ → ℕ → List Item → List ℕ
method_row types body es = (row_item es 1).value ∷ type_word types (row_item es 5) ∷ type_word types (row_item es 8) ∷ body ∷ []

-- The rows of one section other than methods and nodes, in the order of the text.
unfoldable pub rows_with : ℕ → (List Item → List ℕ) → List Item → List ℕ
rows_with r row [] = []
rows_with r row (e ∷ es) = cond (eqb e.role r) (row (e ∷ es)) [] ++ rows_with r row es

-- Does an entry begin a node? How many parts has the node?
abbrev pub node_item : Item → Bool
node_item e = leb R_NULL (e.role % BINDING)

unfoldable pub arity_of : ℕ → ℕ
arity_of r =
    cond (eqb r R_UPDATE || (eqb r R_CALL || (eqb r R_CAST || eqb r R_LOCK))) 1
    (cond (eqb r R_LET) 2
    (cond (eqb r R_FORK) 3 0))

-- Methods: the first node of a body is numbered by how many nodes come before, from n on.
unfoldable pub method_rows : ℕ → ℕ → List Item → List ℕ
method_rows types n [] = []
method_rows types n (e ∷ es) = cond (eqb e.role R_METHOD) (method_row types n (e ∷ es)) [] ++ method_rows types (one_added_if (node_item e) n) es

-- How many nodes there are.
unfoldable pub node_count : List Item → ℕ
node_count [] = 0
node_count (e ∷ es) = one_added_if (node_item e) (node_count es)

-- The numbers of nodes of k expressions that follow each other, where the numbers of nodes from each node on are known.
unfoldable pub hop : ℕ → List ℕ → ℕ
hop zero sizes = 0
hop (suc k) sizes = let s = get_or sizes 0 0 in s + hop k (drop s sizes)

-- For each node, how many nodes its expression has.
unfoldable pub sizes_of : List Item → List ℕ
sizes_of [] = []
sizes_of (e ∷ es) = let r = sizes_of es in cond (node_item e) (suc (hop (arity_of (e.role % BINDING)) r) ∷ r) r

-- The words of node n that begins with the first entry; `sizes` are those of the nodes behind it.
unfoldable pub node_row : ℕ → ℕ → List ℕ → List Item → List ℕ
node_row types n sizes es =
    let r = (row_item es 0).role % BINDING in
    let second = n + 1 + hop 1 sizes in
    let third = n + 1 + hop 2 sizes in
    cond (eqb r R_NULL) (four_words 0 0 0 0)
    (cond (eqb r R_VARIABLE) (four_words 1 (variable_word (row_item es 0)) 0 0)
    (cond (eqb r R_SELECT) (four_words 2 (variable_word (row_item es 0)) (row_item es 2).value 0)
    (cond (eqb r R_UPDATE) (four_words 3 (variable_word (row_item es 0)) (row_item es 2).value (n + 1))
    (cond (eqb r R_CALL) (four_words 4 (variable_word (row_item es 0)) (row_item es 2).value (n + 1))
    (cond (eqb r R_LET) (four_words 5 ((row_item es 1).value + 2) (n + 1) second)
    (cond (eqb r R_NEW) (four_words 6 (type_word types (row_item es 1)) 0 0)
    (cond (eqb r R_CAST) (four_words 7 (type_word types (row_item es 1)) (n + 1) 0)
    (cond (eqb r R_FORK) (four_words 8 (n + 1) second third)
    (cond (eqb r R_LOCK) (four_words 9 (variable_word (row_item es 2)) (n + 1) 0)
    (cond (eqb r R_INTEGER) (constant_words (pos (row_item es 0).amount))
    (cond (eqb r R_NEGATIVE) (constant_words (negated (row_item es 1).amount))
    (cond (eqb r R_SUM) (four_words 11 (variable_word (row_item es 0)) (variable_word (row_item es 2)) 0)
    (four_words 11 (variable_word (row_item es 1)) (variable_word (row_item es 3)) 0)))))))))))))

-- The rows of the nodes that begin among the first k entries; the first node's number is n.
unfoldable pub node_rows : ℕ → ℕ → ℕ → List Item → List ℕ
node_rows types zero n es = []
node_rows types (suc k) n [] = []
node_rows types (suc k) n (e ∷ es) =
    cond (node_item e) (node_row types n (sizes_of es) (e ∷ es)) [] ++ node_rows types k (one_added_if (node_item e) n) es

-- The bodies of the six sections; `start` entries come before the start.
unfoldable pub sections_words : ℕ → ℕ → List Item → List ℕ
sections_words types start es =
    rows_with R_INTERFACE (interface_row types) es
    ++ (rows_with R_SIGNATURE (signature_row types) es
    ++ (rows_with R_CLASS (class_row types) es
    ++ (rows_with R_FIELD (field_row types) es
    ++ (method_rows types (node_count (drop start es)) es
    ++ (node_rows types (length (drop start es)) 0 (drop start es)
    ++ node_rows types start (node_count (drop start es)) es)))))

-- The contents of a file with so many records in each section.
abbrev pub contents_words : ℕ → ℕ → ℕ → ℕ → ℕ → ℕ → List ℕ
contents_words i s c f m n =
    CONTENTS ∷
    i ∷
    (CONTENTS + 6 * i) ∷
    s ∷
    (CONTENTS + 6 * i + 6 * s) ∷
    c ∷
    (CONTENTS + 6 * i + 6 * s + 6 * c) ∷
    f ∷
    (CONTENTS + 6 * i + 6 * s + 6 * c + 4 * f) ∷
    m ∷
    (CONTENTS + 6 * i + 6 * s + 6 * c + 4 * f + 8 * m) ∷
    n ∷
    []
