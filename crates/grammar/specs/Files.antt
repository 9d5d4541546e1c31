-- The file of a derivation: "producing the script file and its length".
use Rattle.std.specs.Prelude.{ℕ, zero, suc, ◌+◌, ◌*◌, ◌/◌, Bool, true, false, not, ◌||◌, List, [], ◌∷◌, ◌++◌, eqb, ℤ, pos, negsuc, length}
use Rattle.std.proofs.Math.Option.{none, some}
use Rattle.words.specs.Word.{bytes}
use Rattle.words.specs.Integer.{low_word, high_word}
use Rattle.limits.specs.Limits.{CONTENTS}
use Rattle.grammar.specs.Tokens.{Spelling, Lexeme, fixed, name_token, digits_token, same_spelling, decimal}
use Rattle.grammar.specs.Grammar.{X, x_this, x_name, T, t_unit, t_int, t_name, E, e_null, e_variable, e_select, e_update, e_call, e_let, e_new, e_cast}
use Rattle.grammar.specs.Grammar.{e_fork, e_lock, e_digits, e_minus, e_sum, e_sum_in, Msig, Id, id_list, id_join, Fd, Md, Cd, Derivation, spelled_text}
use Rattle.grammar.specs.Roles.{R_SIGNATURE, R_FIELD, R_DECLARED, R_METHOD_NAME, R_BINDER, R_FIELD_USED, R_METHOD_USED, BINDING, B_OTHER}
use Rattle.grammar.specs.Roles.{Scope, under, roles_text}

-- The spelling of a name or of digits.
abbrev pub spelling_of : Lexeme → Spelling
spelling_of (fixed k) = []
spelling_of (name_token y) = y
spelling_of (digits_token d) = d

abbrev pub kept_if : Bool → Spelling → List Spelling → List Spelling
kept_if true y l = y ∷ l
kept_if false y l = l

-- The spellings of the tokens whose role passes a test, in the order of the text.
unfoldable pub names_with : (ℕ → Bool) → List ℕ → List Lexeme → List Spelling
names_with test [] ts = []
names_with test (r ∷ rs) [] = []
names_with test (r ∷ rs) (t ∷ ts) = kept_if (test r) (spelling_of t) (names_with test rs ts)

-- "by first appearance": a list without what came before in it.
unfoldable pub without_name : Spelling → List Spelling → List Spelling
without_name y [] = []
without_name y (z ∷ l) = kept_if (not (same_spelling y z)) z (without_name y l)

unfoldable pub distinct : List Spelling → List Spelling
distinct [] = []
distinct (y ∷ l) = y ∷ without_name y (distinct l)

abbrev zero_if : Bool → ℕ → ℕ
zero_if true n = 0
zero_if false n = n

-- The place of a name in a list, from 0; its length if the name is not there.
unfoldable pub rank_in : List Spelling → Spelling → ℕ
rank_in [] y = 0
rank_in (z ∷ l) y = zero_if (same_spelling z y) (suc (rank_in l y))

-- Which tokens are names of methods, of fields, of variables that neither `this` nor the parameter is, and of declared types.
abbrev pub method_role : ℕ → Bool
method_role r = eqb r R_SIGNATURE || (eqb r R_METHOD_NAME || eqb r R_METHOD_USED)

abbrev pub field_role : ℕ → Bool
field_role r = eqb r R_FIELD || eqb r R_FIELD_USED

abbrev pub other_role : ℕ → Bool
other_role r = eqb r R_BINDER || eqb (r / BINDING) B_OTHER

abbrev pub declared_role : ℕ → Bool
declared_role r = eqb r R_DECLARED

-- "methods and fields are numbered by first appearance from 0, each sort alone"; "others in expressions count from 2 likewise"; types as document 01 has them:
-- "interfaces are 1 to I, classes I+1 to I+C", and "Type I+C+1 is Int".
pub record Numbering : Type 0 where
  pub method_names : List Spelling
  pub field_names : List Spelling
  pub other_names : List Spelling
  pub type_names : List Spelling

abbrev pub names_of : (ℕ → Bool) → Derivation → List Spelling
names_of test d = distinct (names_with test (roles_text d) (spelled_text d))

abbrev pub numbering_of : Derivation → Numbering
numbering_of d =
    record {
      method_names = names_of method_role d;
      field_names = names_of field_role d;
      other_names = names_of other_role d;
      type_names = names_of declared_role d;
    }

abbrev pub type_number_in : Numbering → T → ℕ
type_number_in k t_unit = 0
type_number_in k t_int = suc (length k.type_names)
type_number_in k (t_name c) = suc (rank_in k.type_names c)

abbrev parameter_if : Bool → ℕ → ℕ
parameter_if true n = 1
parameter_if false n = n

abbrev pub variable_number : Numbering → Scope → X → ℕ
variable_number k c x_this = 0
variable_number k none (x_name y) = 2 + rank_in k.other_names y
variable_number k (some p) (x_name y) = parameter_if (same_spelling y p) (2 + rank_in k.other_names y)

-- Integers: "decimal integers with an optional minus".
abbrev pub negated : ℕ → ℤ
negated zero = pos 0
negated (suc n) = negsuc n

-- The nodes of an expression.
unfoldable pub nodes_in : E → ℕ
nodes_in e_null = 1
nodes_in (e_variable x) = 1
nodes_in (e_select x f) = 1
nodes_in (e_update x f e) = suc (nodes_in e)
nodes_in (e_call x m e) = suc (nodes_in e)
nodes_in (e_let y e₁ e₂) = suc (nodes_in e₁ + nodes_in e₂)
nodes_in (e_new c) = 1
nodes_in (e_cast t e) = suc (nodes_in e)
nodes_in (e_fork e₁ e₂ e₃) = suc (nodes_in e₁ + (nodes_in e₂ + nodes_in e₃))
nodes_in (e_lock x e) = suc (nodes_in e)
nodes_in (e_digits d) = 1
nodes_in (e_minus d) = 1
nodes_in (e_sum x y) = 1
nodes_in (e_sum_in x y) = 1

-- The words of a record: a node's kind and its words a, b, c.
abbrev pub four_words : ℕ → ℕ → ℕ → ℕ → List ℕ
four_words k a b c = k ∷ a ∷ b ∷ c ∷ []

abbrev pub constant_words : ℤ → List ℕ
constant_words z = four_words 10 (low_word z) (high_word z) 0

-- "Nodes go in preorder, parts as they run": the records of an expression, whose own node is n. Kinds are document 01's and request 2's.
unfoldable pub node_words : Numbering → Scope → ℕ → E → List ℕ
node_words k c n e_null = four_words 0 0 0 0
node_words k c n (e_variable x) = four_words 1 (variable_number k c x) 0 0
node_words k c n (e_select x f) = four_words 2 (variable_number k c x) (rank_in k.field_names f) 0
node_words k c n (e_update x f e) = four_words 3 (variable_number k c x) (rank_in k.field_names f) (n + 1) ++ node_words k c (n + 1) e
node_words k c n (e_call x m e) = four_words 4 (variable_number k c x) (rank_in k.method_names m) (n + 1) ++ node_words k c (n + 1) e
node_words k c n (e_let y e₁ e₂) =
    four_words 5 (variable_number k none (x_name y)) (n + 1) (n + 1 + nodes_in e₁)
    ++ (node_words k c (n + 1) e₁ ++ node_words k (under y c) (n + 1 + nodes_in e₁) e₂)
node_words k c n (e_new t) = four_words 6 (type_number_in k (t_name t)) 0 0
node_words k c n (e_cast t e) = four_words 7 (type_number_in k t) (n + 1) 0 ++ node_words k c (n + 1) e
node_words k c n (e_fork e₁ e₂ e₃) =
    four_words 8 (n + 1) (n + 1 + nodes_in e₁) (n + 1 + nodes_in e₁ + nodes_in e₂)
    ++ (node_words k c (n + 1) e₁ ++ (node_words k c (n + 1 + nodes_in e₁) e₂ ++ node_words k c (n + 1 + nodes_in e₁ + nodes_in e₂) e₃))
node_words k c n (e_lock x e) = four_words 9 (variable_number k c x) (n + 1) 0 ++ node_words k c (n + 1) e
node_words k c n (e_digits d) = constant_words (pos (decimal d))
node_words k c n (e_minus d) = constant_words (negated (decimal d))
node_words k c n (e_sum x y) = four_words 11 (variable_number k c x) (variable_number k c y) 0
node_words k c n (e_sum_in x y) = four_words 11 (variable_number k c x) (variable_number k c y) 0

-- The words of a record for each of a list, one after another.
unfoldable pub words_all : {A : Type 0} → (A → List ℕ) → List A → List ℕ
words_all f [] = []
words_all f (a ∷ l) = f a ++ words_all f l

-- How many of something a list has in all.
unfoldable pub sum_all : {A : Type 0} → (A → ℕ) → List A → ℕ
sum_all f [] = 0
sum_all f (a ∷ l) = f a + sum_all f l

-- "method name, parameter type, result type": a signature, and what a method has besides its body.
abbrev pub msig_words : Numbering → Msig → List ℕ
msig_words k s = rank_in k.method_names s.method ∷ type_number_in k s.takes ∷ type_number_in k s.gives ∷ []

-- "form; then for form 0 (list) signature count and 0; for form 1 (join) two earlier interface types"
abbrev pub id_words : Numbering → Id → List ℕ
id_words k (id_list i ms) = 0 ∷ length ms ∷ 0 ∷ []
id_words k (id_join i a b) = 1 ∷ type_number_in k (t_name a) ∷ type_number_in k (t_name b) ∷ []

abbrev pub msigs_of : Id → List Msig
msigs_of (id_list i ms) = ms
msigs_of (id_join i a b) = []

-- "interface type, field count, method count"
abbrev pub cd_words : Numbering → Cd → List ℕ
cd_words k c = type_number_in k (t_name c.implements) ∷ length c.fds ∷ length c.mds ∷ []

abbrev pub fd_words : Numbering → Fd → List ℕ
fd_words k f = rank_in k.field_names f.field ∷ type_number_in k f.holds ∷ []

-- "name, parameter type, result type, body node": the records of methods whose bodies' nodes are numbered from n on.
unfoldable pub mds_words : Numbering → ℕ → List Md → List ℕ
mds_words k n [] = []
mds_words k n (m ∷ l) = (msig_words k m.msig ++ (n ∷ [])) ++ mds_words k (n + nodes_in m.body) l

unfoldable pub bodies_words : Numbering → ℕ → List Md → List ℕ
bodies_words k n [] = []
bodies_words k n (m ∷ l) = node_words k (some m.msig.parameter) n m.body ++ bodies_words k (n + nodes_in m.body) l

-- All methods of a text, in order, and all signatures.
unfoldable pub joined : {A B : Type 0} → (A → List B) → List A → List B
joined f [] = []
joined f (a ∷ l) = f a ++ joined f l

abbrev pub mds_of : Derivation → List Md
mds_of d = joined (λ c. c.mds) d.cds

-- A section: how many records it has, and their words.
pub record SectionBody : Type 0 where
  pub records : ℕ
  pub words : List ℕ

-- "the start before the bodies"
unfoldable pub section_bodies : Numbering → Derivation → List SectionBody
section_bodies k d =
    record { records = length d.ids; words = words_all (id_words k) d.ids } ∷
    record { records = length (joined msigs_of d.ids); words = words_all (msig_words k) (joined msigs_of d.ids) } ∷
    record { records = length d.cds; words = words_all (cd_words k) d.cds } ∷
    record { records = length (joined (λ c. c.fds) d.cds); words = words_all (fd_words k) (joined (λ c. c.fds) d.cds) } ∷
    record { records = length (mds_of d); words = mds_words k (nodes_in d.start) (mds_of d) } ∷
    record {
      records = nodes_in d.start + sum_all (λ m. nodes_in m.body) (mds_of d);
      words = node_words k none 0 d.start ++ bodies_words k (nodes_in d.start) (mds_of d);
    } ∷
    []

-- "six entries of two words, byte offset and record count", and "The bodies follow in that order, the first at offset 24".
unfoldable pub contents_from : ℕ → List SectionBody → List ℕ
contents_from at [] = []
contents_from at (b ∷ bs) = at ∷ b.records ∷ contents_from (at + 2 * length b.words) bs

unfoldable pub file_text : Derivation → List ℕ
file_text d = let bs = section_bodies (numbering_of d) d in bytes (contents_from CONTENTS bs ++ words_all (λ b. b.words) bs)
