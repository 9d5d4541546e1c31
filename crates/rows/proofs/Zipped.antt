-- Items by roles and tokens are the derivation's items.
use Prim.Native.Nat.{ℕ, ◌+◌, ◌*◌, ◌<◌, ◌≤◌}
use mathlib.Core.Path.{◌≡◌, refl, sym, ap, ◌∙◌}
use mathlib.Core.Bool.{Bool, true, false, cond}
use mathlib.Core.List.{List, [], ◌∷◌, ◌++◌, append_assoc}
use mathlib.Core.Option.{none, some}
use native.Mathlib.Omega.{arith}
use lib.Dec.{eqb}
use lib.ListN.{length, length-append}
use borrow.Author.Tests.{ne_eqb}
use Rattle.grammar.specs.Tokens.{Spelling, Lexeme, fixed, same_spelling, W_IN, W_ASYNC, S_BRACE, S_UNBRACE, S_CLOSE, S_SEMICOLON}
use Rattle.grammar.specs.Grammar.{X, x_this, x_name, T, t_unit, t_int, t_name, E, e_null, e_variable, e_select, e_update, e_call, e_let, e_new, e_cast}
use Rattle.grammar.specs.Grammar.{e_fork, e_lock, e_digits, e_minus, e_sum, e_sum_in, Msig, Id, id_list, id_join, Fd, Md, Cd, Derivation}
use Rattle.grammar.specs.Grammar.{variable_token, type_token, spelled, spelled_msig, spelled_all, spelled_id, spelled_fd, spelled_md, spelled_cd, spelled_text}
use Rattle.grammar.specs.Roles.{PLAIN, R_OPERAND, R_VARIABLE, R_SELECT, R_UPDATE, R_CALL, R_SUM, R_SIGNATURE, R_METHOD_NAME, BINDING, B_PARAMETER, B_OTHER, Scope, under, bound}
use Rattle.grammar.specs.Roles.{type_role, roles, roles_msig, roles_all, roles_id, roles_fd, roles_md, roles_cd, roles_before, roles_text}
use Rattle.grammar.specs.Files.{Numbering, rank_in, spelling_of}
use Rattle.capacity.proofs.Roles.{roles_spelled, all_spelled, msig_spelled, id_spelled, fd_spelled, md_spelled, cd_spelled}
use Rattle.rows.specs.Rows.{Item}
use Rattle.rows.specs.Items.{item, items, variable_item, variable_value, type_item, items_msig, items_all, items_id, items_fd, items_md, items_cd, items_before, items_text}
use Rattle.rows.specs.Zipped.{value_by, amount_by, items_by}
use Rattle.rows.proofs.Expressions.{binding}

pub items_append :
    (k : Numbering) (a : List ℕ) (b : List Lexeme) (c : List ℕ) (d : List Lexeme)
    → length a ≡ length b
    → items_by k (a ++ c) (b ++ d) ≡ items_by k a b ++ items_by k c d
unfolding items_by
items_append k [] [] c d h = refl
items_append k [] (l ∷ b) c d h = absurd (omega (arith, h))
items_append k (r ∷ a) [] c d h = absurd (omega (arith, h))
items_append k (r ∷ a) (l ∷ b) c d h = ap (λ q. item r (value_by k r (spelling_of l)) (amount_by l) ∷ q) (items_append k a b c d (omega (arith, h)))

-- A variable's value: it is numbered if it is neither `this` nor the parameter.
high_value : (k : Numbering) (r b : ℕ) (y : Spelling) → R_OPERAND ≤ r → r < BINDING
    → value_by k (r + BINDING * b) y ≡ cond (eqb b B_OTHER) (rank_in k.other_names y) 0
unfolding value_by
high_value k r b y h g =
    rw (
      ne_eqb (r + BINDING * b) 4 (λ e. omega (arith, e, h)),
      ne_eqb (r + BINDING * b) 10 (λ e. omega (arith, e, h)),
      ne_eqb (r + BINDING * b) 13 (λ e. omega (arith, e, h)),
      ne_eqb (r + BINDING * b) 5 (λ e. omega (arith, e, h)),
      ne_eqb (r + BINDING * b) 12 (λ e. omega (arith, e, h)),
      ne_eqb (r + BINDING * b) 11 (λ e. omega (arith, e, h)),
      ne_eqb (r + BINDING * b) 6 (λ e. omega (arith, e, h)),
      ne_eqb (r + BINDING * b) 7 (λ e. omega (arith, e, h)),
      binding r b g,
    )
    refl

variable_value_lem : (k : Numbering) (r : ℕ) (c : Scope) (x : X) → R_OPERAND ≤ r → r < BINDING
    → value_by k (bound r c x) (spelling_of (variable_token x)) ≡ variable_value k c x
variable_value_lem k r c x_this h g = high_value k r 0 [] h g
variable_value_lem k r none (x_name y) h g = high_value k r B_OTHER y h g
variable_value_lem k r (some p) (x_name y) h g = by_name (same_spelling y p) refl
  where
    by_name : (q : Bool) → same_spelling y p ≡ q → value_by k (bound r (some p) (x_name y)) y ≡ variable_value k (some p) (x_name y)
    by_name true e = rw e (high_value k r B_PARAMETER y h g)
    by_name false e = rw e (high_value k r B_OTHER y h g)

variable_amount : (x : X) → amount_by (variable_token x) ≡ 0
variable_amount x_this = refl
variable_amount (x_name y) = refl

variable_by : (k : Numbering) (r : ℕ) (c : Scope) (x : X) → R_OPERAND ≤ r → r < BINDING
    → item (bound r c x) (value_by k (bound r c x) (spelling_of (variable_token x))) (amount_by (variable_token x)) ≡ variable_item k r c x
variable_by k r c x h g = rw (variable_value_lem k r c x h g, variable_amount x) refl

type_by : (k : Numbering) (t : T) → item (type_role t) (value_by k (type_role t) (spelling_of (type_token t))) (amount_by (type_token t)) ≡ type_item k t
unfolding value_by
type_by k t_unit = refl
type_by k t_int = refl
type_by k (t_name c) = refl

items_by_lem : (k : Numbering) (c : Scope) (e : E) → items_by k (roles c e) (spelled e) ≡ items k c e
unfolding items_by roles spelled items value_by
items_by_lem k c e_null = refl
items_by_lem k c (e_variable x) = rw (variable_by k R_VARIABLE c x (omega arith) (omega arith)) refl
items_by_lem k c (e_select x f) = rw (variable_by k R_SELECT c x (omega arith) (omega arith)) refl
items_by_lem k c (e_update x f e) = rw (variable_by k R_UPDATE c x (omega arith) (omega arith), items_by_lem k c e) refl
items_by_lem k c (e_call x m e) =
    rw (
      variable_by k R_CALL c x (omega arith) (omega arith),
      items_append k (roles c e) (spelled e) (PLAIN ∷ []) (fixed S_CLOSE ∷ []) (roles_spelled c e),
      items_by_lem k c e,
    )
    refl
items_by_lem k c (e_let y e₁ e₂) =
    rw (
      items_append k (roles c e₁) (spelled e₁) (PLAIN ∷ roles (under y c) e₂) (fixed W_IN ∷ spelled e₂) (roles_spelled c e₁),
      items_by_lem k c e₁,
      items_by_lem k (under y c) e₂,
    )
    refl
items_by_lem k c (e_new t) = refl
items_by_lem k c (e_cast t e) = rw (type_by k t, items_by_lem k c e) refl
items_by_lem k c (e_fork e₁ e₂ e₃) =
    let rs = PLAIN ∷ PLAIN ∷ PLAIN ∷ roles c e₃ in
    let ls = fixed S_UNBRACE ∷ fixed S_UNBRACE ∷ fixed S_SEMICOLON ∷ spelled e₃ in
    rw (
      items_append k (roles c e₁) (spelled e₁) (PLAIN ∷ PLAIN ∷ PLAIN ∷ (roles c e₂ ++ rs)) (fixed S_UNBRACE ∷ fixed W_ASYNC ∷ fixed S_BRACE ∷ (spelled e₂ ++ ls)) (roles_spelled c e₁),
      items_append k (roles c e₂) (spelled e₂) rs ls (roles_spelled c e₂),
      items_by_lem k c e₁,
      items_by_lem k c e₂,
      items_by_lem k c e₃,
    )
    refl
items_by_lem k c (e_lock x e) = rw (variable_by k R_OPERAND c x (omega arith) (omega arith), items_by_lem k c e) refl
items_by_lem k c (e_digits d) = refl
items_by_lem k c (e_minus d) = refl
items_by_lem k c (e_sum x y) = rw (variable_by k R_SUM c x (omega arith) (omega arith), variable_by k R_OPERAND c y (omega arith) (omega arith)) refl
items_by_lem k c (e_sum_in x y) =
    rw (variable_by k R_OPERAND c x (omega arith) (omega arith), variable_by k R_OPERAND c y (omega arith) (omega arith)) refl

-- Declarations.
signature_by : (k : Numbering) (s : Msig) → items_by k (roles_msig R_SIGNATURE s) (spelled_msig s) ≡ items_msig k R_SIGNATURE s
unfolding items_by spelled_msig value_by
signature_by k s = rw (type_by k s.takes, type_by k s.gives) refl

method_by : (k : Numbering) (s : Msig) → items_by k (roles_msig R_METHOD_NAME s) (spelled_msig s) ≡ items_msig k R_METHOD_NAME s
unfolding items_by spelled_msig value_by
method_by k s = rw (type_by k s.takes, type_by k s.gives) refl

all_by :
    {A : Type 0} (k : Numbering) (f : A → List ℕ) (g : A → List Lexeme) (h : A → List Item)
    → ((a : A) → length (f a) ≡ length (g a))
    → ((a : A) → items_by k (f a) (g a) ≡ h a)
    → (l : List A)
    → items_by k (roles_all f l) (spelled_all g l) ≡ items_all h l
unfolding items_by roles_all spelled_all items_all
all_by k f g h p q [] = refl
all_by k f g h p q (a ∷ l) = rw (items_append k (f a) (g a) (roles_all f l) (spelled_all g l) (p a), q a, all_by k f g h p q l) refl

id_by : (k : Numbering) (i : Id) → items_by k (roles_id i) (spelled_id i) ≡ items_id k i
unfolding items_by roles_id spelled_id items_id value_by
id_by k (id_list i ms) =
    rw (
      items_append k (roles_all (roles_msig R_SIGNATURE) ms) (spelled_all spelled_msig ms) (PLAIN ∷ []) (fixed S_UNBRACE ∷ [])
          (all_spelled (roles_msig R_SIGNATURE) spelled_msig (msig_spelled R_SIGNATURE) ms),
      all_by k (roles_msig R_SIGNATURE) spelled_msig (items_msig k R_SIGNATURE) (msig_spelled R_SIGNATURE) (signature_by k) ms,
    )
    refl
id_by k (id_join i a b) = refl

fd_by : (k : Numbering) (f : Fd) → items_by k (roles_fd f) (spelled_fd f) ≡ items_fd k f
unfolding items_by spelled_fd value_by
fd_by k f = rw (type_by k f.holds) refl

md_by : (k : Numbering) (m : Md) → items_by k (roles_md m) (spelled_md m) ≡ items_md k m
unfolding items_by roles_md spelled_md items_md value_by
md_by k m =
    let c = some m.msig.parameter in
    rw (
      items_append k (roles_msig R_METHOD_NAME m.msig) (spelled_msig m.msig) (PLAIN ∷ (roles c m.body ++ (PLAIN ∷ [])))
          (fixed S_BRACE ∷ (spelled m.body ++ (fixed S_UNBRACE ∷ []))) (msig_spelled R_METHOD_NAME m.msig),
      method_by k m.msig,
      items_append k (roles c m.body) (spelled m.body) (PLAIN ∷ []) (fixed S_UNBRACE ∷ []) (roles_spelled c m.body),
      items_by_lem k c m.body,
    )
    refl

cd_by : (k : Numbering) (c : Cd) → items_by k (roles_cd c) (spelled_cd c) ≡ items_cd k c
unfolding items_by roles_cd spelled_cd items_cd value_by
cd_by k c =
    rw (
      items_append k (roles_all roles_fd c.fds) (spelled_all spelled_fd c.fds) (roles_all roles_md c.mds ++ (PLAIN ∷ []))
          (spelled_all spelled_md c.mds ++ (fixed S_UNBRACE ∷ [])) (all_spelled roles_fd spelled_fd fd_spelled c.fds),
      items_append k (roles_all roles_md c.mds) (spelled_all spelled_md c.mds) (PLAIN ∷ []) (fixed S_UNBRACE ∷ []) (all_spelled roles_md spelled_md md_spelled c.mds),
      all_by k roles_fd spelled_fd (items_fd k) fd_spelled (fd_by k) c.fds,
      all_by k roles_md spelled_md (items_md k) md_spelled (md_by k) c.mds,
    )
    refl

before_lengths : (d : Derivation) → length (roles_before d) ≡ length (spelled_all spelled_id d.ids ++ spelled_all spelled_cd d.cds)
unfolding roles_before
before_lengths d = simp (length-append, all_spelled roles_id spelled_id id_spelled d.ids, all_spelled roles_cd spelled_cd cd_spelled d.cds)

before_by : (k : Numbering) (d : Derivation) → items_by k (roles_before d) (spelled_all spelled_id d.ids ++ spelled_all spelled_cd d.cds) ≡ items_before k d
unfolding roles_before items_before
before_by k d =
    rw (
      items_append k (roles_all roles_id d.ids) (spelled_all spelled_id d.ids) (roles_all roles_cd d.cds) (spelled_all spelled_cd d.cds) (all_spelled roles_id spelled_id id_spelled d.ids),
      all_by k roles_id spelled_id (items_id k) id_spelled (id_by k) d.ids,
      all_by k roles_cd spelled_cd (items_cd k) cd_spelled (cd_by k) d.cds,
    )
    refl

pub text_by : (k : Numbering) (d : Derivation) → items_by k (roles_text d) (spelled_text d) ≡ items_text k d
unfolding roles_text spelled_text items_text
text_by k d =
    let before = spelled_all spelled_id d.ids ++ spelled_all spelled_cd d.cds in
    ap (items_by k (roles_before d ++ roles none d.start)) (sym (append_assoc (spelled_all spelled_id d.ids) (spelled_all spelled_cd d.cds) (spelled d.start)))
    ∙ items_append k (roles_before d) before (roles none d.start) (spelled d.start) (before_lengths d)
    ∙ rw (before_by k d, items_by_lem k none d.start) refl

-- The start begins behind as many items as roles.
pub items_length : (k : Numbering) (rs : List ℕ) (ls : List Lexeme) → length rs ≡ length ls → length (items_by k rs ls) ≡ length rs
unfolding items_by
items_length k [] ls h = refl
items_length k (r ∷ rs) [] h = absurd (omega (arith, h))
items_length k (r ∷ rs) (l ∷ ls) h = omega (arith, items_length k rs ls (omega (arith, h)))

pub before_length : (k : Numbering) (d : Derivation) → length (items_before k d) ≡ length (roles_before d)
before_length k d =
    ap length (sym (before_by k d)) ∙ items_length k (roles_before d) (spelled_all spelled_id d.ids ++ spelled_all spelled_cd d.cds) (before_lengths d)
