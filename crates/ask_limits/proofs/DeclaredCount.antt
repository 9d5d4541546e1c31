-- Where no name is declared again, there are as many names of types as declarations.
use Prim.Native.Nat.{ℕ, ◌+◌, ◌*◌, ◌<◌, ◌≤◌}
use mathlib.Core.Path.{◌≡◌, refl, sym, ap, ◌∙◌}
use mathlib.Core.Bool.{Bool, true, false, ◌||◌}
use mathlib.Core.List.{List, [], ◌∷◌, ◌++◌, map, append-nil}
use mathlib.Core.Logic.{⊎_elim}
use mathlib.Core.Option.{none, some}
use native.Mathlib.Omega.{arith}
use lib.ListN.{length}
use lib.Seq.{append_snoc}
use borrow.Author.Tests.{ne_eqb}
use Rattle.script.specs.Asking.{Decides, holds, fails}
use Rattle.script.proofs.Tests.{true_false}
use Rattle.script.proofs.Lists.{lt_or_le}
use Rattle.grammar.specs.Grammar.{T, t_unit, t_int, t_name, E, e_null, e_variable, e_select, e_update, e_call, e_let, e_new, e_cast}
use Rattle.grammar.specs.Grammar.{e_fork, e_lock, e_digits, e_minus, e_sum, e_sum_in, Msig, Id, id_list, id_join, Fd, Md, Cd, Derivation}
use Rattle.grammar.specs.Roles.{PLAIN, R_DECLARED, R_SIGNATURE, R_METHOD_NAME, R_OPERAND, R_VARIABLE, R_SELECT, R_UPDATE, R_CALL, R_SUM, BINDING, Scope, under, binding_by, type_role}
use Rattle.grammar.specs.Roles.{roles, roles_msig, roles_all, roles_id, roles_fd, roles_md, roles_cd, roles_before, roles_text}
use Rattle.grammar.specs.Tokens.{Spelling, Lexeme}
use Rattle.grammar.specs.Grammar.{spelled_text}
use Rattle.grammar.specs.Files.{numbering_of, declared_role, spelling_of, kept_if, names_with, distinct, rank_in}
use Rattle.grammar.specs.Faults.{Marked, marked_by, marked_text, first_fault, declared_among, again_test, nowhere_test, declaration_fault}
use Rattle.capacity.proofs.Faultless.{faultless, or_neither}
use Rattle.capacity.proofs.Roles.{text_spelled}
use Rattle.spellings.proofs.Places.{Among}
use Rattle.numbering.proofs.Distinct.{distinct_more, distinct_from, length_new}
use Rattle.declarations.proofs.Marks.{declared_among_lem}
use Rattle.declarations.specs.Declaring.{one_added_if, declared_in}

count_append : (a b : List ℕ) → declared_in (a ++ b) ≡ declared_in a + declared_in b
unfolding declared_in
count_append [] b = omega arith
count_append (r ∷ a) b = go (declared_role r) (count_append a b)
  where
    go : (q : Bool) → declared_in (a ++ b) ≡ declared_in a + declared_in b → one_added_if q (declared_in (a ++ b)) ≡ one_added_if q (declared_in a) + declared_in b
    go true h = omega (arith, h)
    go false h = h

x_none : (r b : ℕ) → R_OPERAND ≤ r → declared_role (r + BINDING * b) ≡ false
x_none r b h = ne_eqb (r + BINDING * b) R_DECLARED (λ e. omega (arith, e, h))

t_none : (t : T) → declared_role (type_role t) ≡ false
t_none t_unit = refl
t_none t_int = refl
t_none (t_name c) = refl

expression_none : (c : Scope) (e : E) → declared_in (roles c e) ≡ 0
unfolding declared_in roles
expression_none c e_null = refl
expression_none c (e_variable x) = rw (x_none R_VARIABLE (binding_by c x) (omega arith)) refl
expression_none c (e_select x f) = rw (x_none R_SELECT (binding_by c x) (omega arith)) refl
expression_none c (e_update x f e) = rw (x_none R_UPDATE (binding_by c x) (omega arith)) (expression_none c e)
expression_none c (e_call x m e) =
    rw (x_none R_CALL (binding_by c x) (omega arith)) (omega (arith, count_append (roles c e) (PLAIN ∷ []), expression_none c e))
expression_none c (e_let y e₁ e₂) = omega (arith, count_append (roles c e₁) (PLAIN ∷ roles (under y c) e₂), expression_none c e₁, expression_none (under y c) e₂)
expression_none c (e_new t) = refl
expression_none c (e_cast t e) = rw (t_none t) (expression_none c e)
expression_none c (e_fork e₁ e₂ e₃) =
    let rest = PLAIN ∷ PLAIN ∷ PLAIN ∷ roles c e₃ in
    omega (
      arith,
      count_append (roles c e₁) (PLAIN ∷ PLAIN ∷ PLAIN ∷ (roles c e₂ ++ rest)),
      count_append (roles c e₂) rest,
      expression_none c e₁,
      expression_none c e₂,
      expression_none c e₃,
    )
expression_none c (e_lock x e) = rw (x_none R_OPERAND (binding_by c x) (omega arith)) (expression_none c e)
expression_none c (e_digits d) = refl
expression_none c (e_minus d) = refl
expression_none c (e_sum x y) = rw (x_none R_SUM (binding_by c x) (omega arith), x_none R_OPERAND (binding_by c y) (omega arith)) refl
expression_none c (e_sum_in x y) = rw (x_none R_OPERAND (binding_by c x) (omega arith), x_none R_OPERAND (binding_by c y) (omega arith)) refl

msig_none : (r : ℕ) (s : Msig) → declared_role r ≡ false → declared_in (roles_msig r s) ≡ 0
unfolding declared_in
msig_none r s h = rw (h, t_none s.takes, t_none s.gives) refl

all_each : {A : Type 0} (f : A → List ℕ) (n : ℕ) → ((a : A) → declared_in (f a) ≡ n) → (l : List A) → declared_in (roles_all f l) ≡ n * length l
unfolding declared_in roles_all
all_each f n h [] = omega arith
all_each f n h (a ∷ l) = omega (arith, count_append (f a) (roles_all f l), h a, all_each f n h l)

id_one : (i : Id) → declared_in (roles_id i) ≡ 1
unfolding declared_in roles_id
id_one (id_list i ms) =
    omega (
      arith,
      count_append (roles_all (roles_msig R_SIGNATURE) ms) (PLAIN ∷ []),
      all_each (roles_msig R_SIGNATURE) 0 (λ s. msig_none R_SIGNATURE s refl) ms,
    )
id_one (id_join i a b) = refl

fd_none : (f : Fd) → declared_in (roles_fd f) ≡ 0
unfolding declared_in
fd_none f = rw (t_none f.holds) refl

md_none : (m : Md) → declared_in (roles_md m) ≡ 0
unfolding declared_in roles_md
md_none m =
    let body = roles (some m.msig.parameter) m.body in
    omega (
      arith,
      count_append (roles_msig R_METHOD_NAME m.msig) (PLAIN ∷ (body ++ (PLAIN ∷ []))),
      msig_none R_METHOD_NAME m.msig refl,
      count_append body (PLAIN ∷ []),
      expression_none (some m.msig.parameter) m.body,
    )

cd_one : (c : Cd) → declared_in (roles_cd c) ≡ 1
unfolding declared_in roles_cd
cd_one c =
    omega (
      arith,
      count_append (roles_all roles_fd c.fds) (roles_all roles_md c.mds ++ (PLAIN ∷ [])),
      count_append (roles_all roles_md c.mds) (PLAIN ∷ []),
      all_each roles_fd 0 fd_none c.fds,
      all_each roles_md 0 md_none c.mds,
    )

pub text_declared : (d : Derivation) → declared_in (roles_text d) ≡ length d.ids + length d.cds
unfolding roles_text roles_before
text_declared d =
    omega (
      arith,
      count_append (roles_all roles_id d.ids ++ roles_all roles_cd d.cds) (roles none d.start),
      count_append (roles_all roles_id d.ids) (roles_all roles_cd d.cds),
      all_each roles_id 1 id_one d.ids,
      all_each roles_cd 1 cd_one d.cds,
      expression_none none d.start,
    )

-- The declared names among marked tokens.
names : List Marked → List Spelling
names ms = names_with declared_role (map (λ m. m.role) ms) (map (λ m. m.marks) ms)

marked_again : (ms : List Marked) → marked_by (map (λ m. m.role) ms) (map (λ m. m.marks) ms) ≡ ms
unfolding marked_by
marked_again [] = refl
marked_again (m ∷ ms) = ap (λ l. m ∷ l) (marked_again ms)

names_more : (ms : List Marked) (m : Marked) → names (ms ++ (m ∷ [])) ≡ names ms ++ kept_if (declared_role m.role) (spelling_of m.marks) []
unfolding names names_with
names_more [] m = refl
names_more (n ∷ ms) m = go (declared_role n.role) (names_more ms m)
  where
    go : (q : Bool) → names (ms ++ (m ∷ [])) ≡ names ms ++ kept_if (declared_role m.role) (spelling_of m.marks) []
        → kept_if q (spelling_of n.marks) (names (ms ++ (m ∷ []))) ≡ kept_if q (spelling_of n.marks) (names ms) ++ kept_if (declared_role m.role) (spelling_of m.marks) []
    go true h = ap (λ l. spelling_of n.marks ∷ l) h
    go false h = h

not_among : {P : Type 0} {b : Bool} → Decides P b → b ≡ false → P → ⊥
not_among (holds p) e q = true_false e
not_among (fails f) e q = f q

at_most : (n m : ℕ) → (m < n → ⊥) → n ≤ m
at_most n m h = ⊎_elim (λ (l : m < n). absurd (h l)) (λ (l : n ≤ m). l) (lt_or_le m n)

-- A name that is not declared before is new.
new_name : (ms : List Marked) (y : Spelling) → declared_among y ms ≡ false → length (distinct (names ms ++ (y ∷ []))) ≡ length (distinct (names ms)) + 1
unfolding names
new_name ms y h =
    let l = names ms in
    let no : Among l y → ⊥ = not_among (declared_among_lem y (map (λ m. m.role) ms) (map (λ m. m.marks) ms)) (ap (declared_among y) (marked_again ms) ∙ h) in
    ap length (distinct_more l y)
    ∙ length_new (distinct l) y (length (distinct l)) (rank_in (distinct l) y) refl refl (at_most (length (distinct l)) (rank_in (distinct l) y) (λ a. no (distinct_from l y a)))

one_step :
    (before : List Marked) (m : Marked) (after : List ℕ)
    → again_test before m ≡ false
    → length (distinct (names (before ++ (m ∷ [])))) + declared_in after ≡ length (distinct (names before)) + declared_in (m.role ∷ after)
unfolding declared_in
one_step before m after h = rw (names_more before m) (go (declared_role m.role) refl)
  where
    go : (q : Bool) → declared_role m.role ≡ q
        → length (distinct (names before ++ kept_if (declared_role m.role) (spelling_of m.marks) [])) + declared_in after
        ≡ length (distinct (names before)) + one_added_if (declared_role m.role) (declared_in after)
    go true e = rw e (omega (arith, new_name before (spelling_of m.marks) (rw e at h)))
    go false e = rw (e, append-nil (names before)) refl

grows :
    (text before after : List Marked)
    → first_fault (λ before m after. again_test before m || nowhere_test text m) before after ≡ none
    → length (distinct (names (before ++ after))) ≡ length (distinct (names before)) + declared_in (map (λ m. m.role) after)
unfolding declared_in
grows text before [] h = rw (append-nil before) (omega arith)
grows text before (m ∷ after) h =
    let p = faultless (λ before m after. again_test before m || nowhere_test text m) before m after h in
    let q = (or_neither (again_test before m) (nowhere_test text m) p.0).0 in
    let r = grows text (before ++ (m ∷ [])) after p.1 in
    ap (λ l. length (distinct (names l))) (sym (append_snoc before m after)) ∙ r ∙ one_step before m (map (λ m. m.role) after) q

map_roles : (rs : List ℕ) (ls : List Lexeme) → length rs ≡ length ls → map (λ m. m.role) (marked_by rs ls) ≡ rs
unfolding marked_by
map_roles [] ls h = refl
map_roles (r ∷ rs) [] h = absurd (omega (arith, h))
map_roles (r ∷ rs) (l ∷ ls) h = ap (λ k. r ∷ k) (map_roles rs ls (omega (arith, h)))

map_marks : (rs : List ℕ) (ls : List Lexeme) → length rs ≡ length ls → map (λ m. m.marks) (marked_by rs ls) ≡ ls
unfolding marked_by
map_marks [] [] h = refl
map_marks [] (l ∷ ls) h = absurd (omega (arith, h))
map_marks (r ∷ rs) [] h = absurd (omega (arith, h))
map_marks (r ∷ rs) (l ∷ ls) h = ap (λ k. l ∷ k) (map_marks rs ls (omega (arith, h)))

pub types_counted : (d : Derivation) → declaration_fault (marked_text d) ≡ none → length (numbering_of d).type_names ≡ length d.ids + length d.cds
unfolding declaration_fault names names_with distinct
types_counted d h =
    let rs = map_roles (roles_text d) (spelled_text d) (text_spelled d) in
    let ls = map_marks (roles_text d) (spelled_text d) (text_spelled d) in
    ap (λ a. length (distinct (names_with declared_role a (spelled_text d)))) (sym rs)
    ∙ ap (λ b. length (distinct (names_with declared_role (map (λ m. m.role) (marked_text d)) b))) (sym ls)
    ∙ grows (marked_text d) [] (marked_text d) h
    ∙ ap (λ a. 0 + declared_in a) rs
    ∙ omega (arith, text_declared d)
