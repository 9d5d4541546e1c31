-- A text within the limits has few tokens.
use Prim.Native.Nat.{ℕ, ◌+◌, ◌*◌, ◌≤◌}
use mathlib.Core.Path.{◌≡◌}
use mathlib.Core.List.{List, [], ◌∷◌, ◌++◌}
use mathlib.Core.Option.{none, some}
use native.Mathlib.Omega.{arith}
use lib.ListN.{length, length-append}
use Rattle.script.specs.declared.Section.TheVariants.{Interfaces as interfaces, Signatures as signatures, Classes as classes}
use Rattle.script.specs.declared.Section.TheVariants.{Fields as fields, Methods as methods, Nodes as nodes}
use Rattle.grammar.specs.Grammar.{E, e_null, e_variable, e_select, e_update, e_call, e_let, e_new, e_cast, e_fork, e_lock, e_digits, e_minus, e_sum, e_sum_in}
use Rattle.grammar.specs.Grammar.{Msig, Id, id_list, id_join, Md, Cd, Derivation}
use Rattle.grammar.specs.Roles.{PLAIN, R_SIGNATURE, Scope, under, roles, roles_msig, roles_all, roles_id, roles_fd, roles_md, roles_cd, roles_before, roles_text}
use Rattle.grammar.specs.Files.{nodes_in, sum_all, joined, msigs_of}
use Rattle.capacity.specs.Extent.{TOKENS_WITHIN, WithinLimits}

expression_few : (c : Scope) (e : E) → length (roles c e) ≤ 11 * nodes_in e
unfolding roles nodes_in
expression_few c e_null = omega arith
expression_few c (e_variable x) = omega arith
expression_few c (e_select x f) = omega arith
expression_few c (e_update x f e) = omega (arith, expression_few c e)
expression_few c (e_call x m e) = rw (length-append (roles c e) (PLAIN ∷ [])) (omega (arith, expression_few c e))
expression_few c (e_let y e₁ e₂) =
    rw (length-append (roles c e₁) (PLAIN ∷ roles (under y c) e₂)) (omega (arith, expression_few c e₁, expression_few (under y c) e₂))
expression_few c (e_new t) = omega arith
expression_few c (e_cast t e) = omega (arith, expression_few c e)
expression_few c (e_fork e₁ e₂ e₃) =
    let rest = PLAIN ∷ PLAIN ∷ PLAIN ∷ roles c e₃ in
    rw (length-append (roles c e₁) (PLAIN ∷ PLAIN ∷ PLAIN ∷ (roles c e₂ ++ rest)), length-append (roles c e₂) rest)
    (omega (arith, expression_few c e₁, expression_few c e₂, expression_few c e₃))
expression_few c (e_lock x e) = omega (arith, expression_few c e)
expression_few c (e_digits d) = omega arith
expression_few c (e_minus d) = omega arith
expression_few c (e_sum x y) = omega arith
expression_few c (e_sum_in x y) = omega arith

-- Lists of which each element has few tokens.
all_few : {A : Type 0} (f : A → List ℕ) (n : A → ℕ) → ((a : A) → length (f a) ≤ n a) → (l : List A) → length (roles_all f l) ≤ sum_all n l
unfolding roles_all sum_all
all_few f n h [] = omega arith
all_few f n h (a ∷ l) = rw (length-append (f a) (roles_all f l)) (omega (arith, h a, all_few f n h l))

same_few : {A : Type 0} (n : ℕ) (l : List A) → sum_all (λ a. n) l ≡ n * length l
unfolding sum_all
same_few n [] = omega arith
same_few n (a ∷ l) = omega (arith, same_few n l)

signatures_few : (l : List Msig) → length (roles_all (roles_msig R_SIGNATURE) l) ≤ 8 * length l
signatures_few l = omega (arith, all_few (roles_msig R_SIGNATURE) (λ s. 8) (λ s. omega arith) l, same_few 8 l)

ids_few : (l : List Id) → length (roles_all roles_id l) ≤ 6 * length l + 8 * length (joined msigs_of l)
unfolding roles_all roles_id joined
ids_few [] = omega arith
ids_few (id_list i ms ∷ l) =
    rw (
      length-append (roles_all (roles_msig R_SIGNATURE) ms ++ (PLAIN ∷ [])) (roles_all roles_id l),
      length-append (roles_all (roles_msig R_SIGNATURE) ms) (PLAIN ∷ []),
      length-append ms (joined msigs_of l),
    )
    (omega (arith, signatures_few ms, ids_few l))
ids_few (id_join i a b ∷ l) = omega (arith, ids_few l)

method_few : (m : Md) → length (roles_md m) ≤ 11 + 11 * nodes_in m.body
unfolding roles_md
method_few m =
    let body = roles (some m.msig.parameter) m.body in
    rw (length-append body (PLAIN ∷ [])) (omega (arith, expression_few (some m.msig.parameter) m.body))

methods_few : (l : List Md) → length (roles_all roles_md l) ≤ 11 * length l + 11 * sum_all (λ m. nodes_in m.body) l
unfolding roles_all sum_all
methods_few [] = omega arith
methods_few (m ∷ l) = rw (length-append (roles_md m) (roles_all roles_md l)) (omega (arith, method_few m, methods_few l))

class_few : (c : Cd) → length (roles_cd c) ≤ 6 + 3 * length c.fds + (11 * length c.mds + 11 * sum_all (λ m. nodes_in m.body) c.mds)
unfolding roles_cd
class_few c =
    rw (
      length-append (roles_all roles_fd c.fds) (roles_all roles_md c.mds ++ (PLAIN ∷ [])),
      length-append (roles_all roles_md c.mds) (PLAIN ∷ []),
    )
    (omega (arith, all_few roles_fd (λ f. 3) (λ f. omega arith) c.fds, same_few 3 c.fds, methods_few c.mds))

sum_append : {A : Type 0} (f : A → ℕ) (a b : List A) → sum_all f (a ++ b) ≡ sum_all f a + sum_all f b
unfolding sum_all
sum_append f [] b = omega arith
sum_append f (x ∷ a) b = omega (arith, sum_append f a b)

classes_few :
    (l : List Cd)
    → length (roles_all roles_cd l)
    ≤ 6 * length l + 3 * length (joined (λ c. c.fds) l)
    + (11 * length (joined (λ c. c.mds) l) + 11 * sum_all (λ m. nodes_in m.body) (joined (λ c. c.mds) l))
unfolding roles_all joined sum_all
classes_few [] = omega arith
classes_few (c ∷ l) =
    rw (
      length-append (roles_cd c) (roles_all roles_cd l),
      length-append c.fds (joined (λ c. c.fds) l),
      length-append c.mds (joined (λ c. c.mds) l),
      sum_append (λ m. nodes_in m.body) c.mds (joined (λ c. c.mds) l),
    )
    (omega (arith, class_few c, classes_few l))

pub tokens_few : (d : Derivation) → WithinLimits d → length (roles_text d) ≤ TOKENS_WITHIN
unfolding roles_text roles_before
tokens_few d h =
    let ids = roles_all roles_id d.ids in
    let cds = roles_all roles_cd d.cds in
    rw (length-append (ids ++ cds) (roles none d.start), length-append ids cds)
    (omega (
      arith,
      ids_few d.ids,
      classes_few d.cds,
      expression_few none d.start,
      h.counts interfaces,
      h.counts signatures,
      h.counts classes,
      h.counts fields,
      h.counts methods,
      h.counts nodes,
    ))
