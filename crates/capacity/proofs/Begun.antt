-- The records that begin in a derivation's tokens are those of its file.
use mathlib.Core.Path.{◌≡◌, refl, sym, ap, ◌∙◌}
use mathlib.Core.Bool.{Bool, true, false, ◌&&◌, ◌||◌}
use mathlib.Core.Option.{none, some}
use mathlib.Core.List.{List, [], ◌∷◌, ◌++◌}
use mathlib.Core.Logic.{◌⊎◌, ⊎_elim, inr}
use Prim.Native.Nat.{ℕ, suc, ◌+◌, ◌*◌, ◌%◌, ◌≤◌, ◌<◌}
use native.Mathlib.Omega.{arith}
use lib.Dec.{eqb, leb, ltb}
use lib.ListN.{length, length-append}
use borrow.Author.Tests.{ne_eqb, le-leb, lt-leb}
use Rattle.script.specs.declared.Section.{Section}
use Rattle.script.specs.declared.Section.TheVariants.{Interfaces as interfaces, Signatures as signatures, Classes as classes}
use Rattle.script.specs.declared.Section.TheVariants.{Fields as fields, Methods as methods, Nodes as nodes}
use Rattle.script.proofs.Tests.{says_yes, decides_or, decides_and, decides_eq, decides_lt, decides_le}
use Rattle.grammar.specs.Tokens.{Lexeme}
use Rattle.grammar.specs.Grammar.{T, t_unit, t_int, t_name, Msig, Id, id_list, id_join, Fd, Md, Cd, Derivation}
use Rattle.grammar.specs.Grammar.{E, e_null, e_variable, e_select, e_update, e_call, e_let, e_new, e_cast, e_fork, e_lock, e_digits, e_minus, e_sum, e_sum_in}
use Rattle.grammar.specs.Roles.{PLAIN, R_INTERFACE, R_CLASS, R_METHOD, R_SIGNATURE, R_FIELD, R_DECLARED, R_TYPE, R_METHOD_NAME, R_BINDER, R_FIELD_USED}
use Rattle.grammar.specs.Roles.{R_METHOD_USED, R_OPERAND, R_NULL, R_VARIABLE, R_SELECT, R_UPDATE, R_CALL, R_LET, R_NEW, R_CAST, R_FORK, R_LOCK, R_INTEGER}
use Rattle.grammar.specs.Roles.{R_SUM, R_SUM_IN, R_NEGATIVE, BINDING, Scope, under, binding_by, type_role, roles, roles_msig, roles_all, roles_id, roles_fd, roles_md}
use Rattle.grammar.specs.Roles.{roles_cd, roles_before, roles_text}
use Rattle.grammar.specs.Files.{nodes_in, sum_all, joined, msigs_of}
use Rattle.grammar.specs.Faults.{marked_by, marked_text, begins_test, one_more_if, begun_in}
use Rattle.grammar.specs.Grammar.{spelled_text}
use Rattle.capacity.specs.Extent.{records_of}
use Rattle.capacity.proofs.Roles.{text_spelled}

-- The records that begin at tokens of these roles.
unfoldable begun_by : Section → List ℕ → ℕ
begun_by k [] = 0
begun_by k (r ∷ rs) = one_more_if (begins_test k r) (begun_by k rs)

begun_marked : (k : Section) (rs : List ℕ) (ts : List Lexeme) → length rs ≡ length ts → begun_in k (marked_by rs ts) ≡ begun_by k rs
unfolding begun_in marked_by begun_by
begun_marked k [] ts h = refl
begun_marked k (r ∷ rs) [] h = absurd (omega arith)
begun_marked k (r ∷ rs) (t ∷ ts) h = rw (begun_marked k rs ts (omega arith))

more_if : (b : Bool) (n : ℕ) → one_more_if b n ≡ one_more_if b 0 + n
more_if true n = omega arith
more_if false n = omega arith

-- A role that begins no record, and one that begins a node; a variable's binding makes no difference.
abbrev plain_test : ℕ → Bool
plain_test r = eqb r PLAIN || (ltb R_FIELD r && ltb r R_NULL)

abbrev node_test : ℕ → Bool
node_test r = leb R_NULL r && ltb r BINDING

plain_said : (r : ℕ) → plain_test r ≡ true → (r ≡ PLAIN) ⊎ ((R_FIELD < r) × (r < R_NULL))
plain_said r h = says_yes (decides_or (decides_eq r PLAIN) (decides_and (decides_lt R_FIELD r) (decides_lt r R_NULL))) h

node_said : (r : ℕ) → node_test r ≡ true → (R_NULL ≤ r) × (r < BINDING)
node_said r h = says_yes (decides_and (decides_le R_NULL r) (decides_lt r BINDING)) h

begins_nothing : (k : Section) (r b : ℕ) → (r ≡ PLAIN) ⊎ ((R_FIELD < r) × (r < R_NULL)) → begins_test k (r + BINDING * b) ≡ false
begins_nothing interfaces r b h = ne_eqb (r + BINDING * b) R_INTERFACE (λ e. ⊎_elim (λ z. omega arith) (λ z. omega arith) h)
begins_nothing signatures r b h = ne_eqb (r + BINDING * b) R_SIGNATURE (λ e. ⊎_elim (λ z. omega arith) (λ z. omega arith) h)
begins_nothing classes r b h = ne_eqb (r + BINDING * b) R_CLASS (λ e. ⊎_elim (λ z. omega arith) (λ z. omega arith) h)
begins_nothing fields r b h = ne_eqb (r + BINDING * b) R_FIELD (λ e. ⊎_elim (λ z. omega arith) (λ z. omega arith) h)
begins_nothing methods r b h = ne_eqb (r + BINDING * b) R_METHOD (λ e. ⊎_elim (λ z. omega arith) (λ z. omega arith) h)
begins_nothing nodes r b h = lt-leb R_NULL ((r + BINDING * b) % BINDING) (⊎_elim (λ z. omega arith) (λ z. omega arith) h)

begins_node : (k : Section) (r b : ℕ) → R_NULL ≤ r → r < BINDING → begins_test k (r + BINDING * b) ≡ begins_test k R_NULL
begins_node interfaces r b l h = ne_eqb (r + BINDING * b) R_INTERFACE (λ e. omega arith)
begins_node signatures r b l h = ne_eqb (r + BINDING * b) R_SIGNATURE (λ e. omega arith)
begins_node classes r b l h = ne_eqb (r + BINDING * b) R_CLASS (λ e. omega arith)
begins_node fields r b l h = ne_eqb (r + BINDING * b) R_FIELD (λ e. omega arith)
begins_node methods r b l h = ne_eqb (r + BINDING * b) R_METHOD (λ e. omega arith)
begins_node nodes r b l h = le-leb R_NULL ((r + BINDING * b) % BINDING) (omega arith)

unfoldable all_plain : List ℕ → Bool
all_plain [] = true
all_plain (r ∷ rs) = plain_test r && all_plain rs

and_both : (a b : Bool) → a && b ≡ true → (a ≡ true) × (b ≡ true)
and_both true b h = (refl, h)
and_both false b h = absurd (let z : ◌≡◌ {A = ℕ} 0 1 = cc in omega arith)

type_plain : (t : T) → plain_test (type_role t) ≡ true
type_plain t_unit = refl
type_plain t_int = refl
type_plain (t_name c) = refl

abbrev behind_name : Msig → List ℕ
behind_name s = PLAIN ∷ PLAIN ∷ PLAIN ∷ type_role s.takes ∷ PLAIN ∷ PLAIN ∷ type_role s.gives ∷ []

msig_plain : (s : Msig) → all_plain (behind_name s) ≡ true
unfolding all_plain
msig_plain s = rw (type_plain s.takes, type_plain s.gives)

sum_append : {A : Type 0} (f : A → ℕ) (l m : List A) → sum_all f (l ++ m) ≡ sum_all f l + sum_all f m
unfolding sum_all
sum_append f [] m = omega arith
sum_append f (a ∷ l) m = omega (arith, sum_append f l m)

module _ (k : Section) where
  -- What a token of a role adds to the section: 1 or 0.
  abbrev weight : ℕ → ℕ
  weight r = one_more_if (begins_test k r) 0

  begun_more : (r : ℕ) (rs : List ℕ) → begun_by k (r ∷ rs) ≡ weight r + begun_by k rs
  unfolding begun_by
  begun_more r rs = more_if (begins_test k r) (begun_by k rs)

  begun_append : (rs qs : List ℕ) → begun_by k (rs ++ qs) ≡ begun_by k rs + begun_by k qs
  unfolding begun_by
  begun_append [] qs = omega arith
  begun_append (r ∷ rs) qs =
      rw (begun_append rs qs, more_if (begins_test k r) (begun_by k rs), more_if (begins_test k r) (begun_by k rs + begun_by k qs)) (omega arith)

  -- tokens that begin nothing
  begun_plain : (rs qs : List ℕ) → all_plain rs ≡ true → begun_by k (rs ++ qs) ≡ begun_by k qs
  unfolding begun_by all_plain
  begun_plain [] qs h = refl
  begun_plain (r ∷ rs) qs h =
      let b = and_both (plain_test r) (all_plain rs) h in
      let z : r + BINDING * 0 ≡ r = omega arith in
      let e : begins_test k r ≡ false = sym (ap (begins_test k) z) ∙ begins_nothing k r 0 (plain_said r b.0) in
      rw e (begun_plain rs qs b.1)

  -- Roles at which n nodes begin.
  record Nodes (rs : List ℕ) (n : ℕ) : Type 0 where
    pub begun : begun_by k rs ≡ n * weight R_NULL

  none_yet : Nodes [] 0
  unfolding begun_by
  none_yet = record { begun = omega arith }

  plain : {qs : List ℕ} {n : ℕ} (rs : List ℕ) → all_plain rs ≡ true → Nodes qs n → Nodes (rs ++ qs) n
  plain {qs} rs h e = record { begun = begun_plain rs qs h ∙ e.begun }

  joined_nodes : {rs qs : List ℕ} {m n : ℕ} → Nodes rs m → Nodes qs n → Nodes (rs ++ qs) (m + n)
  joined_nodes {rs} {qs} d e = record { begun = omega (arith, begun_append rs qs, d.begun, e.begun) }

  ended : {rs : List ℕ} {n : ℕ} → Nodes rs n → Nodes (rs ++ (PLAIN ∷ [])) n
  unfolding all_plain
  ended {rs} e = record { begun = omega (arith, begun_append rs (PLAIN ∷ []), e.begun, begun_plain (PLAIN ∷ []) [] refl, none_yet.begun) }

  -- a variable that begins no expression
  operand : {qs : List ℕ} {n : ℕ} (b : ℕ) → Nodes qs n → Nodes ((R_OPERAND + BINDING * b) ∷ qs) n
  unfolding begun_by
  operand b e = record { begun = rw (begins_nothing k R_OPERAND b (inr (omega arith))) e.begun }

  -- the first token of an expression
  node : {rs : List ℕ} {n : ℕ} (r b : ℕ) → node_test r ≡ true → Nodes rs n → Nodes ((r + BINDING * b) ∷ rs) (suc n)
  unfolding begun_by
  node {rs} r b h e =
      let s = node_said r h in
      record { begun = rw (begins_node k r b s.0 s.1, more_if (begins_test k R_NULL) (begun_by k rs), e.begun) (omega arith) }

  expression : (c : Scope) (e : E) → Nodes (roles c e) (nodes_in e)
  unfolding roles nodes_in all_plain
  expression c e_null = node R_NULL 0 refl none_yet
  expression c (e_variable x) = node R_VARIABLE (binding_by c x) refl none_yet
  expression c (e_select x f) = node R_SELECT (binding_by c x) refl (plain (PLAIN ∷ R_FIELD_USED ∷ []) refl none_yet)
  expression c (e_update x f e) = node R_UPDATE (binding_by c x) refl (plain (PLAIN ∷ R_FIELD_USED ∷ PLAIN ∷ []) refl (expression c e))
  expression c (e_call x m e) = node R_CALL (binding_by c x) refl (plain (PLAIN ∷ R_METHOD_USED ∷ PLAIN ∷ []) refl (ended (expression c e)))
  expression c (e_let y e₁ e₂) =
      node R_LET 0 refl
      (plain (R_BINDER ∷ PLAIN ∷ []) refl (joined_nodes (expression c e₁) (plain (PLAIN ∷ []) refl (expression (under y c) e₂))))
  expression c (e_new t) = node R_NEW 0 refl (plain (R_TYPE ∷ []) refl none_yet)
  expression c (e_cast t e) = node R_CAST 0 refl (plain (type_role t ∷ PLAIN ∷ []) (rw (type_plain t)) (expression c e))
  expression c (e_fork e₁ e₂ e₃) =
      node R_FORK 0 refl
      (plain (PLAIN ∷ PLAIN ∷ PLAIN ∷ []) refl
      (joined_nodes (expression c e₁)
      (plain (PLAIN ∷ PLAIN ∷ PLAIN ∷ []) refl
      (joined_nodes (expression c e₂) (plain (PLAIN ∷ PLAIN ∷ PLAIN ∷ []) refl (expression c e₃))))))
  expression c (e_lock x e) =
      node R_LOCK 0 refl (plain (PLAIN ∷ []) refl (operand (binding_by c x) (plain (PLAIN ∷ PLAIN ∷ []) refl (expression c e))))
  expression c (e_digits d) = node R_INTEGER 0 refl none_yet
  expression c (e_minus d) = node R_NEGATIVE 0 refl (plain (PLAIN ∷ []) refl none_yet)
  expression c (e_sum x y) = node R_SUM (binding_by c x) refl (plain (PLAIN ∷ []) refl (operand (binding_by c y) none_yet))
  expression c (e_sum_in x y) =
      node R_SUM_IN 0 refl
      (operand (binding_by c x) (plain (PLAIN ∷ []) refl (operand (binding_by c y) (plain (PLAIN ∷ []) refl none_yet))))

  -- A list of declarations that each begin one record.
  each : {A : Type 0} (f : A → List ℕ) (r : ℕ) → ((a : A) → begun_by k (f a) ≡ weight r) → (l : List A) → begun_by k (roles_all f l) ≡ length l * weight r
  unfolding roles_all begun_by
  each f r h [] = omega arith
  each f r h (a ∷ l) = omega (arith, begun_append (f a) (roles_all f l), h a, each f r h l)

  msig : (s : Msig) → begun_by k (roles_msig R_SIGNATURE s) ≡ weight R_SIGNATURE
  unfolding begun_by
  msig s = omega (arith, begun_more R_SIGNATURE (behind_name s), begun_plain (behind_name s) [] (msig_plain s))

  ids : (l : List Id) → begun_by k (roles_all roles_id l) ≡ length l * weight R_INTERFACE + length (joined msigs_of l) * weight R_SIGNATURE
  unfolding roles_all joined roles_id begun_by all_plain
  ids [] = omega arith
  ids (id_list i ms ∷ l) =
      let rs = roles_all (roles_msig R_SIGNATURE) ms in
      rw (length-append ms (joined msigs_of l))
      (omega (
        arith,
        begun_append (roles_id (id_list i ms)) (roles_all roles_id l),
        begun_more R_INTERFACE (R_DECLARED ∷ PLAIN ∷ (rs ++ (PLAIN ∷ []))),
        begun_plain (R_DECLARED ∷ PLAIN ∷ []) (rs ++ (PLAIN ∷ [])) refl,
        begun_append rs (PLAIN ∷ []),
        begun_plain (PLAIN ∷ []) [] refl,
        each (roles_msig R_SIGNATURE) R_SIGNATURE msig ms,
        ids l,
      ))
  ids (id_join i a b ∷ l) =
      let rs = R_DECLARED ∷ PLAIN ∷ R_TYPE ∷ PLAIN ∷ R_TYPE ∷ [] in
      omega (arith, begun_append (R_INTERFACE ∷ rs) (roles_all roles_id l), begun_more R_INTERFACE rs, begun_plain rs [] refl, ids l)

  fd : (f : Fd) → begun_by k (roles_fd f) ≡ weight R_FIELD
  unfolding begun_by all_plain
  fd f = let rs = PLAIN ∷ type_role f.holds ∷ [] in omega (arith, begun_more R_FIELD rs, begun_plain rs [] (rw (type_plain f.holds)))

  mds : (l : List Md) → begun_by k (roles_all roles_md l) ≡ length l * weight R_METHOD + sum_all (λ m. nodes_in m.body) l * weight R_NULL
  unfolding roles_all sum_all roles_md begun_by all_plain
  mds [] = omega arith
  mds (m ∷ l) =
      let rs = roles (some m.msig.parameter) m.body ++ (PLAIN ∷ []) in
      omega (
        arith,
        begun_append (roles_md m) (roles_all roles_md l),
        begun_more R_METHOD (roles_msig R_METHOD_NAME m.msig ++ (PLAIN ∷ rs)),
        begun_plain (roles_msig R_METHOD_NAME m.msig) (PLAIN ∷ rs) (msig_plain m.msig),
        begun_plain (PLAIN ∷ []) rs refl,
        (ended (expression (some m.msig.parameter) m.body)).begun,
        mds l,
      )

  cds :
      (l : List Cd)
      → begun_by k (roles_all roles_cd l)
      ≡ length l * weight R_CLASS
      + length (joined (λ c. c.fds) l) * weight R_FIELD
      + (length (joined (λ c. c.mds) l) * weight R_METHOD + sum_all (λ m. nodes_in m.body) (joined (λ c. c.mds) l) * weight R_NULL)
  unfolding roles_all joined sum_all roles_cd begun_by all_plain
  cds [] = omega arith
  cds (c ∷ l) =
      let fs = roles_all roles_fd c.fds in
      let ms = roles_all roles_md c.mds in
      rw (
        length-append c.fds (joined (λ x. x.fds) l),
        length-append c.mds (joined (λ x. x.mds) l),
        sum_append (λ m. nodes_in m.body) c.mds (joined (λ x. x.mds) l),
      )
      (omega (
        arith,
        begun_append (roles_cd c) (roles_all roles_cd l),
        begun_more R_CLASS (R_DECLARED ∷ PLAIN ∷ R_TYPE ∷ PLAIN ∷ (fs ++ (ms ++ (PLAIN ∷ [])))),
        begun_plain (R_DECLARED ∷ PLAIN ∷ R_TYPE ∷ PLAIN ∷ []) (fs ++ (ms ++ (PLAIN ∷ []))) refl,
        begun_append fs (ms ++ (PLAIN ∷ [])),
        begun_append ms (PLAIN ∷ []),
        begun_plain (PLAIN ∷ []) [] refl,
        each roles_fd R_FIELD fd c.fds,
        mds c.mds,
        cds l,
      ))

  -- The whole text: each section's records times what their first tokens add.
  text :
      (d : Derivation)
      → begun_by k (roles_text d)
      ≡ records_of interfaces d * weight R_INTERFACE
      + records_of signatures d * weight R_SIGNATURE
      + records_of classes d * weight R_CLASS
      + records_of fields d * weight R_FIELD
      + records_of methods d * weight R_METHOD
      + records_of nodes d * weight R_NULL
  unfolding roles_text roles_before
  text d =
      let is = roles_all roles_id d.ids in
      let cs = roles_all roles_cd d.cds in
      let e = roles none d.start in
      omega (arith, begun_append (is ++ cs) e, begun_append is cs, ids d.ids, cds d.cds, (expression none d.start).begun)

own_weight : (k : Section) (d : Derivation) → begun_by k (roles_text d) ≡ records_of k d
own_weight interfaces d = omega (arith, text interfaces d)
own_weight signatures d = omega (arith, text signatures d)
own_weight classes d = omega (arith, text classes d)
own_weight fields d = omega (arith, text fields d)
own_weight methods d = omega (arith, text methods d)
own_weight nodes d = omega (arith, text nodes d)

pub begun_records : (k : Section) (d : Derivation) → begun_in k (marked_text d) ≡ records_of k d
begun_records k d = begun_marked k (roles_text d) (spelled_text d) (text_spelled d) ∙ own_weight k d
