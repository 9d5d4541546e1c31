-- The roles of a derivation fit its tokens.
use Prim.Native.Nat.{ℕ, ◌+◌, ◌*◌, ◌/◌, ◌<◌, ◌≤◌}
use mathlib.Core.Path.{◌≡◌, refl}
use mathlib.Core.Bool.{Bool, true, false, not, ◌||◌}
use mathlib.Core.List.{List, [], ◌∷◌, ◌++◌, append_assoc}
use mathlib.Core.Option.{none, some}
use native.Mathlib.Omega.{arith}
use lib.Dec.{eqb}
use lib.ListN.{length}
use borrow.Author.Tests.{ne_eqb}
use Rattle.grammar.specs.Tokens.{Lexeme, fixed, name_token, digits_token, W_IN, W_ASYNC, S_BRACE, S_UNBRACE, S_OPEN, S_CLOSE, S_DOT, S_COLON, S_EQUALS, S_SEMICOLON, S_PLUS}
use Rattle.grammar.specs.Grammar.{X, x_this, x_name, T, t_unit, t_int, t_name, E, e_null, e_variable, e_select, e_update, e_call, e_let, e_new, e_cast}
use Rattle.grammar.specs.Grammar.{e_fork, e_lock, e_digits, e_minus, e_sum, e_sum_in, Msig, Id, id_list, id_join, Fd, Md, Cd, Derivation}
use Rattle.grammar.specs.Grammar.{variable_token, type_token, spelled, spelled_msig, spelled_all, spelled_id, spelled_fd, spelled_md, spelled_cd, spelled_text}
use Rattle.grammar.specs.Roles.{PLAIN, R_SIGNATURE, R_METHOD_NAME, R_FIELD_USED, R_METHOD_USED, R_OPERAND, R_VARIABLE, R_SELECT, R_UPDATE, R_CALL, R_INTEGER, R_SUM, R_NEGATIVE, BINDING, Scope, under, binding_by, bound, type_role}
use Rattle.grammar.specs.Roles.{roles, roles_msig, roles_all, roles_id, roles_fd, roles_md, roles_cd, roles_before, roles_text}
use Rattle.capacity.proofs.Roles.{roles_spelled, all_spelled, msig_spelled, id_spelled, fd_spelled, md_spelled, cd_spelled}
use Rattle.spelt.specs.RoleFits.{named_role, fit_test, digits_head, RoleFits}

-- Behind one another. Nothing looks past the end: digits come behind a minus in the same list.
fits_append : (a : List ℕ) (b : List Lexeme) (c : List ℕ) (d : List Lexeme) → length a ≡ length b → RoleFits a b → RoleFits c d → RoleFits (a ++ c) (b ++ d)
unfolding RoleFits
fits_append [] [] c d e h g = g
fits_append [] (l ∷ b) c d e h g = absurd (omega (arith, e))
fits_append (r ∷ a) [] c d e h g = absurd (omega (arith, e))
fits_append (r ∷ a) (l ∷ b) c d e h g = (h.0, (still (eqb r R_NEGATIVE) b h.1.0, fits_append a b c d (omega (arith, e)) h.1.1 g))
  where
    still : (q : Bool) (b : List Lexeme) → not q || digits_head b ≡ true → not q || digits_head (b ++ d) ≡ true
    still true [] e = absurd (let z : ◌≡◌ {A = ℕ} 0 1 = cc in omega arith)
    still true (fixed k ∷ b) e = e
    still true (name_token y ∷ b) e = e
    still true (digits_token w ∷ b) e = e
    still false b e = refl

-- A role that a variable may have.
record OfVariable (r : ℕ) : Type 0 where
  least : R_OPERAND ≤ r
  most : r < BINDING
  no_integer : r ≡ R_INTEGER → ⊥
  no_minus : r ≡ R_NEGATIVE → ⊥

variable_fits : (r : ℕ) (c : Scope) (x : X) → OfVariable r → fit_test (bound r c x) (variable_token x) ≡ true
unfolding fit_test named_role
variable_fits r c x_this h =
    rw (
      ne_eqb (r + BINDING * 0) 4 (λ e. omega (arith, e, h.least)),
      ne_eqb (r + BINDING * 0) 10 (λ e. omega (arith, e, h.least)),
      ne_eqb (r + BINDING * 0) 13 (λ e. omega (arith, e, h.least)),
      ne_eqb (r + BINDING * 0) 5 (λ e. omega (arith, e, h.least)),
      ne_eqb (r + BINDING * 0) 12 (λ e. omega (arith, e, h.least)),
      ne_eqb (r + BINDING * 0) 11 (λ e. omega (arith, e, h.least)),
      ne_eqb (r + BINDING * 0) 6 (λ e. omega (arith, e, h.least)),
      ne_eqb (r + BINDING * 0) 7 (λ e. omega (arith, e, h.least)),
      ne_eqb ((r + BINDING * 0) / BINDING) 2 (λ e. omega (arith, e, h.most)),
      ne_eqb (r + BINDING * 0) 26 (λ e. h.no_integer (omega (arith, e))),
    )
    refl
variable_fits r c (x_name y) h =
    rw (ne_eqb (r + BINDING * binding_by c (x_name y)) 26 (λ e. h.no_integer (omega (arith, e, h.most)))) refl

no_minus_here : (r b : ℕ) (ls : List Lexeme) → OfVariable r → not (eqb (r + BINDING * b) R_NEGATIVE) || digits_head ls ≡ true
no_minus_here r b ls h = rw (ne_eqb (r + BINDING * b) R_NEGATIVE (λ e. h.no_minus (omega (arith, e, h.most)))) refl

of_variable : (r : ℕ) → R_OPERAND ≤ r → r < BINDING → (r ≡ R_INTEGER → ⊥) → (r ≡ R_NEGATIVE → ⊥) → OfVariable r
of_variable r h g e f = record { least = h; most = g; no_integer = e; no_minus = f }

-- A variable, and what comes behind it.
x_fits : (r : ℕ) (c : Scope) (x : X) (rs : List ℕ) (ls : List Lexeme) → OfVariable r → RoleFits rs ls → RoleFits (bound r c x ∷ rs) (variable_token x ∷ ls)
unfolding RoleFits
x_fits r c x rs ls h g = (variable_fits r c x h, (no_minus_here r (binding_by c x) ls h, g))

operand : OfVariable R_OPERAND
operand = of_variable R_OPERAND (omega arith) (omega arith) (λ e. omega (arith, e)) (λ e. omega (arith, e))

t_fits : (t : T) (rs : List ℕ) (ls : List Lexeme) → RoleFits rs ls → RoleFits (type_role t ∷ rs) (type_token t ∷ ls)
unfolding RoleFits fit_test named_role
t_fits t_unit rs ls h = (refl, (refl, h))
t_fits t_int rs ls h = (refl, (refl, h))
t_fits (t_name c) rs ls h = (refl, (refl, h))

expression_fits : (c : Scope) (e : E) → RoleFits (roles c e) (spelled e)
unfolding RoleFits roles spelled fit_test named_role
expression_fits c e_null = (refl, (refl, tt))
expression_fits c (e_variable x) = x_fits R_VARIABLE c x [] [] (of_variable R_VARIABLE (omega arith) (omega arith) (λ e. omega (arith, e)) (λ e. omega (arith, e))) tt
expression_fits c (e_select x f) =
    x_fits R_SELECT c x (PLAIN ∷ R_FIELD_USED ∷ []) (fixed S_DOT ∷ name_token f ∷ [])
    (of_variable R_SELECT (omega arith) (omega arith) (λ e. omega (arith, e)) (λ e. omega (arith, e)))
    (refl, (refl, (refl, (refl, tt))))
expression_fits c (e_update x f e) =
    x_fits R_UPDATE c x (PLAIN ∷ R_FIELD_USED ∷ PLAIN ∷ roles c e) (fixed S_DOT ∷ name_token f ∷ fixed S_EQUALS ∷ spelled e)
    (of_variable R_UPDATE (omega arith) (omega arith) (λ e. omega (arith, e)) (λ e. omega (arith, e)))
    (refl, (refl, (refl, (refl, (refl, (refl, expression_fits c e))))))
expression_fits c (e_call x m e) =
    x_fits R_CALL c x (PLAIN ∷ R_METHOD_USED ∷ PLAIN ∷ (roles c e ++ (PLAIN ∷ []))) (fixed S_DOT ∷ name_token m ∷ fixed S_OPEN ∷ (spelled e ++ (fixed S_CLOSE ∷ [])))
    (of_variable R_CALL (omega arith) (omega arith) (λ e. omega (arith, e)) (λ e. omega (arith, e))) (
      refl,
      (
        refl,
        (
          refl,
          (
            refl,
            (
              refl,
              (refl, fits_append (roles c e) (spelled e) (PLAIN ∷ []) (fixed S_CLOSE ∷ []) (roles_spelled c e) (expression_fits c e) (refl, (refl, tt))),
            ),
          ),
        ),
      ),
    )
expression_fits c (e_let y e₁ e₂) = (
  refl,
  (
    refl,
    (
      refl,
      (
        refl,
        (
          refl,
          (
            refl,
            fits_append (roles c e₁) (spelled e₁) (PLAIN ∷ roles (under y c) e₂) (fixed W_IN ∷ spelled e₂) (roles_spelled c e₁) (expression_fits c e₁)
                (refl, (refl, expression_fits (under y c) e₂)),
          ),
        ),
      ),
    ),
  ),
)
expression_fits c (e_new t) = (refl, (refl, (refl, (refl, tt))))
expression_fits c (e_cast t e) =
    (refl, (refl, t_fits t (PLAIN ∷ roles c e) (fixed S_CLOSE ∷ spelled e) (refl, (refl, expression_fits c e))))
expression_fits c (e_fork e₁ e₂ e₃) =
    let rs = PLAIN ∷ PLAIN ∷ PLAIN ∷ roles c e₃ in
    let ls = fixed S_UNBRACE ∷ fixed S_UNBRACE ∷ fixed S_SEMICOLON ∷ spelled e₃ in (
      refl,
      (
        refl,
        (
          refl,
          (
            refl,
            (
              refl,
              (
                refl,
                (
                  refl,
                  (
                    refl,
                    fits_append (roles c e₁) (spelled e₁) (PLAIN ∷ PLAIN ∷ PLAIN ∷ (roles c e₂ ++ rs)) (fixed S_UNBRACE ∷ fixed W_ASYNC ∷ fixed S_BRACE ∷ (spelled e₂ ++ ls)) (roles_spelled c e₁)
                        (expression_fits c e₁) (
                          refl,
                          (
                            refl,
                            (
                              refl,
                              (
                                refl,
                                (
                                  refl,
                                  (
                                    refl,
                                    fits_append (roles c e₂) (spelled e₂) rs ls (roles_spelled c e₂) (expression_fits c e₂)
                                        (refl, (refl, (refl, (refl, (refl, (refl, expression_fits c e₃)))))),
                                  ),
                                ),
                              ),
                            ),
                          ),
                        ),
                  ),
                ),
              ),
            ),
          ),
        ),
      ),
    )
expression_fits c (e_lock x e) = (
  refl,
  (
    refl,
    (
      refl,
      (
        refl,
        x_fits R_OPERAND c x (PLAIN ∷ PLAIN ∷ roles c e) (fixed S_CLOSE ∷ fixed W_IN ∷ spelled e) operand (refl, (refl, (refl, (refl, expression_fits c e)))),
      ),
    ),
  ),
)
expression_fits c (e_digits d) = (refl, (refl, tt))
expression_fits c (e_minus d) = (refl, (refl, (refl, (refl, tt))))
expression_fits c (e_sum x y) =
    x_fits R_SUM c x (PLAIN ∷ bound R_OPERAND c y ∷ []) (fixed S_PLUS ∷ variable_token y ∷ [])
    (of_variable R_SUM (omega arith) (omega arith) (λ e. omega (arith, e)) (λ e. omega (arith, e)))
    (refl, (refl, x_fits R_OPERAND c y [] [] operand tt))
expression_fits c (e_sum_in x y) = (
  refl,
  (
    refl,
    x_fits R_OPERAND c x (PLAIN ∷ bound R_OPERAND c y ∷ PLAIN ∷ []) (fixed S_PLUS ∷ variable_token y ∷ fixed S_CLOSE ∷ []) operand
        (refl, (refl, x_fits R_OPERAND c y (PLAIN ∷ []) (fixed S_CLOSE ∷ []) operand (refl, (refl, tt)))),
  ),
)

-- Declarations.
msig_fits : (r : ℕ) (s : Msig) → fit_test r (name_token s.method) ≡ true → eqb r R_NEGATIVE ≡ false → RoleFits (roles_msig r s) (spelled_msig s)
unfolding RoleFits spelled_msig fit_test named_role
msig_fits r s h e = (
  h,
  (
    rw e refl,
    (
      refl,
      (
        refl,
        (
          refl,
          (
            refl,
            (
              refl,
              (
                refl,
                t_fits s.takes (PLAIN ∷ PLAIN ∷ type_role s.gives ∷ []) (fixed S_CLOSE ∷ fixed S_COLON ∷ type_token s.gives ∷ [])
                    (refl, (refl, (refl, (refl, t_fits s.gives [] [] tt)))),
              ),
            ),
          ),
        ),
      ),
    ),
  ),
)

all_fits :
    {A : Type 0} (f : A → List ℕ) (g : A → List Lexeme)
    → ((a : A) → length (f a) ≡ length (g a))
    → ((a : A) → RoleFits (f a) (g a))
    → (l : List A)
    → RoleFits (roles_all f l) (spelled_all g l)
unfolding RoleFits roles_all spelled_all
all_fits f g p q [] = tt
all_fits f g p q (a ∷ l) = fits_append (f a) (g a) (roles_all f l) (spelled_all g l) (p a) (q a) (all_fits f g p q l)

id_fits : (i : Id) → RoleFits (roles_id i) (spelled_id i)
unfolding RoleFits roles_id spelled_id fit_test named_role
id_fits (id_list i ms) = (
  refl,
  (
    refl,
    (
      refl,
      (
        refl,
        (
          refl,
          (
            refl,
            fits_append (roles_all (roles_msig R_SIGNATURE) ms) (spelled_all spelled_msig ms) (PLAIN ∷ []) (fixed S_UNBRACE ∷ [])
                (all_spelled (roles_msig R_SIGNATURE) spelled_msig (msig_spelled R_SIGNATURE) ms)
                (all_fits (roles_msig R_SIGNATURE) spelled_msig (msig_spelled R_SIGNATURE) (λ s. msig_fits R_SIGNATURE s refl refl) ms)
                (refl, (refl, tt)),
          ),
        ),
      ),
    ),
  ),
)
id_fits (id_join i a b) = (refl, (refl, (refl, (refl, (refl, (refl, (refl, (refl, (refl, (refl, (refl, (refl, tt))))))))))))

fd_fits : (f : Fd) → RoleFits (roles_fd f) (spelled_fd f)
unfolding RoleFits spelled_fd fit_test named_role
fd_fits f = (refl, (refl, (refl, (refl, t_fits f.holds [] [] tt))))

md_fits : (m : Md) → RoleFits (roles_md m) (spelled_md m)
unfolding RoleFits roles_md spelled_md fit_test named_role
md_fits m =
    let c = some m.msig.parameter in (
      refl,
      (
        refl,
        fits_append (roles_msig R_METHOD_NAME m.msig) (spelled_msig m.msig) (PLAIN ∷ (roles c m.body ++ (PLAIN ∷ [])))
            (fixed S_BRACE ∷ (spelled m.body ++ (fixed S_UNBRACE ∷ []))) (msig_spelled R_METHOD_NAME m.msig)
            (msig_fits R_METHOD_NAME m.msig refl refl) (
              refl,
              (
                refl,
                fits_append (roles c m.body) (spelled m.body) (PLAIN ∷ []) (fixed S_UNBRACE ∷ []) (roles_spelled c m.body) (expression_fits c m.body)
                    (refl, (refl, tt)),
              ),
            ),
      ),
    )

cd_fits : (c : Cd) → RoleFits (roles_cd c) (spelled_cd c)
unfolding RoleFits roles_cd spelled_cd fit_test named_role
cd_fits c = (
  refl,
  (
    refl,
    (
      refl,
      (
        refl,
        (
          refl,
          (
            refl,
            (
              refl,
              (
                refl,
                (
                  refl,
                  (
                    refl,
                    fits_append (roles_all roles_fd c.fds) (spelled_all spelled_fd c.fds) (roles_all roles_md c.mds ++ (PLAIN ∷ []))
                        (spelled_all spelled_md c.mds ++ (fixed S_UNBRACE ∷ [])) (all_spelled roles_fd spelled_fd fd_spelled c.fds)
                        (all_fits roles_fd spelled_fd fd_spelled fd_fits c.fds)
                        (fits_append (roles_all roles_md c.mds) (spelled_all spelled_md c.mds) (PLAIN ∷ []) (fixed S_UNBRACE ∷ []) (all_spelled roles_md spelled_md md_spelled c.mds)
                        (all_fits roles_md spelled_md md_spelled md_fits c.mds)
                        (refl, (refl, tt))),
                  ),
                ),
              ),
            ),
          ),
        ),
      ),
    ),
  ),
)

pub text_fits : (d : Derivation) → RoleFits (roles_text d) (spelled_text d)
unfolding roles_text roles_before spelled_text
text_fits d =
    let cds = spelled_all spelled_cd d.cds in
    rw (append_assoc (roles_all roles_id d.ids) (roles_all roles_cd d.cds) (roles none d.start))
    (fits_append (roles_all roles_id d.ids) (spelled_all spelled_id d.ids) (roles_all roles_cd d.cds ++ roles none d.start) (cds ++ spelled d.start)
    (all_spelled roles_id spelled_id id_spelled d.ids)
    (all_fits roles_id spelled_id id_spelled id_fits d.ids)
    (fits_append (roles_all roles_cd d.cds) cds (roles none d.start) (spelled d.start) (all_spelled roles_cd spelled_cd cd_spelled d.cds)
    (all_fits roles_cd spelled_cd cd_spelled cd_fits d.cds)
    (expression_fits none d.start)))
