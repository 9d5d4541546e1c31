-- Each token of a derivation has one role.
use mathlib.Core.Path.{◌≡◌, refl}
use mathlib.Core.List.{List, [], ◌∷◌}
use mathlib.Core.Option.{none, some}
use Prim.Native.Nat.{ℕ}
use native.Mathlib.Omega.{arith}
use lib.ListN.{length, length-append}
use Rattle.grammar.specs.Tokens.{Lexeme}
use Rattle.grammar.specs.Grammar.{E, e_null, e_variable, e_select, e_update, e_call, e_let, e_new, e_cast, e_fork, e_lock, e_digits, e_minus, e_sum, e_sum_in}
use Rattle.grammar.specs.Grammar.{Msig, Id, id_list, id_join, Fd, Md, Cd, Derivation, spelled, spelled_msig, spelled_all, spelled_id, spelled_fd, spelled_md, spelled_cd, spelled_text}
use Rattle.grammar.specs.Roles.{R_SIGNATURE, Scope, under, roles, roles_msig, roles_all, roles_id, roles_fd, roles_md, roles_cd, roles_before, roles_text}

pub roles_spelled : (c : Scope) (e : E) → length (roles c e) ≡ length (spelled e)
unfolding roles spelled
roles_spelled c e_null = refl
roles_spelled c (e_variable x) = refl
roles_spelled c (e_select x f) = refl
roles_spelled c (e_update x f e) = rw (roles_spelled c e)
roles_spelled c (e_call x m e) = simp (length-append, roles_spelled c e)
roles_spelled c (e_let y e₁ e₂) = simp (length-append, roles_spelled c e₁, roles_spelled (under y c) e₂)
roles_spelled c (e_new t) = refl
roles_spelled c (e_cast t e) = rw (roles_spelled c e)
roles_spelled c (e_fork e₁ e₂ e₃) = simp (length-append, roles_spelled c e₁, roles_spelled c e₂, roles_spelled c e₃)
roles_spelled c (e_lock x e) = rw (roles_spelled c e)
roles_spelled c (e_digits d) = refl
roles_spelled c (e_minus d) = refl
roles_spelled c (e_sum x y) = refl
roles_spelled c (e_sum_in x y) = refl

pub all_spelled :
    {A : Type 0} (f : A → List ℕ) (g : A → List Lexeme)
    → ((a : A) → length (f a) ≡ length (g a))
    → (l : List A)
    → length (roles_all f l) ≡ length (spelled_all g l)
unfolding roles_all spelled_all
all_spelled f g h [] = refl
all_spelled f g h (a ∷ l) = simp (length-append, h a, all_spelled f g h l)

pub msig_spelled : (r : ℕ) (s : Msig) → length (roles_msig r s) ≡ length (spelled_msig s)
unfolding spelled_msig
msig_spelled r s = refl

pub id_spelled : (i : Id) → length (roles_id i) ≡ length (spelled_id i)
unfolding roles_id spelled_id
id_spelled (id_list i ms) = simp (length-append, all_spelled (roles_msig R_SIGNATURE) spelled_msig (msig_spelled R_SIGNATURE) ms)
id_spelled (id_join i a b) = refl

pub fd_spelled : (f : Fd) → length (roles_fd f) ≡ length (spelled_fd f)
unfolding spelled_fd
fd_spelled f = refl

pub md_spelled : (m : Md) → length (roles_md m) ≡ length (spelled_md m)
unfolding roles_md spelled_md spelled_msig
md_spelled m = simp (length-append, roles_spelled (some m.msig.parameter) m.body)

pub cd_spelled : (c : Cd) → length (roles_cd c) ≡ length (spelled_cd c)
unfolding roles_cd spelled_cd
cd_spelled c = simp (length-append, all_spelled roles_fd spelled_fd fd_spelled c.fds, all_spelled roles_md spelled_md md_spelled c.mds)

pub text_spelled : (d : Derivation) → length (roles_text d) ≡ length (spelled_text d)
unfolding roles_text roles_before spelled_text
text_spelled d =
    simp (length-append, all_spelled roles_id spelled_id id_spelled d.ids, all_spelled roles_cd spelled_cd cd_spelled d.cds, roles_spelled none d.start) (omega arith)
