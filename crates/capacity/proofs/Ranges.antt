-- The integers of a derivation in which no token is at fault are in range.
use mathlib.Core.Path.{◌≡◌}
use mathlib.Core.Bool.{false}
use mathlib.Core.List.{List, [], ◌∷◌, ◌++◌, append_assoc, append-nil}
use mathlib.Core.Option.{none, some}
use Prim.Native.Nat.{ℕ}
use lib.IntN.{pos}
use borrow.Author.Tests.{not-false}
use Rattle.words.proofs.Integers.{range_exactly}
use Rattle.script.specs.Lists.{Every}
use Rattle.script.specs.Section.{sections}
use Rattle.grammar.specs.Tokens.{Lexeme, fixed, decimal, W_IN, W_ASYNC, S_BRACE, S_UNBRACE, S_CLOSE, S_SEMICOLON}
use Rattle.grammar.specs.Grammar.{E, e_null, e_variable, e_select, e_update, e_call, e_let, e_new, e_cast, e_fork, e_lock, e_digits, e_minus, e_sum, e_sum_in}
use Rattle.grammar.specs.Grammar.{Msig, Id, id_list, id_join, Fd, Md, Cd, Derivation, spelled, spelled_msig, spelled_all, spelled_id, spelled_fd, spelled_md, spelled_cd, spelled_text}
use Rattle.grammar.specs.Roles.{PLAIN, R_SIGNATURE, Scope, under, roles, roles_msig, roles_all, roles_id, roles_fd, roles_md, roles_cd, roles_before, roles_text}
use Rattle.grammar.specs.Files.{negated, joined, mds_of}
use Rattle.grammar.specs.Faults.{Marked, marked_by, marked_text, too_many_test, outside_test, first_fault, limit_fault}
use Rattle.capacity.specs.Extent.{Ranged}
use Rattle.capacity.proofs.Faultless.{limit_test, or_neither, faultless}

-- No integer of a list is outside the range.
unfoldable Calm : List Marked → Type 0
Calm [] = Unit {0}
Calm (m ∷ l) = (outside_test m l ≡ false) × Calm l

-- What follows of something with these roles and tokens where no integer is outside, whatever stands behind it.
abbrev Leaves : List ℕ → List Lexeme → Type 0 → Type 0
Leaves qs us P = (rs : List ℕ) (ts : List Lexeme) → Calm (marked_by (qs ++ rs) (us ++ ts)) → P × Calm (marked_by rs ts)

expression : (c : Scope) (e : E) → Leaves (roles c e) (spelled e) (Ranged e)
unfolding roles spelled marked_by Calm Ranged
expression c e_null rs ts h = (tt, h.1)
expression c (e_variable x) rs ts h = (tt, h.1)
expression c (e_select x f) rs ts h = (tt, h.1.1.1)
expression c (e_update x f e) rs ts h = expression c e rs ts h.1.1.1.1
expression c (e_call x m e) rs ts h =
    let r = expression c e (PLAIN ∷ rs) (fixed S_CLOSE ∷ ts) (simp append_assoc at h.1.1.1.1) in
    (r.0, r.1.1)
expression c (e_let y e₁ e₂) rs ts h =
    let p = expression c e₁ (PLAIN ∷ (roles (under y c) e₂ ++ rs)) (fixed W_IN ∷ (spelled e₂ ++ ts)) (simp append_assoc at h.1.1.1) in
    let q = expression (under y c) e₂ rs ts p.1.1 in
    ((p.0, q.0), q.1)
expression c (e_new t) rs ts h = (tt, h.1.1)
expression c (e_cast t e) rs ts h = expression c e rs ts h.1.1.1
expression c (e_fork e₁ e₂ e₃) rs ts h =
    let rs₂ = PLAIN ∷ PLAIN ∷ PLAIN ∷ (roles c e₃ ++ rs) in
    let ts₂ = fixed S_UNBRACE ∷ fixed S_UNBRACE ∷ fixed S_SEMICOLON ∷ (spelled e₃ ++ ts) in
    let rs₁ = PLAIN ∷ PLAIN ∷ PLAIN ∷ (roles c e₂ ++ rs₂) in
    let ts₁ = fixed S_UNBRACE ∷ fixed W_ASYNC ∷ fixed S_BRACE ∷ (spelled e₂ ++ ts₂) in
    let p = expression c e₁ rs₁ ts₁ (simp append_assoc at h.1.1.1.1) in
    let q = expression c e₂ rs₂ ts₂ p.1.1.1.1 in
    let r = expression c e₃ rs ts q.1.1.1.1 in
    ((p.0, (q.0, r.0)), r.1)
expression c (e_lock x e) rs ts h = expression c e rs ts h.1.1.1.1.1
expression c (e_digits d) rs ts h = ((range_exactly (pos (decimal d))).0 (not-false _ (or_neither _ _ h.0).0), h.1)
expression c (e_minus d) rs ts h = ((range_exactly (negated (decimal d))).0 (not-false _ h.0), h.1.1)
expression c (e_sum x y) rs ts h = (tt, h.1.1.1)
expression c (e_sum_in x y) rs ts h = (tt, h.1.1.1.1.1)

all :
    {A : Type 0} (P : A → Type 0) (f : A → List ℕ) (g : A → List Lexeme)
    → ((a : A) → Leaves (f a) (g a) (P a))
    → (l : List A)
    → Leaves (roles_all f l) (spelled_all g l) (Every P l)
unfolding roles_all spelled_all
all P f g h [] rs ts c = (tt, c)
all P f g h (a ∷ l) rs ts c =
    let p = h a (roles_all f l ++ rs) (spelled_all g l ++ ts) (simp append_assoc at c) in
    let q = all P f g h l rs ts p.1 in
    ((p.0, q.0), q.1)

-- what has no integer
abbrev Anything : {A : Type 0} → A → Type 0
Anything a = Unit {0}

msig : (r : ℕ) (s : Msig) → Leaves (roles_msig r s) (spelled_msig s) (Unit {0})
unfolding spelled_msig marked_by Calm
msig r s rs ts h = (tt, h.1.1.1.1.1.1.1.1)

id : (i : Id) → Leaves (roles_id i) (spelled_id i) (Unit {0})
unfolding roles_id spelled_id marked_by Calm
id (id_list i ms) rs ts h =
    let p = all Anything (roles_msig R_SIGNATURE) spelled_msig (msig R_SIGNATURE) ms (PLAIN ∷ rs) (fixed S_UNBRACE ∷ ts) (simp append_assoc at h.1.1.1) in
    (tt, p.1.1)
id (id_join i a b) rs ts h = (tt, h.1.1.1.1.1.1)

fd : (f : Fd) → Leaves (roles_fd f) (spelled_fd f) (Unit {0})
unfolding spelled_fd marked_by Calm
fd f rs ts h = (tt, h.1.1.1)

md : (m : Md) → Leaves (roles_md m) (spelled_md m) (Ranged m.body)
unfolding roles_md spelled_md spelled_msig marked_by Calm
md m rs ts h =
    let c = some m.msig.parameter in
    let p = expression c m.body (PLAIN ∷ rs) (fixed S_UNBRACE ∷ ts) (simp append_assoc at h.1.1.1.1.1.1.1.1.1.1) in
    (p.0, p.1.1)

cd : (c : Cd) → Leaves (roles_cd c) (spelled_cd c) (Every (λ m. Ranged m.body) c.mds)
unfolding roles_cd spelled_cd marked_by Calm
cd c rs ts h =
    let rs₂ = PLAIN ∷ rs in
    let ts₂ = fixed S_UNBRACE ∷ ts in
    let rs₁ = roles_all roles_md c.mds ++ rs₂ in
    let ts₁ = spelled_all spelled_md c.mds ++ ts₂ in
    let p = all Anything roles_fd spelled_fd fd c.fds rs₁ ts₁ (simp append_assoc at h.1.1.1.1.1) in
    let q = all (λ m. Ranged m.body) roles_md spelled_md md c.mds rs₂ ts₂ p.1 in
    (q.0, q.1.1)

every_append : {A : Type 0} (P : A → Type 0) (l m : List A) → Every P l → Every P m → Every P (l ++ m)
every_append P [] m e f = f
every_append P (a ∷ l) m e f = (e.0, every_append P l m e.1 f)

every_joined : {A B : Type 0} (P : B → Type 0) (f : A → List B) (l : List A) → Every (λ a. Every P (f a)) l → Every P (joined f l)
unfolding joined
every_joined P f [] e = tt
every_joined P f (a ∷ l) e = every_append P (f a) (joined f l) e.0 (every_joined P f l e.1)

text : (d : Derivation) → Calm (marked_text d) → Ranged d.start × Every (λ m. Ranged m.body) (mds_of d)
unfolding roles_text roles_before spelled_text
text d h =
    let rs = roles none d.start in
    let ts = spelled d.start in
    let p = all Anything roles_id spelled_id id d.ids (roles_all roles_cd d.cds ++ rs) (spelled_all spelled_cd d.cds ++ ts) (simp append_assoc at h) in
    let q = all (λ c. Every (λ m. Ranged m.body) c.mds) roles_cd spelled_cd cd d.cds rs ts p.1 in
    let r = expression none d.start [] [] (rw (append-nil rs, append-nil ts) q.1) in
    (r.0, every_joined (λ m. Ranged m.body) (λ c. c.mds) d.cds q.0)

calm : (before ms : List Marked) → first_fault limit_test before ms ≡ none → Calm ms
unfolding Calm
calm before [] h = tt
calm before (m ∷ ms) h =
    let p = faultless limit_test before m ms h in
    ((or_neither (too_many_test sections before m) (outside_test m ms) p.0).1, calm (before ++ (m ∷ [])) ms p.1)

pub ranged : (d : Derivation) → limit_fault (marked_text d) ≡ none → Ranged d.start × Every (λ m. Ranged m.body) (mds_of d)
unfolding limit_fault
ranged d h = text d (calm [] (marked_text d) h)
