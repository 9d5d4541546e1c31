-- What the digits in a text say, where no integer is outside the range.
use Prim.Native.Nat.{ℕ, zero, suc, ◌≤◌}
use mathlib.Core.Path.{◌≡◌, refl}
use mathlib.Core.List.{List, [], ◌∷◌, ◌++◌, map}
use native.Mathlib.Omega.{arith}
use borrow.Author.Tests.{le-leb}
use lib.IntN.{pos}
use lib.ListN.{drop}
use Rattle.words.specs.Integer.{InRange}
use Rattle.script.specs.Lists.{Every}
use Rattle.grammar.specs.Tokens.{Lexeme, fixed, name_token, digits_token, decimal_from, decimal, Token, W_IN, W_ASYNC, S_BRACE, S_UNBRACE, S_CLOSE, S_SEMICOLON}
use Rattle.grammar.specs.Grammar.{X, x_this, x_name, T, t_unit, t_int, t_name, E, e_null, e_variable, e_select, e_update, e_call, e_let, e_new, e_cast}
use Rattle.grammar.specs.Grammar.{e_fork, e_lock, e_digits, e_minus, e_sum, e_sum_in, Msig, Id, id_list, id_join, Fd, Md, Cd, Derivation}
use Rattle.grammar.specs.Grammar.{variable_token, type_token, spelled, spelled_msig, spelled_all, spelled_id, spelled_fd, spelled_md, spelled_cd, spelled_text}
use Rattle.grammar.specs.Files.{negated, joined}
use Rattle.parsing.proofs.Written.{every_append}
use Rattle.tokens.specs.Runs.{digits_from, BEYOND, capped}
use Rattle.spelt.specs.Spelt.{digits_in, Spelt}
use Rattle.capacity.specs.Extent.{Ranged, WithinLimits}
use Rattle.rows.specs.Zipped.{amount_by}

-- A token whose digits say what an integer may.
abbrev pub Small : Lexeme → Type 0
Small l = decimal (digits_in l) ≤ BEYOND

-- A word, a sign and a name have no digits.
no_digits : decimal [] ≤ BEYOND
unfolding decimal_from
no_digits = omega arith

x_small : (x : X) → Small (variable_token x)
x_small x_this = no_digits
x_small (x_name y) = no_digits

t_small : (t : T) → Small (type_token t)
t_small t_unit = no_digits
t_small t_int = no_digits
t_small (t_name c) = no_digits

positive_small : (n : ℕ) → InRange (pos n) → n ≤ BEYOND
positive_small n h = omega (arith, h)

negative_small : (n : ℕ) → InRange (negated n) → n ≤ BEYOND
negative_small zero h = omega arith
negative_small (suc n) h = omega (arith, h)

expression_small : (e : E) → Ranged e → Every Small (spelled e)
unfolding Ranged spelled
expression_small e_null h = (no_digits, tt)
expression_small (e_variable x) h = (x_small x, tt)
expression_small (e_select x f) h = (x_small x, (no_digits, (no_digits, tt)))
expression_small (e_update x f e) h = (x_small x, (no_digits, (no_digits, (no_digits, expression_small e h))))
expression_small (e_call x m e) h = (
  x_small x,
  (
    no_digits,
    (no_digits, (no_digits, every_append Small (spelled e) (fixed S_CLOSE ∷ []) (expression_small e h) (no_digits, tt))),
  ),
)
expression_small (e_let y e₁ e₂) h = (
  no_digits,
  (
    no_digits,
    (no_digits, every_append Small (spelled e₁) (fixed W_IN ∷ spelled e₂) (expression_small e₁ h.0) (no_digits, expression_small e₂ h.1)),
  ),
)
expression_small (e_new t) h = (no_digits, (no_digits, tt))
expression_small (e_cast t e) h = (no_digits, (t_small t, (no_digits, expression_small e h)))
expression_small (e_fork e₁ e₂ e₃) h =
    let rest = fixed S_UNBRACE ∷ fixed S_UNBRACE ∷ fixed S_SEMICOLON ∷ spelled e₃ in (
      no_digits,
      (
        no_digits,
        (
          no_digits,
          (
            no_digits,
            every_append Small (spelled e₁) (fixed S_UNBRACE ∷ fixed W_ASYNC ∷ fixed S_BRACE ∷ (spelled e₂ ++ rest)) (expression_small e₁ h.0) (
              no_digits,
              (
                no_digits,
                (
                  no_digits,
                  every_append Small (spelled e₂) rest (expression_small e₂ h.1.0)
                      (no_digits, (no_digits, (no_digits, expression_small e₃ h.1.1))),
                ),
              ),
            ),
          ),
        ),
      ),
    )
expression_small (e_lock x e) h = (no_digits, (no_digits, (x_small x, (no_digits, (no_digits, expression_small e h)))))
expression_small (e_digits d) h = (positive_small (decimal d) h, tt)
expression_small (e_minus d) h = (no_digits, (negative_small (decimal d) h, tt))
expression_small (e_sum x y) h = (x_small x, (no_digits, (x_small y, tt)))
expression_small (e_sum_in x y) h = (no_digits, (x_small x, (no_digits, (x_small y, (no_digits, tt)))))

-- Declarations.
all_small : {A : Type 0} (f : A → List Lexeme) (P : A → Type 0) → ((a : A) → P a → Every Small (f a)) → (l : List A) → Every P l → Every Small (spelled_all f l)
unfolding spelled_all
all_small f P h [] p = tt
all_small f P h (a ∷ l) p = every_append Small (f a) (spelled_all f l) (h a p.0) (all_small f P h l p.1)

every_unit : {A : Type 0} (l : List A) → Every (λ a. Unit {0}) l
every_unit [] = tt
every_unit (a ∷ l) = (tt, every_unit l)

msig_small : (s : Msig) → Every Small (spelled_msig s)
unfolding spelled_msig
msig_small s = (
  no_digits,
  (
    no_digits,
    (
      no_digits,
      (no_digits, (t_small s.takes, (no_digits, (no_digits, (t_small s.gives, tt))))),
    ),
  ),
)

id_small : (i : Id) → Every Small (spelled_id i)
unfolding spelled_id
id_small (id_list i ms) = (
  no_digits,
  (
    no_digits,
    (
      no_digits,
      every_append Small (spelled_all spelled_msig ms) (fixed S_UNBRACE ∷ []) (all_small spelled_msig (λ a. Unit {0}) (λ s p. msig_small s) ms (every_unit ms)) (no_digits, tt),
    ),
  ),
)
id_small (id_join i a b) = (no_digits, (no_digits, (no_digits, (no_digits, (no_digits, (no_digits, tt))))))

fd_small : (f : Fd) → Every Small (spelled_fd f)
unfolding spelled_fd
fd_small f = (no_digits, (no_digits, (t_small f.holds, tt)))

md_small : (m : Md) → Ranged m.body → Every Small (spelled_md m)
unfolding spelled_md
md_small m h = (
  no_digits,
  every_append Small (spelled_msig m.msig) (fixed S_BRACE ∷ (spelled m.body ++ (fixed S_UNBRACE ∷ []))) (msig_small m.msig)
      (no_digits, every_append Small (spelled m.body) (fixed S_UNBRACE ∷ []) (expression_small m.body h) (no_digits, tt)),
)

cd_small : (c : Cd) → Every (λ m. Ranged m.body) c.mds → Every Small (spelled_cd c)
unfolding spelled_cd
cd_small c h = (
  no_digits,
  (
    no_digits,
    (
      no_digits,
      (
        no_digits,
        (
          no_digits,
          every_append Small (spelled_all spelled_fd c.fds) (spelled_all spelled_md c.mds ++ (fixed S_UNBRACE ∷ []))
              (all_small spelled_fd (λ a. Unit {0}) (λ f p. fd_small f) c.fds (every_unit c.fds))
              (every_append Small (spelled_all spelled_md c.mds) (fixed S_UNBRACE ∷ []) (all_small spelled_md (λ m. Ranged m.body) md_small c.mds h) (no_digits, tt)),
        ),
      ),
    ),
  ),
)

split_every : {A : Type 0} (P : A → Type 0) (a b : List A) → Every P (a ++ b) → Every P a × Every P b
split_every P [] b h = (tt, h)
split_every P (x ∷ a) b h = let q = split_every P a b h.1 in ((h.0, q.0), q.1)

classes_ranged : (l : List Cd) → Every (λ m. Ranged m.body) (joined (λ c. c.mds) l) → Every (λ c. Every (λ m. Ranged m.body) c.mds) l
unfolding joined
classes_ranged [] h = tt
classes_ranged (c ∷ l) h = let q = split_every (λ m. Ranged m.body) c.mds (joined (λ c. c.mds) l) h in (q.0, classes_ranged l q.1)

pub text_small : (d : Derivation) → WithinLimits d → Every Small (spelled_text d)
unfolding spelled_text
text_small d h =
    every_append Small (spelled_all spelled_id d.ids) (spelled_all spelled_cd d.cds ++ spelled d.start)
    (all_small spelled_id (λ i. Unit {0}) (λ i p. id_small i) d.ids (every_unit d.ids))
    (every_append Small (spelled_all spelled_cd d.cds) (spelled d.start)
    (all_small spelled_cd (λ c. Every (λ m. Ranged m.body) c.mds) cd_small d.cds (classes_ranged d.cds h.bodies_ranged))
    (expression_small d.start h.start_ranged))

-- So what is read at a token's offset is what the token says.
amount_of : (l : Lexeme) → amount_by l ≡ decimal (digits_in l)
unfolding decimal_from
amount_of (fixed k) = refl
amount_of (name_token y) = refl
amount_of (digits_token d) = refl

capped_small : (n : ℕ) → n ≤ BEYOND → capped n ≡ n
unfolding capped
capped_small n h = rw (le-leb n BEYOND h) refl

pub amounts_read :
    (text : List ℕ) (ts : List Token)
    → Every (Spelt text) ts
    → Every Small (map (λ t. t.lexeme) ts)
    → map amount_by (map (λ t. t.lexeme) ts) ≡ map (λ at. capped (decimal (digits_from (drop at text)))) (map (λ t. t.offset) ts)
amounts_read text [] s p = refl
amounts_read text (t ∷ ts) s p =
    rw (s.0.digits_there, capped_small (decimal (digits_in t.lexeme)) p.0, amount_of t.lexeme, amounts_read text ts s.1 p.1) refl
