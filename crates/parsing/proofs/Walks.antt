-- (B) The parser reads what a derivation is spelled as, and builds that derivation.
use Prim.Native.Nat.{ℕ}
use mathlib.Core.Path.{◌≡◌, refl, ap, ◌∙◌}
use mathlib.Core.Bool.{false}
use mathlib.Core.List.{List, [], ◌∷◌, ◌++◌, append_assoc, append-nil}
use Rattle.grammar.specs.Tokens.{Spelling, Lexeme, fixed, name_token, TEXT_END, W_INTERFACE, W_CLASS, W_IN, W_ASYNC, S_BRACE, S_UNBRACE, S_OPEN}
use Rattle.grammar.specs.Tokens.{S_CLOSE, S_COLON, S_DOT, S_EQUALS, S_SEMICOLON, S_PLUS}
use Rattle.grammar.specs.Grammar.{X, x_this, x_name, variable_token, T, t_unit, t_int, t_name, type_token, Msig, spelled_msig, spelled_all, Id, id_list}
use Rattle.grammar.specs.Grammar.{id_join, spelled_id, Fd, spelled_fd, Md, spelled_md, Cd, spelled_cd, Derivation, spelled_text, E, e_null, e_variable}
use Rattle.grammar.specs.Grammar.{e_select, e_update, e_call, e_let, e_new, e_cast, e_fork, e_lock, e_digits, e_minus, e_sum, e_sum_in, spelled}
use lib.Dec.{eqb}
use Rattle.grammar.specs.Parse.{at_dot, at_plus, Heading, Around, around_start, in_body, around_let, argument, first_async, second_async, in_update}
use Rattle.grammar.specs.Parse.{in_let, in_cast, in_fork, in_lock, Owner, of_interface, of_class, State, at_top, at_top_c, at_sigs, at_sig_open}
use Rattle.grammar.specs.Parse.{at_sig_close, at_fields, at_methods, at_def_name, at_expr, at_ended, at_variable, at_paren, at_plus_in, at_sum_close}
use Rattle.grammar.specs.Parse.{at_lock_close, types, variables, closes, ways, Shifted, stuck, goes, accepts, choose, shift, signed, field_added}
use Rattle.grammar.specs.Parse.{is_fixed, expression_ways, Way, on, at_iface_name, at_class_name}

-- Tokens shifted one after another.
abbrev pub after : Shifted → Lexeme → Shifted
after stuck t = stuck
after (goes s) t = shift s t
after (accepts p) t = accepts p

unfoldable pub run : Shifted → List Lexeme → Shifted
run o [] = o
run o (t ∷ ts) = run (after o t) ts

-- A way that is for another token is passed over.
passes : (k : ℕ) (s : State) (ws : List Way) (t : Lexeme) → is_fixed k t ≡ false → choose t (on k s ∷ ws) ≡ choose t ws
unfolding choose
passes k s ws t h = rw h

-- A token that may follow an expression: none that goes on with a variable or a member.
abbrev Follows : ℕ → Type 0
Follows k = (eqb k S_DOT ≡ false) × (eqb k S_PLUS ≡ false) × (eqb k S_EQUALS ≡ false) × (eqb k S_OPEN ≡ false)

-- x and t, wherever they stand.
type_chosen : (f : T → State) (t : T) → choose (type_token t) (types f) ≡ goes (f t)
unfolding choose
type_chosen f t_unit = refl
type_chosen f t_int = refl
type_chosen f (t_name c) = refl

variable_chosen : (f : X → State) (x : X) → choose (variable_token x) (variables f) ≡ goes (f x)
unfolding choose
variable_chosen f x_this = refl
variable_chosen f (x_name y) = refl

-- What begins with x.
from_variable : (x : X) (K : Around) (ts : List Lexeme) → run (goes (at_expr K)) (variable_token x ∷ ts) ≡ run (goes (at_variable x K)) ts
unfolding run choose
from_variable x_this K ts = refl
from_variable (x_name y) K ts = refl

-- What begins with a parenthesis.
to_cast : (t : T) (K : Around) (ts : List Lexeme) → run (goes (at_paren K)) (type_token t ∷ fixed S_CLOSE ∷ ts) ≡ run (goes (at_expr (in_cast t K))) ts
unfolding run choose
to_cast t_unit K ts = refl
to_cast t_int K ts = refl
to_cast (t_name c) K ts = refl

to_sum : (x : X) (K : Around) (ts : List Lexeme) → run (goes (at_paren K)) (variable_token x ∷ fixed S_PLUS ∷ ts) ≡ run (goes (at_plus_in x K)) ts
unfolding run choose
to_sum x_this K ts = refl
to_sum (x_name y) K ts = refl

walks :
    (e : E) (K : Around) (k : ℕ)
    → Follows k
    → (ts : List Lexeme)
    → run (goes (at_expr K)) (spelled e ++ (fixed k ∷ ts)) ≡ run (goes (at_ended e K)) (fixed k ∷ ts)
unfolding run choose spelled closes
walks e_null K k f ts = refl
walks (e_variable x) K k f ts =
    from_variable x K (fixed k ∷ ts)
    ∙ ap (λ o. run o ts) (
    passes S_DOT (at_dot x K) (on S_PLUS (at_plus x K) ∷ closes K (e_variable x)) (fixed k) f.0
    ∙ passes S_PLUS (at_plus x K) (closes K (e_variable x)) (fixed k) f.1
    )
walks (e_select x g) K k f ts =
    from_variable x K (fixed S_DOT ∷ name_token g ∷ fixed k ∷ ts)
    ∙ ap (λ o. run o ts) (
    passes S_EQUALS (at_expr (in_update x g K)) (on S_OPEN (at_expr (argument x g K)) ∷ closes K (e_select x g)) (fixed k) f.2
    ∙ passes S_OPEN (at_expr (argument x g K)) (closes K (e_select x g)) (fixed k) f.3
    )
walks (e_update x g e) K k f ts =
    from_variable x K (fixed S_DOT ∷ name_token g ∷ fixed S_EQUALS ∷ (spelled e ++ (fixed k ∷ ts))) ∙ walks e (in_update x g K) k f ts
walks (e_call x m e) K k f ts =
    from_variable x K (fixed S_DOT ∷ name_token m ∷ fixed S_OPEN ∷ ((spelled e ++ (fixed S_CLOSE ∷ [])) ++ (fixed k ∷ ts)))
    ∙ rw (append_assoc (spelled e) (fixed S_CLOSE ∷ []) (fixed k ∷ ts)) (walks e (argument x m K) S_CLOSE (refl, refl, refl, refl) (fixed k ∷ ts))
walks (e_let y e₁ e₂) K k f ts =
    rw (append_assoc (spelled e₁) (fixed W_IN ∷ spelled e₂) (fixed k ∷ ts))
    (walks e₁ (around_let y K) W_IN (refl, refl, refl, refl) (spelled e₂ ++ (fixed k ∷ ts)) ∙ walks e₂ (in_let y e₁ K) k f ts)
walks (e_new c) K k f ts = refl
walks (e_cast t e) K k f ts = to_cast t K (spelled e ++ (fixed k ∷ ts)) ∙ walks e (in_cast t K) k f ts
walks (e_fork e₁ e₂ e₃) K k f ts =
    rw (
      append_assoc (spelled e₁) (fixed S_UNBRACE ∷ fixed W_ASYNC ∷ fixed S_BRACE ∷ (spelled e₂ ++ (fixed S_UNBRACE ∷ fixed S_UNBRACE ∷ fixed S_SEMICOLON ∷ spelled e₃))) (fixed k ∷ ts),
      append_assoc (spelled e₂) (fixed S_UNBRACE ∷ fixed S_UNBRACE ∷ fixed S_SEMICOLON ∷ spelled e₃) (fixed k ∷ ts),
    )
    (walks e₁ (first_async K) S_UNBRACE (refl, refl, refl, refl) (fixed W_ASYNC ∷ fixed S_BRACE ∷ (spelled e₂ ++ (fixed S_UNBRACE ∷ fixed S_UNBRACE ∷ fixed S_SEMICOLON ∷ (spelled e₃ ++ (fixed k ∷ ts)))))
    ∙ walks e₂ (second_async e₁ K) S_UNBRACE (refl, refl, refl, refl) (fixed S_UNBRACE ∷ fixed S_SEMICOLON ∷ (spelled e₃ ++ (fixed k ∷ ts)))
    ∙ walks e₃ (in_fork e₁ e₂ K) k f ts)
walks (e_lock x e) K k f ts =
    ap (λ o. run o (fixed S_CLOSE ∷ fixed W_IN ∷ (spelled e ++ (fixed k ∷ ts)))) (variable_chosen (λ z. at_lock_close z K) x) ∙ walks e (in_lock x K) k f ts
walks (e_digits d) K k f ts = refl
walks (e_minus d) K k f ts = refl
walks (e_sum x y) K k f ts =
    from_variable x K (fixed S_PLUS ∷ variable_token y ∷ fixed k ∷ ts)
    ∙ ap (λ o. run o (fixed k ∷ ts)) (variable_chosen (λ z. at_ended (e_sum x z) K) y)
walks (e_sum_in x y) K k f ts =
    to_sum x K (variable_token y ∷ fixed S_CLOSE ∷ fixed k ∷ ts)
    ∙ ap (λ o. run o (fixed S_CLOSE ∷ fixed k ∷ ts)) (variable_chosen (λ z. at_sum_close x z K) y)

-- Zero or more of a kind: where one more leads from a list to the longer one, all lead there.
each :
    {A : Type 0} (f : A → List Lexeme) (at : List A → State)
    → ((l : List A) (a : A) (ts : List Lexeme) → run (goes (at l)) (f a ++ ts) ≡ run (goes (at (l ++ (a ∷ [])))) ts)
    → (l m : List A) (ts : List Lexeme)
    → run (goes (at l)) (spelled_all f m ++ ts) ≡ run (goes (at (l ++ m))) ts
unfolding spelled_all
each f at one l [] ts = rw (append-nil l)
each f at one l (a ∷ m) ts =
    rw (append_assoc (f a) (spelled_all f m) ts, one l a (spelled_all f m ++ ts), each f at one (l ++ (a ∷ [])) m ts, append_assoc l (a ∷ []) m)

-- A signature, from behind its name on.
signature_walks :
    (o : Owner) (s : Msig) (u : State) (ts : List Lexeme)
    → shift u (name_token s.method) ≡ goes (at_sig_open o s.method)
    → run (goes u) (spelled_msig s ++ ts) ≡ run (goes (signed o s)) ts
unfolding run choose spelled_msig
signature_walks o s u ts h =
    let m = s.method in
    let p = s.parameter in
    ap (λ a. run a (fixed S_OPEN ∷ name_token p ∷ fixed S_COLON ∷ type_token s.takes ∷ fixed S_CLOSE ∷ fixed S_COLON ∷ type_token s.gives ∷ ts)) h
    ∙ ap (λ a. run a (fixed S_CLOSE ∷ fixed S_COLON ∷ type_token s.gives ∷ ts)) (type_chosen (λ t. at_sig_close o m p t) s.takes)
    ∙ ap (λ a. run a ts) (type_chosen (λ t. signed o (record { method = m; parameter = p; takes = s.takes; gives = t })) s.gives)

signatures_walk :
    (ids : List Id) (i : Spelling) (l ms : List Msig) (ts : List Lexeme)
    → run (goes (at_sigs ids i l)) (spelled_all spelled_msig ms ++ ts) ≡ run (goes (at_sigs ids i (l ++ ms))) ts
unfolding choose
signatures_walk ids i l ms ts = each spelled_msig (λ k. at_sigs ids i k) (λ k s us. signature_walks (of_interface ids i k) s (at_sigs ids i k) us refl) l ms ts

interface_walks : (ids : List Id) (i : Id) (ts : List Lexeme) → run (goes (at_top ids)) (spelled_id i ++ ts) ≡ run (goes (at_top (ids ++ (i ∷ [])))) ts
unfolding run choose spelled_id
interface_walks ids (id_list i ms) ts =
    rw (append_assoc (spelled_all spelled_msig ms) (fixed S_UNBRACE ∷ []) ts) (signatures_walk ids i [] ms (fixed S_UNBRACE ∷ ts))
interface_walks ids (id_join i a b) ts = refl

-- The heading of a class with so many fields.
abbrev headed : List Id → List Cd → Spelling → Spelling → List Fd → Heading
headed ids cds c i fds = record { ids = ids; cds = cds; class = c; implements = i; fds = fds }

field_walks : (h : Heading) (f : Fd) (ts : List Lexeme) → run (goes (at_fields h)) (spelled_fd f ++ ts) ≡ run (goes (at_fields (field_added h f))) ts
unfolding run choose spelled_fd
field_walks h f ts = ap (λ a. run a ts) (type_chosen (λ t. at_fields (field_added h (record { field = f.field; holds = t }))) f.holds)

method_walks : (h : Heading) (l : List Md) (m : Md) (ts : List Lexeme) → run (goes (at_methods h l)) (spelled_md m ++ ts) ≡ run (goes (at_methods h (l ++ (m ∷ [])))) ts
unfolding run choose spelled_md closes
method_walks h l m ts =
    rw (
      append_assoc (spelled_msig m.msig) (fixed S_BRACE ∷ (spelled m.body ++ (fixed S_UNBRACE ∷ []))) ts,
      append_assoc (spelled m.body) (fixed S_UNBRACE ∷ []) ts,
    )
    (signature_walks (of_class h l) m.msig (at_def_name h l) (fixed S_BRACE ∷ (spelled m.body ++ (fixed S_UNBRACE ∷ ts))) refl
    ∙ walks m.body (in_body h l m.msig) S_UNBRACE (refl, refl, refl, refl) ts)

-- The first method, or the end of a class without one, comes behind the fields.
first_method : (h : Heading) (ms : List Md) (ts : List Lexeme)
    → run (goes (at_fields h)) (spelled_all spelled_md ms ++ (fixed S_UNBRACE ∷ ts)) ≡ run (goes (at_methods h [])) (spelled_all spelled_md ms ++ (fixed S_UNBRACE ∷ ts))
unfolding run choose spelled_all spelled_md
first_method h [] ts = refl
first_method h (m ∷ ms) ts = refl

class_walks : (ids : List Id) (l : List Cd) (c : Cd) (ts : List Lexeme) → run (goes (at_top_c ids l)) (spelled_cd c ++ ts) ≡ run (goes (at_top_c ids (l ++ (c ∷ [])))) ts
unfolding run choose spelled_cd
class_walks ids l c ts =
    let at : List Fd → Heading = headed ids l c.class c.implements in
    rw (
      append_assoc (spelled_all spelled_fd c.fds) (spelled_all spelled_md c.mds ++ (fixed S_UNBRACE ∷ [])) ts,
      append_assoc (spelled_all spelled_md c.mds) (fixed S_UNBRACE ∷ []) ts,
    )
    (each spelled_fd (λ k. at_fields (at k)) (λ k f us. field_walks (at k) f us) [] c.fds (spelled_all spelled_md c.mds ++ (fixed S_UNBRACE ∷ ts))
    ∙ first_method (at c.fds) c.mds ts
    ∙ each spelled_md (λ k. at_methods (at c.fds) k) (method_walks (at c.fds)) [] c.mds (fixed S_UNBRACE ∷ ts))

-- The start: no expression begins as a declaration does.
abbrev NoDeclaration : Lexeme → Type 0
NoDeclaration t = (is_fixed W_INTERFACE t ≡ false) × (is_fixed W_CLASS t ≡ false)

abbrev Headed : List Lexeme → Type 0
Headed [] = ⊥
Headed (t ∷ ts) = NoDeclaration t

variable : (x : X) → NoDeclaration (variable_token x)
variable x_this = (refl, refl)
variable (x_name y) = (refl, refl)

expression : (e : E) → Headed (spelled e)
unfolding spelled
expression e_null = (refl, refl)
expression (e_variable x) = variable x
expression (e_select x f) = variable x
expression (e_update x f e) = variable x
expression (e_call x m e) = variable x
expression (e_let y e₁ e₂) = (refl, refl)
expression (e_new c) = (refl, refl)
expression (e_cast t e) = (refl, refl)
expression (e_fork e₁ e₂ e₃) = (refl, refl)
expression (e_lock x e) = (refl, refl)
expression (e_digits d) = (refl, refl)
expression (e_minus d) = (refl, refl)
expression (e_sum x y) = variable x
expression (e_sum_in x y) = (refl, refl)

class_passes : (ids : List Id) (cds : List Cd) (t : Lexeme) → NoDeclaration t → shift (at_top_c ids cds) t ≡ shift (at_expr (around_start ids cds)) t
class_passes ids cds t h = passes W_CLASS (at_class_name ids cds) (expression_ways (around_start ids cds)) t h.1

top_passes : (ids : List Id) (t : Lexeme) → NoDeclaration t → shift (at_top ids) t ≡ shift (at_expr (around_start ids [])) t
top_passes ids t h = passes W_INTERFACE (at_iface_name ids) (ways (at_top_c ids [])) t h.0 ∙ class_passes ids [] t h

begins_at :
    (s : State) (K : Around)
    → ((t : Lexeme) → NoDeclaration t → shift s t ≡ shift (at_expr K) t)
    → (w ts : List Lexeme)
    → Headed w
    → run (goes s) (w ++ ts) ≡ run (goes (at_expr K)) (w ++ ts)
unfolding run
begins_at s K f [] ts h = absurd h
begins_at s K f (t ∷ w) ts h = ap (λ o. run o (w ++ ts)) (f t h)

start_walks :
    (ids : List Id) (cds : List Cd) (e : E) (ts : List Lexeme)
    → run (goes (at_top ids)) (spelled_all spelled_cd cds ++ (spelled e ++ ts)) ≡ run (goes (at_expr (around_start ids cds))) (spelled e ++ ts)
unfolding run choose spelled_all spelled_cd
start_walks ids [] e ts = begins_at (at_top ids) (around_start ids []) (top_passes ids) (spelled e) ts (expression e)
start_walks ids (c ∷ cds) e ts =
    each spelled_cd (λ k. at_top_c ids k) (class_walks ids) [] (c ∷ cds) (spelled e ++ ts)
    ∙ begins_at (at_top_c ids (c ∷ cds)) (around_start ids (c ∷ cds)) (class_passes ids (c ∷ cds)) (spelled e) ts (expression e)

-- A text that is derived is read as that derivation.
pub reads : (d : Derivation) → run (goes (at_top [])) (spelled_text d ++ (fixed TEXT_END ∷ [])) ≡ accepts d
unfolding run choose spelled_text closes
reads d =
    let texts = fixed TEXT_END ∷ [] in
    rw (
      append_assoc (spelled_all spelled_id d.ids) (spelled_all spelled_cd d.cds ++ spelled d.start) texts,
      append_assoc (spelled_all spelled_cd d.cds) (spelled d.start) texts,
    )
    (each spelled_id (λ k. at_top k) interface_walks [] d.ids (spelled_all spelled_cd d.cds ++ (spelled d.start ++ texts))
    ∙ start_walks d.ids d.cds d.start texts
    ∙ walks d.start (around_start d.ids d.cds) TEXT_END (refl, refl, refl, refl) [])
