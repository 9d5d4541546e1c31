-- The parser as a definition, one token at a time. docs/GRAMMAR.md says what is legal; this computes it, and the theorems in proofs/ say that it does.
-- A state is a point in the text together with what has been read, so that nothing else need be kept.
use Rattle.std.specs.Prelude.{ℕ, ◌+◌, Bool, true, false, List, [], ◌∷◌, ◌++◌, eqb}
use Rattle.grammar.specs.Tokens.{Spelling, Lexeme, fixed, name_token, digits_token, TEXT_END, W_INTERFACE, W_EXTENDS, W_CLASS, W_IMPLEMENTS, W_DEF}
use Rattle.grammar.specs.Tokens.{W_LET, W_IN, W_NEW, W_FINISH, W_ASYNC, W_LOCK, W_NULL, W_UNIT, W_INT, W_THIS, S_BRACE, S_UNBRACE, S_OPEN, S_CLOSE}
use Rattle.grammar.specs.Tokens.{S_COLON, S_COMMA, S_DOT, S_EQUALS, S_SEMICOLON, S_PLUS, S_MINUS}
use Rattle.grammar.specs.Grammar.{X, x_this, x_name, T, t_unit, t_int, t_name, Msig, Id, id_list, id_join, Fd, Md, Cd, Derivation, E, e_null}
use Rattle.grammar.specs.Grammar.{e_variable, e_select, e_update, e_call, e_let, e_new, e_cast, e_fork, e_lock, e_digits, e_minus, e_sum, e_sum_in}

-- The class being read, up to its fields, and all that stands before it.
pub record Heading : Type 0 where
  pub ids : List Id
  pub cds : List Cd
  pub class : Spelling
  pub implements : Spelling
  pub fds : List Fd

-- What is around the expression being read, innermost first. Two are outermost: the start, and a method's body.
pub data Around : Type 0 where
  around_start : List Id → List Cd → Around
  in_body : Heading → List Md → Msig → Around
  -- These wait for a closer: the first part of a let, an argument, the two asyncs of a fork.
  around_let : Spelling → Around → Around
  argument : X → Spelling → Around → Around
  first_async : Around → Around
  second_async : E → Around → Around
  -- Of these the expression is the last part, and they are done when it is.
  in_update : X → Spelling → Around → Around
  in_let : Spelling → E → Around → Around
  in_cast : T → Around → Around
  in_fork : E → E → Around → Around
  in_lock : X → Around → Around

-- What a signature belongs to: the interface being read, or a `def` of the class being read.
pub data Owner : Type 0 where
  of_interface : List Id → Spelling → List Msig → Owner
  of_class : Heading → List Md → Owner

-- What is expected next, with what has been read.
pub data State : Type 0 where
  -- An interface, a class or the start; after a class no interface.
  at_top : List Id → State
  at_top_c : List Id → List Cd → State
  -- interface T { Msigs } | interface T extends T , T
  at_iface_name : List Id → State
  at_iface_body : List Id → Spelling → State
  at_sigs : List Id → Spelling → List Msig → State
  at_ext_1 : List Id → Spelling → State
  at_ext_comma at_ext_2 : List Id → Spelling → Spelling → State
  -- m ( p : t ) : t
  at_sig_open at_sig_param : Owner → Spelling → State
  at_sig_colon at_sig_type : Owner → Spelling → Spelling → State
  at_sig_close at_sig_colon2 at_sig_result : Owner → Spelling → Spelling → T → State
  -- class T implements T { Fds Mds }
  at_class_name : List Id → List Cd → State
  at_class_impl at_class_type : List Id → List Cd → Spelling → State
  at_class_open : List Id → List Cd → Spelling → Spelling → State
  at_fields : Heading → State
  at_field_colon at_field_type : Heading → Spelling → State
  at_methods at_def_name : Heading → List Md → State
  at_def_brace : Heading → List Md → Msig → State
  -- An expression is to come, or has ended.
  at_expr : Around → State
  at_ended : E → Around → State
  -- x, x . f, x . m ( e ), x + x
  at_variable at_dot at_plus : X → Around → State
  at_member : X → Spelling → Around → State
  -- ( t ) e, ( x + x )
  at_paren at_paren_plus : Around → State
  at_inside : Spelling → Around → State
  at_cast_close : T → Around → State
  at_plus_in : X → Around → State
  at_sum_close : X → X → Around → State
  -- let y = e in e
  at_let_name : Around → State
  at_let_eq : Spelling → Around → State
  -- new T, - n
  at_new_name at_minus : Around → State
  -- finish { async { e } async { e } } ; e
  at_fork_brace at_fork_async at_fork_open : Around → State
  at_second_async at_second_open : E → Around → State
  at_second_shut at_fork_semi : E → E → Around → State
  -- lock ( x ) in e
  at_lock_open at_lock_var : Around → State
  at_lock_close at_lock_in : X → Around → State

-- A way on from a state: at a token that is spelled out, at a name, at digits, or at the text's end, where the text is derived.
pub data Way : Type 0 where
  on : ℕ → State → Way
  on_name on_digits : (Spelling → State) → Way
  on_end : Derivation → Way

-- t, and x, wherever they stand.
abbrev pub types : (T → State) → List Way
types f = on W_UNIT (f t_unit) ∷ on W_INT (f t_int) ∷ on_name (λ c. f (t_name c)) ∷ []

abbrev pub variables : (X → State) → List Way
variables f = on W_THIS (f x_this) ∷ on_name (λ y. f (x_name y)) ∷ []

-- The first token of an expression.
abbrev pub expression_ways : Around → List Way
expression_ways K =
    variables (λ x. at_variable x K) ++
    (on W_NULL (at_ended e_null K) ∷
    on W_LET (at_let_name K) ∷
    on W_NEW (at_new_name K) ∷
    on S_OPEN (at_paren K) ∷
    on W_FINISH (at_fork_brace K) ∷
    on W_LOCK (at_lock_open K) ∷
    on S_MINUS (at_minus K) ∷
    on_digits (λ d. at_ended (e_digits d) K) ∷
    [])

-- e has ended: the innermost of what is around it that waits takes its closer, and whatever e is the last part of has ended with it.
unfoldable pub closes : Around → E → List Way
closes (around_start ids cds) e = on_end (record { ids = ids; cds = cds; start = e }) ∷ []
closes (in_body h mds s) e = on S_UNBRACE (at_methods h (mds ++ (record { msig = s; body = e } ∷ []))) ∷ []
closes (around_let y K) e = on W_IN (at_expr (in_let y e K)) ∷ []
closes (argument x m K) e = on S_CLOSE (at_ended (e_call x m e) K) ∷ []
closes (first_async K) e = on S_UNBRACE (at_second_async e K) ∷ []
closes (second_async e₁ K) e = on S_UNBRACE (at_second_shut e₁ e K) ∷ []
closes (in_update x f K) e = closes K (e_update x f e)
closes (in_let y e₁ K) e = closes K (e_let y e₁ e)
closes (in_cast t K) e = closes K (e_cast t e)
closes (in_fork e₁ e₂ K) e = closes K (e_fork e₁ e₂ e)
closes (in_lock x K) e = closes K (e_lock x e)

-- A signature has been read.
abbrev pub signed : Owner → Msig → State
signed (of_interface ids i ms) s = at_sigs ids i (ms ++ (s ∷ []))
signed (of_class h mds) s = at_def_brace h mds s

-- With one field more, and with its methods.
abbrev pub field_added : Heading → Fd → Heading
field_added h f = record { ids = h.ids; cds = h.cds; class = h.class; implements = h.implements; fds = h.fds ++ (f ∷ []) }

abbrev pub class_of : Heading → List Md → Cd
class_of h mds = record { class = h.class; implements = h.implements; fds = h.fds; mds = mds }

-- The ways on from each state.
abbrev pub ways : State → List Way
ways (at_top ids) = on W_INTERFACE (at_iface_name ids) ∷ on W_CLASS (at_class_name ids []) ∷ expression_ways (around_start ids [])
ways (at_top_c ids cds) = on W_CLASS (at_class_name ids cds) ∷ expression_ways (around_start ids cds)
ways (at_iface_name ids) = on_name (λ i. at_iface_body ids i) ∷ []
ways (at_iface_body ids i) = on S_BRACE (at_sigs ids i []) ∷ on W_EXTENDS (at_ext_1 ids i) ∷ []
ways (at_sigs ids i ms) = on_name (λ m. at_sig_open (of_interface ids i ms) m) ∷ on S_UNBRACE (at_top (ids ++ (id_list i ms ∷ []))) ∷ []
ways (at_ext_1 ids i) = on_name (λ a. at_ext_comma ids i a) ∷ []
ways (at_ext_comma ids i a) = on S_COMMA (at_ext_2 ids i a) ∷ []
ways (at_ext_2 ids i a) = on_name (λ b. at_top (ids ++ (id_join i a b ∷ []))) ∷ []
ways (at_sig_open o m) = on S_OPEN (at_sig_param o m) ∷ []
ways (at_sig_param o m) = on_name (λ p. at_sig_colon o m p) ∷ []
ways (at_sig_colon o m p) = on S_COLON (at_sig_type o m p) ∷ []
ways (at_sig_type o m p) = types (λ t. at_sig_close o m p t)
ways (at_sig_close o m p t) = on S_CLOSE (at_sig_colon2 o m p t) ∷ []
ways (at_sig_colon2 o m p t) = on S_COLON (at_sig_result o m p t) ∷ []
ways (at_sig_result o m p t) = types (λ u. signed o (record { method = m; parameter = p; takes = t; gives = u }))
ways (at_class_name ids cds) = on_name (λ c. at_class_impl ids cds c) ∷ []
ways (at_class_impl ids cds c) = on W_IMPLEMENTS (at_class_type ids cds c) ∷ []
ways (at_class_type ids cds c) = on_name (λ i. at_class_open ids cds c i) ∷ []
ways (at_class_open ids cds c i) = on S_BRACE (at_fields (record { ids = ids; cds = cds; class = c; implements = i; fds = [] })) ∷ []
ways (at_fields h) = on_name (λ f. at_field_colon h f) ∷ on W_DEF (at_def_name h []) ∷ on S_UNBRACE (at_top_c h.ids (h.cds ++ (class_of h [] ∷ []))) ∷ []
ways (at_field_colon h f) = on S_COLON (at_field_type h f) ∷ []
ways (at_field_type h f) = types (λ t. at_fields (field_added h (record { field = f; holds = t })))
ways (at_methods h mds) = on W_DEF (at_def_name h mds) ∷ on S_UNBRACE (at_top_c h.ids (h.cds ++ (class_of h mds ∷ []))) ∷ []
ways (at_def_name h mds) = on_name (λ m. at_sig_open (of_class h mds) m) ∷ []
ways (at_def_brace h mds s) = on S_BRACE (at_expr (in_body h mds s)) ∷ []
ways (at_expr K) = expression_ways K
ways (at_ended e K) = closes K e
ways (at_variable x K) = on S_DOT (at_dot x K) ∷ on S_PLUS (at_plus x K) ∷ closes K (e_variable x)
ways (at_dot x K) = on_name (λ f. at_member x f K) ∷ []
ways (at_plus x K) = variables (λ y. at_ended (e_sum x y) K)
ways (at_member x f K) = on S_EQUALS (at_expr (in_update x f K)) ∷ on S_OPEN (at_expr (argument x f K)) ∷ closes K (e_select x f)
ways (at_paren K) =
    on W_UNIT (at_cast_close t_unit K) ∷ on W_INT (at_cast_close t_int K) ∷ on W_THIS (at_paren_plus K) ∷ on_name (λ c. at_inside c K) ∷ []
ways (at_paren_plus K) = on S_PLUS (at_plus_in x_this K) ∷ []
ways (at_inside c K) = on S_CLOSE (at_expr (in_cast (t_name c) K)) ∷ on S_PLUS (at_plus_in (x_name c) K) ∷ []
ways (at_cast_close t K) = on S_CLOSE (at_expr (in_cast t K)) ∷ []
ways (at_plus_in x K) = variables (λ y. at_sum_close x y K)
ways (at_sum_close x y K) = on S_CLOSE (at_ended (e_sum_in x y) K) ∷ []
ways (at_let_name K) = on_name (λ y. at_let_eq y K) ∷ []
ways (at_let_eq y K) = on S_EQUALS (at_expr (around_let y K)) ∷ []
ways (at_new_name K) = on_name (λ c. at_ended (e_new c) K) ∷ []
ways (at_minus K) = on_digits (λ d. at_ended (e_minus d) K) ∷ []
ways (at_fork_brace K) = on S_BRACE (at_fork_async K) ∷ []
ways (at_fork_async K) = on W_ASYNC (at_fork_open K) ∷ []
ways (at_fork_open K) = on S_BRACE (at_expr (first_async K)) ∷ []
ways (at_second_async e₁ K) = on W_ASYNC (at_second_open e₁ K) ∷ []
ways (at_second_open e₁ K) = on S_BRACE (at_expr (second_async e₁ K)) ∷ []
ways (at_second_shut e₁ e₂ K) = on S_UNBRACE (at_fork_semi e₁ e₂ K) ∷ []
ways (at_fork_semi e₁ e₂ K) = on S_SEMICOLON (at_expr (in_fork e₁ e₂ K)) ∷ []
ways (at_lock_open K) = on S_OPEN (at_lock_var K) ∷ []
ways (at_lock_var K) = variables (λ x. at_lock_close x K)
ways (at_lock_close x K) = on S_CLOSE (at_lock_in x K) ∷ []
ways (at_lock_in x K) = on W_IN (at_expr (in_lock x K)) ∷ []

-- What a token does in a state.
pub data Shifted : Type 0 where
  stuck : Shifted
  goes : State → Shifted
  accepts : Derivation → Shifted

abbrev pub only_if : Bool → Shifted → Shifted
only_if true a = a
only_if false a = stuck

-- Is it this token, of those that are spelled out?
abbrev pub is_fixed : ℕ → Lexeme → Bool
is_fixed k (fixed j) = eqb j k
is_fixed k (name_token y) = false
is_fixed k (digits_token d) = false

-- What a token does by one way alone.
abbrev pub leads : Way → Lexeme → Shifted
leads (on k s) t = only_if (is_fixed k t) (goes s)
leads (on_name f) (fixed j) = stuck
leads (on_name f) (name_token y) = goes (f y)
leads (on_name f) (digits_token d) = stuck
leads (on_digits f) (fixed j) = stuck
leads (on_digits f) (name_token y) = stuck
leads (on_digits f) (digits_token d) = goes (f d)
leads (on_end p) t = only_if (is_fixed TEXT_END t) (accepts p)

abbrev pub first_way : Shifted → Shifted → Shifted
first_way stuck b = b
first_way (goes s) b = goes s
first_way (accepts p) b = accepts p

unfoldable pub choose : Lexeme → List Way → Shifted
choose t [] = stuck
choose t (w ∷ ws) = first_way (leads w t) (choose t ws)

abbrev pub shift : State → Lexeme → Shifted
shift s t = choose t (ways s)

-- 34: "the token at the place, or the text's end, fits no legal continuation", by the token's index; or the derivation.
pub data Verdict : Type 0 where
  refused_at : ℕ → Verdict
  derived : Derivation → Verdict

abbrev pub after_shift : ℕ → (State → Verdict) → Shifted → Verdict
after_shift n f stuck = refused_at n
after_shift n f (goes s) = f s
after_shift n f (accepts p) = derived p

-- The verdict on the tokens from index n on.
unfoldable pub parse : State → ℕ → List Lexeme → Verdict
parse s n [] = refused_at n
parse s n (t ∷ ts) = after_shift n (λ u. parse u (n + 1) ts) (shift s t)

-- The verdict on the tokens of a text.
abbrev pub parsed : List Lexeme → Verdict
parsed ts = parse (at_top []) 0 (ts ++ (fixed TEXT_END ∷ []))
