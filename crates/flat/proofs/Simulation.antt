-- The machine does what the parser does: a state without its trees goes to the next state without its trees.
use Prim.Native.Nat.{ℕ, suc, ◌+◌, ◌*◌, ◌/◌, ◌%◌, ◌<◌}
use mathlib.Core.Path.{◌≡◌, refl, sym, ap, ◌∙◌, subst, subst⁻¹}
use mathlib.Core.Bool.{Bool, true, false, not, ◌&&◌, cond}
use mathlib.Core.List.{List, [], ◌∷◌, ◌++◌, reverse_aux, append-nil}
use mathlib.Core.Option.{none, some}
use native.Mathlib.Omega.{arith}
use lib.Dec.{eqb}
use lib.ListN.{length, get_or, length-reverse}
use borrow.Author.Tests.{eq-eqb, ne_eqb}
use Rattle.grammar.specs.Tokens.{Spelling, same_spelling, Lexeme, fixed, name_token, digits_token, TEXT_END, W_IN, S_CLOSE, S_UNBRACE, S_DOT, S_PLUS, S_EQUALS, S_OPEN}
use Rattle.grammar.specs.Grammar.{X, x_name, T, t_unit, t_int, t_name, Msig, Id, id_list, id_join, Md, E, e_variable, e_select}
use Rattle.grammar.specs.Roles.{PLAIN, R_INTERFACE, R_CLASS, R_SIGNATURE, R_FIELD, R_DECLARED, R_TYPE, R_BINDER}
use Rattle.grammar.specs.Roles.{R_FIELD_USED, R_METHOD_USED, R_OPERAND, R_VARIABLE, R_SELECT, R_UPDATE, R_CALL, R_LET, R_CAST}
use Rattle.grammar.specs.Roles.{R_LOCK, R_SUM, R_SUM_IN, Scope, bound, type_role, roles, roles_msig, roles_all, roles_id, roles_fd, roles_md}
use Rattle.grammar.specs.Roles.{roles_cd}
use Rattle.grammar.specs.Parse.{Heading, Around, around_start, in_body, around_let, argument, first_async, second_async, in_update, in_let, in_cast, in_fork, in_lock}
use Rattle.grammar.specs.Parse.{of_interface, of_class, State, at_top, at_top_c, at_iface_name, at_iface_body, at_sigs, at_ext_1, at_ext_comma, at_ext_2}
use Rattle.grammar.specs.Parse.{at_sig_open, at_sig_param, at_sig_colon, at_sig_type, at_sig_close, at_sig_colon2, at_sig_result, at_class_name, at_class_impl}
use Rattle.grammar.specs.Parse.{at_class_type, at_class_open, at_fields, at_field_colon, at_field_type, at_methods, at_def_name, at_def_brace, at_expr, at_ended}
use Rattle.grammar.specs.Parse.{at_variable, at_dot, at_plus, at_member, at_paren, at_paren_plus, at_inside, at_cast_close, at_plus_in, at_sum_close, at_let_name}
use Rattle.grammar.specs.Parse.{at_let_eq, at_new_name, at_minus, at_fork_brace, at_fork_async, at_fork_open, at_second_async, at_second_open, at_second_shut}
use Rattle.grammar.specs.Parse.{at_fork_semi, at_lock_open, at_lock_var, at_lock_close, at_lock_in}
use Rattle.grammar.specs.Roles.{BINDING, B_PARAMETER, B_OTHER, under, binding_by, roles_text, roles_before}
use Rattle.grammar.specs.Grammar.{Derivation, e_update, e_call, e_let, e_cast, e_fork, e_lock}
use Rattle.grammar.specs.Parse.{Way, on, on_end, Shifted, stuck, goes, accepts, choose, closes, ways, shift, expression_ways, field_added, only_if, first_way}
use Rattle.flat.specs.declared.Turn.{Turn}
use Rattle.flat.specs.Flat.{Flat, Rule, FlatNext, flat_stuck, flat_goes, pick_turn, closer_turn, flat_by, flat_step, flat_ends, turn_at, other_turn}
use Rattle.flat.specs.Flat.{stuck_turn, ending_test, CLOSE, POP, LEAVE, TOP, TOP_C, EXPR, VARIABLE, MEMBER, ENDED, rules, begin_rules, deed, start_by, empty_test, CLOSERS, POINTS, PUSH_LET, PUSH_CALL, PUSH_FIRST, PUSH_SECOND}
use Rattle.flat.proofs.Flatten.{flatten, parameter_in, visible_in, scope_by, scope_in, closer_of, let_keeps, closers_in, outer, interface_so, heading_so, class_so}
use Rattle.flat.proofs.Flatten.{before, done, start_in, inside, outside, in_interface, in_class}
use Rattle.flat.proofs.Walks.{flattened, Alike, walk, end_behind, end_other, endless_at}

-- Laws of lists put on one another from the back.
pub onto_append : (a b c : List ℕ) → reverse_aux (a ++ b) c ≡ reverse_aux b (reverse_aux a c)
onto_append [] b c = refl
onto_append (x ∷ a) b c = onto_append a b (x ∷ c)

pub onto_more :
    {A : Type 0} (f : A → List ℕ) (l : List A) (a : A) (c : List ℕ)
    → reverse_aux (roles_all f (l ++ (a ∷ []))) c ≡ reverse_aux (f a) (reverse_aux (roles_all f l) c)
unfolding roles_all
onto_more f [] a c = onto_append (f a) [] c
onto_more f (b ∷ l) a c =
    onto_append (f b) (roles_all f (l ++ (a ∷ []))) c ∙
    onto_more f l a (reverse_aux (f b) c) ∙
    ap (λ (r : List ℕ). reverse_aux (f a) r) (sym (onto_append (f b) (roles_all f l) c))

-- Scopes: a let's second part, and an occurrence.
under_scope : (v : Bool) (y p : Spelling) → under y (scope_by v p) ≡ scope_by (v && not (v && same_spelling y p)) p
under_scope false y p = refl
under_scope true y p = go (same_spelling y p) refl
  where
    go : (q : Bool) → same_spelling y p ≡ q → under y (some p) ≡ scope_by (not (same_spelling y p)) p
    go true e = rw e
    go false e = rw e

binding_own : (v : Bool) (y p : Spelling) → binding_by (scope_by v p) (x_name y) ≡ cond (v && same_spelling y p) B_PARAMETER B_OTHER
binding_own false y p = refl
binding_own true y p = go (same_spelling y p) refl
  where
    go : (q : Bool) → same_spelling y p ≡ q → binding_by (some p) (x_name y) ≡ cond (same_spelling y p) B_PARAMETER B_OTHER
    go true e = rw e
    go false e = rw e

-- A closer says its point and what it keeps.
closer_point : (d : ℕ) (v : Bool) → d < 16 → closer_of d v % POINTS ≡ CLOSERS + d
closer_point d true h = omega arith
closer_point d false h = omega arith

closer_keeps : (d : ℕ) (v : Bool) → d < 16 → eqb (closer_of d v / POINTS) 1 ≡ v
closer_keeps d true h = let e : closer_of d true / POINTS ≡ 1 = omega arith in eq-eqb (closer_of d true / POINTS) 1 e
closer_keeps d false h = let e : closer_of d false / POINTS ≡ 1 → ⊥ = omega arith in ne_eqb (closer_of d false / POINTS) 1 e

-- The innermost closer is done.
abbrev awaiting : ℕ → ℕ → List ℕ → Spelling → Bool → List ℕ → ℕ → Flat
awaiting n c cs p v l s = record { point = n; closers = c ∷ cs; parameter = p; visible = v; roles = l; start = s }

popped :
    (d k n : ℕ) (kept : Bool) (cs : List ℕ) (p : Spelling) (l : List ℕ) (s : ℕ) (u : State)
    → d < 16
    → ((t : Lexeme) → turn_at (CLOSERS + d) t ≡ pick_turn stuck_turn t (deed k POP n ∷ []))
    → start_by n (suc (length l)) s ≡ s
    → flatten u ≡ record { point = n; closers = cs; parameter = p; visible = kept; roles = PLAIN ∷ l; start = s }
    → (q : ℕ) (v : Bool) (t : Lexeme)
    → flat_by (awaiting q (closer_of d kept) cs p v l s) t (turn_at (closer_of d kept % POINTS) t) ≡ flattened (choose t (on k u ∷ []))
unfolding choose
popped d k n kept cs p l s u low row same is q v t =
    rw (closer_point d kept low, row t)
    (walk (flat_by (awaiting q (closer_of d kept) cs p v l s)) t stuck_turn [] refl (on k u ∷ []) (deed k POP n ∷ []) ((refl, rw (closer_keeps d kept low, is, same) refl), tt))

-- What is done with an expression that ends something.
method_done : (h : Heading) (mds : List Md) (s : Msig) (e : E) → class_so h (mds ++ (record { msig = s; body = e } ∷ [])) ≡ PLAIN ∷ done e (in_body h mds s)
unfolding roles_md before visible_in parameter_in
method_done h mds s e =
    onto_more roles_md mds (record { msig = s; body = e }) (heading_so h) ∙
    onto_append (roles (some s.parameter) e) (PLAIN ∷ []) (before (in_body h mds s))

call_done : (x : X) (m : Spelling) (e : E) (K : Around) → done (e_call x m e) K ≡ PLAIN ∷ done e (argument x m K)
unfolding roles before visible_in parameter_in
call_done x m e K = onto_append (roles (scope_in K) e) (PLAIN ∷ []) (before (argument x m K))

let_done : (y : Spelling) (e₁ e : E) (K : Around) → done (e_let y e₁ e) K ≡ done e (in_let y e₁ K)
unfolding roles before visible_in parameter_in
let_done y e₁ e K =
    onto_append (roles (scope_in K) e₁) (PLAIN ∷ roles (under y (scope_in K)) e) (PLAIN ∷ R_BINDER ∷ R_LET ∷ before K) ∙
    ap (λ (c : Scope). reverse_aux (roles c e) (before (in_let y e₁ K))) (under_scope (visible_in K) y (parameter_in K))

fork_done : (e₁ e₂ e : E) (K : Around) → done (e_fork e₁ e₂ e) K ≡ done e (in_fork e₁ e₂ K)
unfolding roles before visible_in parameter_in
fork_done e₁ e₂ e K =
    onto_append (roles (scope_in K) e₁) (PLAIN ∷ PLAIN ∷ PLAIN ∷ (roles (scope_in K) e₂ ++ (PLAIN ∷ PLAIN ∷ PLAIN ∷ roles (scope_in K) e))) (before (first_async K)) ∙
    onto_append (roles (scope_in K) e₂) (PLAIN ∷ PLAIN ∷ PLAIN ∷ roles (scope_in K) e) (before (second_async e₁ K))

-- An expression has ended, and the innermost closer takes the token.
abbrev Closed : Around → E → ℕ → Bool → Lexeme → List ℕ → Type 0
Closed K e q v t l =
    flat_by (record { point = q; closers = closers_in K; parameter = parameter_in K; visible = v; roles = l; start = start_in K }) t (closer_turn (closers_in K) t)
    ≡ flattened (choose t (closes K e))

closed_none : (d : Derivation) (t : Lexeme) → flat_stuck ≡ flattened (choose t (on_end d ∷ []))
unfolding choose
closed_none d (fixed j) = go (eqb j TEXT_END)
  where
    go : (q : Bool) → flat_stuck ≡ flattened (first_way (only_if q (accepts d)) stuck)
    go true = refl
    go false = refl
closed_none d (name_token y) = refl
closed_none d (digits_token y) = refl

closing : (K : Around) (e : E) (q : ℕ) (v : Bool) (t : Lexeme) → Closed K e q v t (done e K)
unfolding closes closers_in parameter_in visible_in start_in before roles flatten turn_at choose
closing (around_start ids cds) e q v t = closed_none (record { ids = ids; cds = cds; start = e }) t
closing (in_body h mds s) e q v t =
    walk (flat_by (awaiting q 63 [] s.parameter v (done e (in_body h mds s)) (length (outer h.ids h.cds)))) t stuck_turn [] refl
    (on S_UNBRACE (at_methods h (mds ++ (record { msig = s; body = e } ∷ []))) ∷ [])
    (deed S_UNBRACE LEAVE 22 ∷ [])
    ((refl, rw (method_done h mds s e) refl), tt)
closing (around_let y K) e q v t =
    popped PUSH_LET W_IN EXPR (let_keeps y K) (closers_in K) (parameter_in K) (done e (around_let y K)) (start_in K) (at_expr (in_let y e K)) (omega arith) (λ w. refl) refl refl q v t
closing (argument x m K) e q v t =
    popped PUSH_CALL S_CLOSE ENDED (visible_in K) (closers_in K) (parameter_in K) (done e (argument x m K)) (start_in K) (at_ended (e_call x m e) K) (omega arith) (λ w. refl) refl
    (ap (inside ENDED K) (call_done x m e K)) q v t
closing (first_async K) e q v t =
    popped PUSH_FIRST S_UNBRACE 49 (visible_in K) (closers_in K) (parameter_in K) (done e (first_async K)) (start_in K) (at_second_async e K) (omega arith) (λ w. refl) refl refl q v t
closing (second_async e₁ K) e q v t =
    popped PUSH_SECOND S_UNBRACE 51 (visible_in K) (closers_in K) (parameter_in K) (done e (second_async e₁ K)) (start_in K) (at_second_shut e₁ e K) (omega arith) (λ w. refl) refl refl q v t
closing (in_update x f K) e q v t = closing K (e_update x f e) q v t
closing (in_let y e₁ K) e q v t = subst (λ (l : List ℕ). Closed K (e_let y e₁ e) q v t l) (let_done y e₁ e K) (closing K (e_let y e₁ e) q v t)
closing (in_cast c K) e q v t = closing K (e_cast c e) q v t
closing (in_fork e₁ e₂ K) e q v t = subst (λ (l : List ℕ). Closed K (e_fork e₁ e₂ e) q v t l) (fork_done e₁ e₂ e K) (closing K (e_fork e₁ e₂ e) q v t)
closing (in_lock x K) e q v t = closing K (e_lock x e) q v t

-- What is done with a declaration or a part of one.
list_done : (ids : List Id) (i : Spelling) (ms : List Msig) → outer (ids ++ (id_list i ms ∷ [])) [] ≡ PLAIN ∷ interface_so ids ms
unfolding roles_all roles_id
list_done ids i ms =
    onto_more roles_id ids (id_list i ms) [] ∙
    onto_append (roles_all (roles_msig R_SIGNATURE) ms) (PLAIN ∷ []) (PLAIN ∷ R_DECLARED ∷ R_INTERFACE ∷ outer ids [])

join_done : (ids : List Id) (i a b : Spelling) → outer (ids ++ (id_join i a b ∷ [])) [] ≡ R_TYPE ∷ PLAIN ∷ R_TYPE ∷ PLAIN ∷ R_DECLARED ∷ R_INTERFACE ∷ outer ids []
unfolding roles_all roles_id
join_done ids i a b = onto_more roles_id ids (id_join i a b) []

class_done :
    (h : Heading) (mds : List Md)
    → outer h.ids (h.cds ++ (record { class = h.class; implements = h.implements; fds = h.fds; mds = mds } ∷ [])) ≡ PLAIN ∷ class_so h mds
unfolding roles_all roles_cd
class_done h mds =
    onto_more roles_cd h.cds (record { class = h.class; implements = h.implements; fds = h.fds; mds = mds }) (outer h.ids []) ∙
    onto_append (roles_all roles_fd h.fds) (roles_all roles_md mds ++ (PLAIN ∷ [])) (PLAIN ∷ R_TYPE ∷ PLAIN ∷ R_DECLARED ∷ R_CLASS ∷ outer h.ids h.cds) ∙
    onto_append (roles_all roles_md mds) (PLAIN ∷ []) (heading_so h)

-- The machine goes to a point with these roles, at the top or in an expression.
topped : (n : ℕ) (l m : List ℕ) → m ≡ l → flat_goes (outside n l (length l)) ≡ flat_goes (outside n m (length m))
topped n l m h = rw h

-- A variable's name has its binding, and what settles its role keeps it.
occurs :
    (n r : ℕ) (K : Around) (l : List ℕ) (y : Spelling)
    → flat_goes (inside n K ((r + BINDING * cond (visible_in K && same_spelling y (parameter_in K)) B_PARAMETER B_OTHER) ∷ l))
    ≡ flat_goes (inside n K (bound r (scope_in K) (x_name y) ∷ l))
occurs n r K l y = rw (binding_own (visible_in K) y (parameter_in K))

binding_kept : (r b : ℕ) → r < BINDING → (r + BINDING * b) / BINDING ≡ b
binding_kept r b h = omega arith

-- What a token does by a turn of the table, which may leave it to the innermost closer.
abbrev played : Flat → Lexeme → Turn → FlatNext
played f t m = flat_by f t (cond (eqb m.deed CLOSE) (closer_turn f.closers t) m)

abbrev rules_of : State → List Rule
rules_of s = get_or rules (flatten s).point []

begins_alike : (p : ℕ) (K : Around) → Alike (played (inside p K (before K))) (expression_ways K) begin_rules
unfolding flatten roles
begins_alike p K = (
  (refl, refl),
  (
    (refl, λ y. occurs VARIABLE R_VARIABLE K (before K) y),
    ((refl, refl), ((refl, refl), ((refl, refl), ((refl, refl), ((refl, refl), ((refl, refl), ((refl, refl), ((refl, λ d. refl), tt)))))))),
  ),
)

-- The rules of a state's point do what the ways on from it do; at three points an expression may have ended.
data Plays (s : State) : Type 0 where
  plays : Alike (played (flatten s)) (ways s) (rules_of s) → ending_test (flatten s).point ≡ false → Plays s
  plays_ending :
      (e : E) (K : Around) (ws : List Way)
      → ways s ≡ ws ++ closes K e
      → Alike (played (flatten s)) ws (rules_of s)
      → flatten s ≡ inside (flatten s).point K (done e K)
      → ending_test (flatten s).point ≡ true
      → Plays s

all_play : (s : State) → Plays s
unfolding flatten closers_in parameter_in visible_in start_in before roles roles_all
all_play (at_iface_name ids) = plays ((refl, λ y. refl), tt) refl
all_play (at_iface_body ids i) = plays ((refl, refl), ((refl, refl), tt)) refl
all_play (at_ext_1 ids i) = plays ((refl, λ y. refl), tt) refl
all_play (at_ext_comma ids i a) = plays ((refl, refl), tt) refl
all_play (at_class_name ids cds) = plays ((refl, λ y. refl), tt) refl
all_play (at_class_impl ids cds c) = plays ((refl, refl), tt) refl
all_play (at_class_type ids cds c) = plays ((refl, λ y. refl), tt) refl
all_play (at_class_open ids cds c i) = plays ((refl, refl), tt) refl
all_play (at_field_colon h f) = plays ((refl, refl), tt) refl
all_play (at_def_name h mds) = plays ((refl, λ y. refl), tt) refl
all_play (at_def_brace h mds s) = plays ((refl, refl), tt) refl
all_play (at_cast_close t K) = plays ((refl, refl), tt) refl
all_play (at_let_eq y K) = plays ((refl, refl), tt) refl
all_play (at_new_name K) = plays ((refl, λ y. refl), tt) refl
all_play (at_minus K) = plays ((refl, λ y. refl), tt) refl
all_play (at_fork_brace K) = plays ((refl, refl), tt) refl
all_play (at_fork_async K) = plays ((refl, refl), tt) refl
all_play (at_fork_open K) = plays ((refl, refl), tt) refl
all_play (at_second_async e K) = plays ((refl, refl), tt) refl
all_play (at_second_open e K) = plays ((refl, refl), tt) refl
all_play (at_second_shut e₁ e₂ K) = plays ((refl, refl), tt) refl
all_play (at_fork_semi e₁ e₂ K) = plays ((refl, refl), tt) refl
all_play (at_lock_open K) = plays ((refl, refl), tt) refl
all_play (at_lock_close x K) = plays ((refl, refl), tt) refl
all_play (at_lock_in x K) = plays ((refl, refl), tt) refl
all_play (at_sum_close x y K) = plays ((refl, refl), tt) refl
all_play (at_top ids) = plays ((refl, refl), ((refl, refl), begins_alike TOP (around_start ids []))) refl
all_play (at_top_c ids cds) = plays ((refl, refl), begins_alike TOP_C (around_start ids cds)) refl
all_play (at_sigs ids i ms) = plays ((refl, λ y. refl), ((refl, topped TOP (PLAIN ∷ interface_so ids ms) (outer (ids ++ (id_list i ms ∷ [])) []) (list_done ids i ms)), tt)) refl
all_play (at_ext_2 ids i a) = plays ((refl, λ b. topped TOP (R_TYPE ∷ PLAIN ∷ R_TYPE ∷ PLAIN ∷ R_DECLARED ∷ R_INTERFACE ∷ outer ids []) (outer (ids ++ (id_join i a b ∷ [])) []) (join_done ids i a b)), tt) refl
all_play (at_sig_open (of_interface ids i ms) m) = plays ((refl, refl), tt) refl
all_play (at_sig_param (of_interface ids i ms) m) = plays ((refl, λ y. refl), tt) refl
all_play (at_sig_colon (of_interface ids i ms) m p) = plays ((refl, refl), tt) refl
all_play (at_sig_type (of_interface ids i ms) m p) = plays ((refl, refl), ((refl, refl), ((refl, λ y. refl), tt))) refl
all_play (at_sig_close (of_interface ids i ms) m p t) = plays ((refl, refl), tt) refl
all_play (at_sig_colon2 (of_interface ids i ms) m p t) = plays ((refl, refl), tt) refl
all_play (at_sig_open (of_class h mds) m) = plays ((refl, refl), tt) refl
all_play (at_sig_param (of_class h mds) m) = plays ((refl, λ y. refl), tt) refl
all_play (at_sig_colon (of_class h mds) m p) = plays ((refl, refl), tt) refl
all_play (at_sig_type (of_class h mds) m p) = plays ((refl, refl), ((refl, refl), ((refl, λ y. refl), tt))) refl
all_play (at_sig_close (of_class h mds) m p t) = plays ((refl, refl), tt) refl
all_play (at_sig_colon2 (of_class h mds) m p t) = plays ((refl, refl), tt) refl
all_play (at_sig_result (of_interface ids i ms) m p t) = plays ((refl, sig t_unit), ((refl, sig t_int), ((refl, λ c. sig (t_name c)), tt))) refl
  where
    sig :
        (u : T)
        → flat_goes (in_interface 3 ids (type_role u ∷ PLAIN ∷ PLAIN ∷ type_role t ∷ PLAIN ∷ PLAIN ∷ PLAIN ∷ R_SIGNATURE ∷ interface_so ids ms))
        ≡ flat_goes (flatten (at_sigs ids i (ms ++ (record { method = m; parameter = p; takes = t; gives = u } ∷ []))))
    sig u =
        rw
        (onto_more (roles_msig R_SIGNATURE) ms (record { method = m; parameter = p; takes = t; gives = u }) (PLAIN ∷ R_DECLARED ∷ R_INTERFACE ∷ outer ids []))
all_play (at_sig_result (of_class h mds) m p t) = plays ((refl, refl), ((refl, refl), ((refl, λ y. refl), tt))) refl
all_play (at_fields h) = plays ((refl, λ y. refl), ((refl, refl), ((refl, topped TOP_C (PLAIN ∷ class_so h []) (outer h.ids (h.cds ++ (record { class = h.class; implements = h.implements; fds = h.fds; mds = [] } ∷ []))) (class_done h [])), tt))) refl
all_play (at_field_type h f) = plays ((refl, typed t_unit), ((refl, typed t_int), ((refl, λ c. typed (t_name c)), tt))) refl
  where
    typed : (u : T) → flat_goes (in_class 19 h (type_role u ∷ PLAIN ∷ R_FIELD ∷ heading_so h)) ≡ flat_goes (flatten (at_fields (field_added h (record { field = f; holds = u }))))
    typed u =
        rw
        (onto_more roles_fd h.fds (record { field = f; holds = u }) (PLAIN ∷ R_TYPE ∷ PLAIN ∷ R_DECLARED ∷ R_CLASS ∷ outer h.ids h.cds))
all_play (at_methods h mds) = plays ((refl, refl), ((refl, topped TOP_C (PLAIN ∷ class_so h mds) (outer h.ids (h.cds ++ (record { class = h.class; implements = h.implements; fds = h.fds; mds = mds } ∷ []))) (class_done h mds)), tt)) refl
all_play (at_expr K) = plays (begins_alike EXPR K) refl
all_play (at_ended e K) = plays_ending e K [] refl tt refl refl
all_play (at_variable x K) = plays_ending (e_variable x) K (on S_DOT (at_dot x K) ∷ on S_PLUS (at_plus x K) ∷ []) refl ((refl, refl), ((refl, ap (λ (b : ℕ). flat_goes (inside 36 K (PLAIN ∷ (R_SUM + BINDING * b) ∷ before K))) (binding_kept R_VARIABLE (binding_by (scope_in K) x) (omega arith))), tt)) refl refl
all_play (at_dot x K) = plays ((refl, λ f. ap (λ (b : ℕ). flat_goes (inside MEMBER K (R_FIELD_USED ∷ PLAIN ∷ (R_SELECT + BINDING * b) ∷ before K))) (binding_kept R_VARIABLE (binding_by (scope_in K) x) (omega arith))), tt) refl
all_play (at_plus x K) = plays ((refl, refl), ((refl, λ y. occurs ENDED R_OPERAND K (PLAIN ∷ bound R_SUM (scope_in K) x ∷ before K) y), tt)) refl
all_play (at_member x f K) = plays_ending (e_select x f) K (on S_EQUALS (at_expr (in_update x f K)) ∷ on S_OPEN (at_expr (argument x f K)) ∷ []) refl ((refl, ap (λ (b : ℕ). flat_goes (inside EXPR K (PLAIN ∷ R_FIELD_USED ∷ PLAIN ∷ (R_UPDATE + BINDING * b) ∷ before K))) (binding_kept R_SELECT (binding_by (scope_in K) x) (omega arith))), ((refl, ap (λ (b : ℕ). flat_goes (inside EXPR (argument x f K) (PLAIN ∷ R_METHOD_USED ∷ PLAIN ∷ (R_CALL + BINDING * b) ∷ before K))) (binding_kept R_SELECT (binding_by (scope_in K) x) (omega arith))), tt)) refl refl
all_play (at_paren K) = plays ((refl, refl), ((refl, refl), ((refl, refl), ((refl, λ y. occurs 38 R_OPERAND K (R_CAST ∷ before K) y), tt)))) refl
all_play (at_paren_plus K) = plays ((refl, refl), tt) refl
all_play (at_inside c K) = plays ((refl, refl), ((refl, refl), tt)) refl
all_play (at_plus_in x K) = plays ((refl, refl), ((refl, λ y. occurs 42 R_OPERAND K (PLAIN ∷ bound R_OPERAND (scope_in K) x ∷ R_SUM_IN ∷ before K) y), tt)) refl
all_play (at_let_name K) = plays ((refl, λ y. refl), tt) refl
all_play (at_lock_var K) = plays ((refl, refl), ((refl, λ y. occurs 55 R_OPERAND K (PLAIN ∷ R_LOCK ∷ before K) y), tt)) refl

-- A token does to a state without its trees what it does to the state.
pub simulates : (s : State) (t : Lexeme) → flat_step (flatten s) t ≡ flattened (shift s t)
unfolding turn_at choose
simulates s t = go (all_play s)
  where
    go : Plays s → flat_step (flatten s) t ≡ flattened (shift s t)
    go (plays a h) =
        let e : played (flatten s) t (other_turn (flatten s).point) ≡ flat_stuck = rw h in
        walk (played (flatten s)) t (other_turn (flatten s).point) [] e (ways s) (rules_of s) a ∙
        ap (λ (l : List Way). flattened (choose t l)) (append-nil (ways s))
    go (plays_ending e K ws w a is h) =
        let c : flat_by (flatten s) t (closer_turn (flatten s).closers t) ≡ flattened (choose t (closes K e)) =
        subst⁻¹ (λ (f : Flat). flat_by f t (closer_turn f.closers t) ≡ flattened (choose t (closes K e))) is
        (closing K e (flatten s).point (visible_in K) t) in
        let o : played (flatten s) t (other_turn (flatten s).point) ≡ flattened (choose t (closes K e)) = rw h c in
        walk (played (flatten s)) t (other_turn (flatten s).point) (closes K e) o ws (rules_of s) a ∙
        ap (λ (l : List Way). flattened (choose t l)) (sym w)

-- At the text's end the machine says whether the text is derived, and then its roles and its start are the derivation's.
abbrev pub Ended : Bool → List ℕ → ℕ → Shifted → Type 0
Ended b l n stuck = b ≡ false
Ended b l n (goes u) = ⊥
Ended b l n (accepts d) = (b ≡ true) × (l ≡ reverse_aux (roles_text d) []) × (n ≡ length (roles_before d))

closed_end : (K : Around) (e : E) → Ended (empty_test (closers_in K)) (done e K) (start_in K) (choose (fixed TEXT_END) (closes K e))
unfolding closes closers_in parameter_in visible_in start_in before roles choose roles_text roles_before
closed_end (around_start ids cds) e = (
  refl,
  sym
      (onto_append (roles_all roles_id ids ++ roles_all roles_cd cds) (roles none e) [] ∙
      ap (λ (l : List ℕ). reverse_aux (roles none e) l) (onto_append (roles_all roles_id ids) (roles_all roles_cd cds) [])),
  ap length (sym (onto_append (roles_all roles_id ids) (roles_all roles_cd cds) [])) ∙ length-reverse (roles_all roles_id ids ++ roles_all roles_cd cds),
)
closed_end (in_body h mds s) e = refl
closed_end (around_let y K) e = refl
closed_end (argument x m K) e = refl
closed_end (first_async K) e = refl
closed_end (second_async e₁ K) e = refl
closed_end (in_update x f K) e = closed_end K (e_update x f e)
closed_end (in_let y e₁ K) e =
    subst (λ (l : List ℕ). Ended (empty_test (closers_in K)) l (start_in K) (choose (fixed TEXT_END) (closes K (e_let y e₁ e)))) (let_done y e₁ e K)
    (closed_end K (e_let y e₁ e))
closed_end (in_cast c K) e = closed_end K (e_cast c e)
closed_end (in_fork e₁ e₂ K) e =
    subst (λ (l : List ℕ). Ended (empty_test (closers_in K)) l (start_in K) (choose (fixed TEXT_END) (closes K (e_fork e₁ e₂ e)))) (fork_done e₁ e₂ e K)
    (closed_end K (e_fork e₁ e₂ e))
closed_end (in_lock x K) e = closed_end K (e_lock x e)

end_turn : (p : ℕ) → turn_at p (fixed TEXT_END) ≡ other_turn p
unfolding turn_at
end_turn p = end_other (other_turn p) (get_or rules p []) (endless_at p)

pub ends : (s : State) → Ended (flat_ends (flatten s)) (flatten s).roles (flatten s).start (shift s (fixed TEXT_END))
unfolding choose
ends s = go (all_play s)
  where
    go : Plays s → Ended (flat_ends (flatten s)) (flatten s).roles (flatten s).start (shift s (fixed TEXT_END))
    go (plays a h) =
        let k : shift s (fixed TEXT_END) ≡ stuck =
        ap (choose (fixed TEXT_END)) (sym (append-nil (ways s))) ∙
        end_behind (played (flatten s)) [] (ways s) (rules_of s) a (endless_at (flatten s).point) in
        let n : flat_ends (flatten s) ≡ false = rw (end_turn (flatten s).point, h) in
        subst⁻¹ (λ (o : Shifted). Ended (flat_ends (flatten s)) (flatten s).roles (flatten s).start o) k n
    go (plays_ending e K ws w a is h) =
        let k : shift s (fixed TEXT_END) ≡ choose (fixed TEXT_END) (closes K e) =
        ap (choose (fixed TEXT_END)) w ∙
        end_behind (played (flatten s)) (closes K e) ws (rules_of s) a (endless_at (flatten s).point) in
        let n : flat_ends (flatten s) ≡ empty_test (flatten s).closers = rw (end_turn (flatten s).point, h) in
        let c : Ended (empty_test (flatten s).closers) (flatten s).roles (flatten s).start (choose (fixed TEXT_END) (closes K e)) =
        subst⁻¹ (λ (f : Flat). Ended (empty_test f.closers) f.roles f.start (choose (fixed TEXT_END) (closes K e))) is (closed_end K e) in
        subst⁻¹ (λ (o : Shifted). Ended (flat_ends (flatten s)) (flatten s).roles (flatten s).start o) k
        (subst⁻¹ (λ (b : Bool). Ended b (flatten s).roles (flatten s).start (choose (fixed TEXT_END) (closes K e))) n c)
