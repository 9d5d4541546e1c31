-- (A) What a state has read, and that a shift appends its token.
use mathlib.Core.Path.{◌≡◌, refl}
use mathlib.Core.Bool.{false}
use mathlib.Core.List.{List, [], ◌∷◌, ◌++◌, append_assoc}
use Rattle.script.specs.Lists.{Every}
use Rattle.grammar.specs.Tokens.{Spelling, Lexeme, fixed, name_token, TEXT_END, W_INTERFACE, W_EXTENDS, W_CLASS, W_IMPLEMENTS, W_DEF, W_LET, W_IN}
use Rattle.grammar.specs.Tokens.{W_NEW, W_FINISH, W_ASYNC, W_LOCK, W_THIS, S_BRACE, S_UNBRACE, S_OPEN, S_CLOSE, S_COLON, S_COMMA, S_DOT, S_EQUALS}
use Rattle.grammar.specs.Tokens.{S_SEMICOLON, S_PLUS, S_MINUS}
use Rattle.grammar.specs.Grammar.{variable_token, T, t_unit, t_int, t_name, type_token, Msig, spelled_msig, spelled_all, Id, spelled_id, spelled_fd, Md}
use Rattle.grammar.specs.Grammar.{spelled_md, Cd, spelled_cd, spelled_text, E, spelled, e_update, e_let, e_cast, e_fork, e_lock}
use Rattle.grammar.specs.Parse.{Heading, Around, around_start, in_body, around_let, argument, first_async, second_async, in_update, in_let, in_cast}
use Rattle.grammar.specs.Parse.{in_fork, in_lock, Owner, of_interface, of_class, State, at_top, at_top_c, at_iface_name, at_iface_body, at_sigs}
use Rattle.grammar.specs.Parse.{at_ext_1, at_ext_comma, at_ext_2, at_sig_open, at_sig_param, at_sig_colon, at_sig_type, at_sig_close, at_sig_colon2}
use Rattle.grammar.specs.Parse.{at_sig_result, at_class_name, at_class_impl, at_class_type, at_class_open, at_fields, at_field_colon, at_field_type}
use Rattle.grammar.specs.Parse.{at_methods, at_def_name, at_def_brace, at_expr, at_ended, at_variable, at_dot, at_plus, at_member, at_paren}
use Rattle.grammar.specs.Parse.{at_paren_plus, at_inside, at_cast_close, at_plus_in, at_sum_close, at_let_name, at_let_eq, at_new_name, at_minus}
use Rattle.grammar.specs.Parse.{at_fork_brace, at_fork_async, at_fork_open, at_second_async, at_second_open, at_second_shut, at_fork_semi}
use Rattle.grammar.specs.Parse.{at_lock_open, at_lock_var, at_lock_close, at_lock_in, Way, types, expression_ways, closes, ways, Shifted, stuck, goes}
use Rattle.grammar.specs.Parse.{accepts, is_fixed, shift, signed}
use Rattle.grammar.proofs.Ways.{OfWay, chosen}

-- What a state has read, with r behind it. First what is around.
abbrev pub saying_all : List Id → List Cd → List Lexeme → List Lexeme
saying_all ids cds r = spelled_all spelled_id ids ++ (spelled_all spelled_cd cds ++ r)

abbrev pub saying_interface : List Id → Spelling → List Lexeme → List Lexeme
saying_interface ids i r = spelled_all spelled_id ids ++ (fixed W_INTERFACE ∷ name_token i ∷ r)

abbrev pub saying_fields : Heading → List Lexeme → List Lexeme
saying_fields h r =
    saying_all h.ids h.cds
    (fixed W_CLASS ∷
    name_token h.class ∷
    fixed W_IMPLEMENTS ∷
    name_token h.implements ∷
    fixed S_BRACE ∷
    (spelled_all spelled_fd h.fds ++ r))

abbrev pub saying_methods : Heading → List Md → List Lexeme → List Lexeme
saying_methods h mds r = saying_fields h (spelled_all spelled_md mds ++ r)

abbrev pub saying_owner : Owner → List Lexeme → List Lexeme
saying_owner (of_interface ids i ms) r = saying_interface ids i (fixed S_BRACE ∷ (spelled_all spelled_msig ms ++ r))
saying_owner (of_class h mds) r = saying_methods h mds (fixed W_DEF ∷ r)

abbrev pub saying_first : List Lexeme → List Lexeme
saying_first r = fixed W_FINISH ∷ fixed S_BRACE ∷ fixed W_ASYNC ∷ fixed S_BRACE ∷ r

abbrev pub saying_second : E → List Lexeme → List Lexeme
saying_second e₁ r = saying_first (spelled e₁ ++ (fixed S_UNBRACE ∷ fixed W_ASYNC ∷ fixed S_BRACE ∷ r))

unfoldable pub saying_around : Around → List Lexeme → List Lexeme
saying_around (around_start ids cds) r = saying_all ids cds r
saying_around (in_body h mds s) r = saying_methods h mds (fixed W_DEF ∷ (spelled_msig s ++ (fixed S_BRACE ∷ r)))
saying_around (around_let y K) r = saying_around K (fixed W_LET ∷ name_token y ∷ fixed S_EQUALS ∷ r)
saying_around (argument x m K) r = saying_around K (variable_token x ∷ fixed S_DOT ∷ name_token m ∷ fixed S_OPEN ∷ r)
saying_around (first_async K) r = saying_around K (saying_first r)
saying_around (second_async e₁ K) r = saying_around K (saying_second e₁ r)
saying_around (in_update x f K) r = saying_around K (variable_token x ∷ fixed S_DOT ∷ name_token f ∷ fixed S_EQUALS ∷ r)
saying_around (in_let y e₁ K) r = saying_around K (fixed W_LET ∷ name_token y ∷ fixed S_EQUALS ∷ (spelled e₁ ++ (fixed W_IN ∷ r)))
saying_around (in_cast t K) r = saying_around K (fixed S_OPEN ∷ type_token t ∷ fixed S_CLOSE ∷ r)
saying_around (in_fork e₁ e₂ K) r =
    saying_around K (saying_second e₁ (spelled e₂ ++ (fixed S_UNBRACE ∷ fixed S_UNBRACE ∷ fixed S_SEMICOLON ∷ r)))
saying_around (in_lock x K) r = saying_around K (fixed W_LOCK ∷ fixed S_OPEN ∷ variable_token x ∷ fixed S_CLOSE ∷ fixed W_IN ∷ r)

abbrev pub saying : State → List Lexeme → List Lexeme
saying (at_top ids) r = saying_around (around_start ids []) r
saying (at_top_c ids cds) r = saying_around (around_start ids cds) r
saying (at_iface_name ids) r = spelled_all spelled_id ids ++ (fixed W_INTERFACE ∷ r)
saying (at_iface_body ids i) r = saying_interface ids i r
saying (at_sigs ids i ms) r = saying_interface ids i (fixed S_BRACE ∷ (spelled_all spelled_msig ms ++ r))
saying (at_ext_1 ids i) r = saying_interface ids i (fixed W_EXTENDS ∷ r)
saying (at_ext_comma ids i a) r = saying_interface ids i (fixed W_EXTENDS ∷ name_token a ∷ r)
saying (at_ext_2 ids i a) r = saying_interface ids i (fixed W_EXTENDS ∷ name_token a ∷ fixed S_COMMA ∷ r)
saying (at_sig_open o m) r = saying_owner o (name_token m ∷ r)
saying (at_sig_param o m) r = saying_owner o (name_token m ∷ fixed S_OPEN ∷ r)
saying (at_sig_colon o m p) r = saying_owner o (name_token m ∷ fixed S_OPEN ∷ name_token p ∷ r)
saying (at_sig_type o m p) r = saying_owner o (name_token m ∷ fixed S_OPEN ∷ name_token p ∷ fixed S_COLON ∷ r)
saying (at_sig_close o m p t) r = saying_owner o (name_token m ∷ fixed S_OPEN ∷ name_token p ∷ fixed S_COLON ∷ type_token t ∷ r)
saying (at_sig_colon2 o m p t) r =
    saying_owner o (name_token m ∷ fixed S_OPEN ∷ name_token p ∷ fixed S_COLON ∷ type_token t ∷ fixed S_CLOSE ∷ r)
saying (at_sig_result o m p t) r =
    saying_owner o (name_token m ∷ fixed S_OPEN ∷ name_token p ∷ fixed S_COLON ∷ type_token t ∷ fixed S_CLOSE ∷ fixed S_COLON ∷ r)
saying (at_class_name ids cds) r = saying_all ids cds (fixed W_CLASS ∷ r)
saying (at_class_impl ids cds c) r = saying_all ids cds (fixed W_CLASS ∷ name_token c ∷ r)
saying (at_class_type ids cds c) r = saying_all ids cds (fixed W_CLASS ∷ name_token c ∷ fixed W_IMPLEMENTS ∷ r)
saying (at_class_open ids cds c i) r = saying_all ids cds (fixed W_CLASS ∷ name_token c ∷ fixed W_IMPLEMENTS ∷ name_token i ∷ r)
saying (at_fields h) r = saying_fields h r
saying (at_field_colon h f) r = saying_fields h (name_token f ∷ r)
saying (at_field_type h f) r = saying_fields h (name_token f ∷ fixed S_COLON ∷ r)
saying (at_methods h mds) r = saying_methods h mds r
saying (at_def_name h mds) r = saying_methods h mds (fixed W_DEF ∷ r)
saying (at_def_brace h mds s) r = saying_methods h mds (fixed W_DEF ∷ (spelled_msig s ++ r))
saying (at_expr K) r = saying_around K r
saying (at_ended e K) r = saying_around K (spelled e ++ r)
saying (at_variable x K) r = saying_around K (variable_token x ∷ r)
saying (at_dot x K) r = saying_around K (variable_token x ∷ fixed S_DOT ∷ r)
saying (at_plus x K) r = saying_around K (variable_token x ∷ fixed S_PLUS ∷ r)
saying (at_member x f K) r = saying_around K (variable_token x ∷ fixed S_DOT ∷ name_token f ∷ r)
saying (at_paren K) r = saying_around K (fixed S_OPEN ∷ r)
saying (at_paren_plus K) r = saying_around K (fixed S_OPEN ∷ fixed W_THIS ∷ r)
saying (at_inside c K) r = saying_around K (fixed S_OPEN ∷ name_token c ∷ r)
saying (at_cast_close t K) r = saying_around K (fixed S_OPEN ∷ type_token t ∷ r)
saying (at_plus_in x K) r = saying_around K (fixed S_OPEN ∷ variable_token x ∷ fixed S_PLUS ∷ r)
saying (at_sum_close x y K) r = saying_around K (fixed S_OPEN ∷ variable_token x ∷ fixed S_PLUS ∷ variable_token y ∷ r)
saying (at_let_name K) r = saying_around K (fixed W_LET ∷ r)
saying (at_let_eq y K) r = saying_around K (fixed W_LET ∷ name_token y ∷ r)
saying (at_new_name K) r = saying_around K (fixed W_NEW ∷ r)
saying (at_minus K) r = saying_around K (fixed S_MINUS ∷ r)
saying (at_fork_brace K) r = saying_around K (fixed W_FINISH ∷ r)
saying (at_fork_async K) r = saying_around K (fixed W_FINISH ∷ fixed S_BRACE ∷ r)
saying (at_fork_open K) r = saying_around K (fixed W_FINISH ∷ fixed S_BRACE ∷ fixed W_ASYNC ∷ r)
saying (at_second_async e₁ K) r = saying_around K (saying_first (spelled e₁ ++ (fixed S_UNBRACE ∷ r)))
saying (at_second_open e₁ K) r = saying_around K (saying_first (spelled e₁ ++ (fixed S_UNBRACE ∷ fixed W_ASYNC ∷ r)))
saying (at_second_shut e₁ e₂ K) r = saying_around K (saying_second e₁ (spelled e₂ ++ (fixed S_UNBRACE ∷ r)))
saying (at_fork_semi e₁ e₂ K) r = saying_around K (saying_second e₁ (spelled e₂ ++ (fixed S_UNBRACE ∷ fixed S_UNBRACE ∷ r)))
saying (at_lock_open K) r = saying_around K (fixed W_LOCK ∷ r)
saying (at_lock_var K) r = saying_around K (fixed W_LOCK ∷ fixed S_OPEN ∷ r)
saying (at_lock_close x K) r = saying_around K (fixed W_LOCK ∷ fixed S_OPEN ∷ variable_token x ∷ r)
saying (at_lock_in x K) r = saying_around K (fixed W_LOCK ∷ fixed S_OPEN ∷ variable_token x ∷ fixed S_CLOSE ∷ r)

-- A token that is shifted is not the end and is appended; one that is accepted is the end, behind a text that the derivation spells.
abbrev pub Says : (List Lexeme → List Lexeme) → Lexeme → Shifted → Type 0
Says said t stuck = Unit {0}
Says said t (goes s) = (is_fixed TEXT_END t ≡ false) × ((r : List Lexeme) → saying s r ≡ said (t ∷ r))
Says said t (accepts d) = (t ≡ fixed TEXT_END) × ((r : List Lexeme) → spelled_text d ++ r ≡ said r)

-- Each of some ways says so.
abbrev EachSays : (List Lexeme → List Lexeme) → List Way → Type 0
EachSays said ws = Every (OfWay (Says said)) ws

-- One more of a kind.
pub one_more : {A : Type 0} (f : A → List Lexeme) (l : List A) (a : A) (r : List Lexeme) → spelled_all f (l ++ (a ∷ [])) ++ r ≡ spelled_all f l ++ (f a ++ r)
unfolding spelled_all
one_more f [] a r = append_assoc (f a) [] r
one_more f (b ∷ l) a r = rw (append_assoc (f b) (spelled_all f (l ++ (a ∷ []))) r, one_more f l a r, append_assoc (f b) (spelled_all f l) (f a ++ r))

types_say : (said : List Lexeme → List Lexeme) (f : T → State) → ((t : T) (r : List Lexeme) → saying (f t) r ≡ said (type_token t ∷ r)) → EachSays said (types f)
types_say said f h = ((refl, h t_unit), ((refl, h t_int), (λ c. (refl, h (t_name c)), tt)))

begins_say : (K : Around) → EachSays (saying_around K) (expression_ways K)
unfolding spelled
begins_say K = search tt depth 20

closes_say : (K : Around) (e : E) → EachSays (λ r. saying_around K (spelled e ++ r)) (closes K e)
unfolding closes saying_around spelled spelled_text spelled_md
closes_say (around_start ids cds) e = search (tt, append_assoc)
closes_say (in_body h mds s) e = search (tt, append_assoc, one_more)
closes_say (around_let y K) e = search tt
closes_say (argument x m K) e = search (tt, append_assoc)
closes_say (first_async K) e = search tt
closes_say (second_async e₁ K) e = search tt
closes_say (in_update x f K) e = closes_say K (e_update x f e)
closes_say (in_let y e₁ K) e = simp append_assoc at (closes_say K (e_let y e₁ e))
closes_say (in_cast t K) e = closes_say K (e_cast t e)
closes_say (in_fork e₁ e₂ K) e = simp append_assoc at (closes_say K (e_fork e₁ e₂ e))
closes_say (in_lock x K) e = closes_say K (e_lock x e)

pub signed_says : (o : Owner) (s : Msig) (r : List Lexeme) → saying (signed o s) r ≡ saying_owner o (spelled_msig s ++ r)
signed_says (of_interface ids i ms) s r = rw (one_more spelled_msig ms s r)
signed_says (of_class h mds) s r = refl

ways_say : (s : State) → EachSays (saying s) (ways s)
unfolding saying_around spelled spelled_all spelled_msig spelled_id spelled_fd spelled_cd
ways_say (at_top ids) = search begins_say
ways_say (at_top_c ids cds) = search begins_say
ways_say (at_iface_name ids) = search tt
ways_say (at_iface_body ids i) = search tt
ways_say (at_sigs ids i ms) = search (tt, append_assoc, one_more)
ways_say (at_ext_1 ids i) = search tt
ways_say (at_ext_comma ids i a) = search tt
ways_say (at_ext_2 ids i a) = search (tt, one_more)
ways_say (at_sig_open o m) = search tt
ways_say (at_sig_param o m) = search tt
ways_say (at_sig_colon o m p) = search tt
ways_say (at_sig_type o m p) = search (types_say)
ways_say (at_sig_close o m p t) = search tt
ways_say (at_sig_colon2 o m p t) = search tt
ways_say (at_sig_result o m p t) = search (types_say, signed_says)
ways_say (at_class_name ids cds) = search tt
ways_say (at_class_impl ids cds c) = search tt
ways_say (at_class_type ids cds c) = search tt
ways_say (at_class_open ids cds c i) = search tt
ways_say (at_fields h) = search (tt, append_assoc, one_more)
ways_say (at_field_colon h f) = search tt
ways_say (at_field_type h f) = search (types_say, one_more)
ways_say (at_methods h mds) = search (tt, append_assoc, one_more)
ways_say (at_def_name h mds) = search tt
ways_say (at_def_brace h mds s) = search tt
ways_say (at_expr K) = begins_say K
ways_say (at_ended e K) = closes_say K e
ways_say (at_variable x K) = search closes_say
ways_say (at_dot x K) = search tt
ways_say (at_plus x K) = search tt
ways_say (at_member x f K) = search closes_say
ways_say (at_paren K) = search tt
ways_say (at_paren_plus K) = search tt
ways_say (at_inside c K) = search tt
ways_say (at_cast_close t K) = search tt
ways_say (at_plus_in x K) = search tt
ways_say (at_sum_close x y K) = search tt
ways_say (at_let_name K) = search tt
ways_say (at_let_eq y K) = search tt
ways_say (at_new_name K) = search tt
ways_say (at_minus K) = search tt
ways_say (at_fork_brace K) = search tt
ways_say (at_fork_async K) = search tt
ways_say (at_fork_open K) = search tt
ways_say (at_second_async e₁ K) = search tt
ways_say (at_second_open e₁ K) = search tt
ways_say (at_second_shut e₁ e₂ K) = search tt
ways_say (at_fork_semi e₁ e₂ K) = search tt
ways_say (at_lock_open K) = search tt
ways_say (at_lock_var K) = search tt
ways_say (at_lock_close x K) = search tt
ways_say (at_lock_in x K) = search tt

-- (A)
pub shift_says : (s : State) (t : Lexeme) → Says (saying s) t (shift s t)
shift_says s t = chosen (Says (saying s)) t tt (ways s) (ways_say s)
