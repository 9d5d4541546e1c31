-- (C) Every state can be completed to a text.
use Prim.Native.Nat.{ℕ}
use mathlib.Core.Path.{◌≡◌, ap, ◌∙◌}
use mathlib.Core.List.{List, [], ◌∷◌, ◌++◌, append_assoc, append-nil}
use lib.ListN.{drop}
use Rattle.script.specs.Questions.{all_of}
use Rattle.grammar.specs.Tokens.{Spelling, Lexeme, fixed, W_IN, W_ASYNC, W_NULL, W_UNIT, S_BRACE, S_UNBRACE, S_CLOSE, S_COLON, S_SEMICOLON}
use Rattle.grammar.specs.Tokens.{fixed_words, fixed_signs, fixed_or, same_spelling}
use Rattle.grammar.specs.Grammar.{x_this, T, t_unit, t_name, Msig, spelled_msig, spelled_all, Id, id_list, id_join, spelled_id, spelled_fd, Md}
use Rattle.grammar.specs.Grammar.{spelled_md, Cd, spelled_cd, Derivation, spelled_text, E, e_null, e_variable, e_select, e_update, e_call, e_let, e_new}
use Rattle.grammar.specs.Grammar.{e_cast, e_fork, e_lock, e_minus, e_sum, e_sum_in, spelled}
use Rattle.grammar.specs.Parse.{Heading, Around, around_start, in_body, around_let, argument, first_async, second_async, in_update, in_let, in_cast}
use Rattle.grammar.specs.Parse.{in_fork, in_lock, Owner, of_interface, of_class, State, at_top, at_top_c, at_iface_name, at_iface_body, at_sigs}
use Rattle.grammar.specs.Parse.{at_ext_1, at_ext_comma, at_ext_2, at_sig_open, at_sig_param, at_sig_colon, at_sig_type, at_sig_close, at_sig_colon2}
use Rattle.grammar.specs.Parse.{at_sig_result, at_class_name, at_class_impl, at_class_type, at_class_open, at_fields, at_field_colon, at_field_type}
use Rattle.grammar.specs.Parse.{at_methods, at_def_name, at_def_brace, at_expr, at_ended, at_variable, at_dot, at_plus, at_member, at_paren}
use Rattle.grammar.specs.Parse.{at_paren_plus, at_inside, at_cast_close, at_plus_in, at_sum_close, at_let_name, at_let_eq, at_new_name, at_minus}
use Rattle.grammar.specs.Parse.{at_fork_brace, at_fork_async, at_fork_open, at_second_async, at_second_open, at_second_shut, at_fork_semi}
use Rattle.grammar.specs.Parse.{at_lock_open, at_lock_var, at_lock_close, at_lock_in, signed, field_added, class_of}
use Rattle.parsing.proofs.Said.{saying, saying_around, saying_owner, one_more, signed_says}
use Rattle.parsing.proofs.Written.{Spellable, Written, every_append, letters_of, spellable, some_name, some_digits}

-- Tokens that make a text of what a state has read.
pub record Completed (s : State) : Type 0 where
  pub rest : List Lexeme
  pub derivation : Derivation
  pub written : Written rest
  pub spells : spelled_text derivation ≡ saying s rest

-- By some tokens that lead to another state.
by : {s u : State} (w : List Lexeme) → ((r : List Lexeme) → saying u r ≡ saying s (w ++ r)) × Written w → Completed u → Completed s
by w f c =
    record {
      rest = w ++ c.rest;
      derivation = c.derivation;
      written = every_append Spellable w c.rest f.1 c.written;
      spells = c.spells ∙ f.0 c.rest;
    }

started : (ids : List Id) (cds : List Cd) (e : E) → Completed (at_ended e (around_start ids cds))
unfolding saying_around spelled_text
started ids cds e = record { rest = []; derivation = record { ids = ids; cds = cds; start = e }; written = tt; spells = rw (append-nil (spelled e)) }

null_start : (ids : List Id) (cds : List Cd) → Completed (at_top_c ids cds)
unfolding spelled letters_of fixed_words fixed_signs fixed_or same_spelling all_of
null_start ids cds = by (fixed W_NULL ∷ []) (search spellable) (started ids cds e_null)

closed_interface : (ids : List Id) (i : Spelling) (ms : List Msig) → Completed (at_sigs ids i ms)
unfolding saying_around spelled_all spelled_id letters_of fixed_words fixed_signs fixed_or same_spelling all_of
closed_interface ids i ms = by (fixed S_UNBRACE ∷ []) (search (spellable, append_assoc, one_more)) (null_start (ids ++ (id_list i ms ∷ [])) [])

closed_class : (h : Heading) (mds : List Md) → Completed (at_methods h mds)
unfolding saying_around spelled_cd letters_of fixed_words fixed_signs fixed_or same_spelling all_of
closed_class h mds = by (fixed S_UNBRACE ∷ []) (search (spellable, append_assoc, one_more)) (null_start h.ids (h.cds ++ (class_of h mds ∷ [])))

signed_completed : (o : Owner) (s : Msig) → Completed (signed o s)
unfolding spelled spelled_md letters_of fixed_words fixed_signs fixed_or same_spelling all_of
signed_completed (of_interface ids i ms) s = closed_interface ids i (ms ++ (s ∷ []))
signed_completed (of_class h mds) s =
    by (fixed S_BRACE ∷ fixed W_NULL ∷ fixed S_UNBRACE ∷ []) (search (spellable, append_assoc, one_more)) (closed_class h (mds ++ (record { msig = s; body = e_null } ∷ [])))

-- The rest of a fork whose second async is null, and so is what comes behind it.
abbrev second_rest : List Lexeme
second_rest = fixed W_NULL ∷ fixed S_UNBRACE ∷ fixed S_UNBRACE ∷ fixed S_SEMICOLON ∷ fixed W_NULL ∷ []

-- An expression has ended.
closed : (K : Around) (e : E) → Completed (at_ended e K)
unfolding saying_around spelled spelled_md letters_of fixed_words fixed_signs fixed_or same_spelling all_of
closed (around_start ids cds) e = started ids cds e
closed (in_body h mds s) e = by (fixed S_UNBRACE ∷ []) (search (spellable, append_assoc, one_more)) (closed_class h (mds ++ (record { msig = s; body = e } ∷ [])))
closed (around_let y K) e = by (fixed W_IN ∷ fixed W_NULL ∷ []) (search (spellable, append_assoc)) (closed K (e_let y e e_null))
closed (argument x m K) e = by (fixed S_CLOSE ∷ []) (search (spellable, append_assoc)) (closed K (e_call x m e))
closed (first_async K) e = by (fixed S_UNBRACE ∷ fixed W_ASYNC ∷ fixed S_BRACE ∷ second_rest) (search (spellable, append_assoc) depth 20) (closed K (e_fork e e_null e_null))
closed (second_async e₁ K) e =
    by (fixed S_UNBRACE ∷ fixed S_UNBRACE ∷ fixed S_SEMICOLON ∷ fixed W_NULL ∷ []) (search (spellable, append_assoc)) (closed K (e_fork e₁ e e_null))
closed (in_update x f K) e = by [] (search spellable) (closed K (e_update x f e))
closed (in_let y e₁ K) e = by [] (search (spellable, append_assoc)) (closed K (e_let y e₁ e))
closed (in_cast t K) e = by [] (search spellable) (closed K (e_cast t e))
closed (in_fork e₁ e₂ K) e = by [] (search (spellable, append_assoc)) (closed K (e_fork e₁ e₂ e))
closed (in_lock x K) e = by [] (search spellable) (closed K (e_lock x e))

-- Of what is being read k tokens have been.
in_interface :
    {s : State} (ids : List Id) (i : Id) (k : ℕ)
    → ((r : List Lexeme) → spelled_all spelled_id ids ++ (spelled_id i ++ r) ≡ saying s (drop k (spelled_id i) ++ r)) × Written (drop k (spelled_id i))
    → Completed s
unfolding saying_around spelled_all
in_interface ids i k f = by (drop k (spelled_id i)) (λ r. one_more spelled_id ids i r ∙ f.0 r, f.1) (null_start (ids ++ (i ∷ [])) [])

in_class :
    {s : State} (ids : List Id) (cds : List Cd) (c : Cd) (k : ℕ)
    → ((r : List Lexeme) → saying_around (around_start ids cds) (spelled_cd c ++ r) ≡ saying s (drop k (spelled_cd c) ++ r)) × Written (drop k (spelled_cd c))
    → Completed s
unfolding saying_around
in_class ids cds c k f =
    by (drop k (spelled_cd c)) (λ r. ap (λ u. spelled_all spelled_id ids ++ u) (one_more spelled_cd cds c r) ∙ f.0 r, f.1) (null_start ids (cds ++ (c ∷ [])))

in_signature :
    {u : State} (o : Owner) (s : Msig) (k : ℕ)
    → ((r : List Lexeme) → saying_owner o (spelled_msig s ++ r) ≡ saying u (drop k (spelled_msig s) ++ r)) × Written (drop k (spelled_msig s))
    → Completed u
in_signature o s k f = by (drop k (spelled_msig s)) (λ r. signed_says o s r ∙ f.0 r, f.1) (signed_completed o s)

in_expression :
    {s : State} (K : Around) (e : E) (k : ℕ)
    → ((r : List Lexeme) → saying_around K (spelled e ++ r) ≡ saying s (drop k (spelled e) ++ r)) × Written (drop k (spelled e))
    → Completed s
in_expression K e k f = by (drop k (spelled e)) f (closed K e)

-- A signature and a class of which the rest is least.
abbrev least_msig : Spelling → Spelling → T → Msig
least_msig m p t = record { method = m; parameter = p; takes = t; gives = t_unit }

abbrev least_cd : Spelling → Spelling → Cd
least_cd c i = record { class = c; implements = i; fds = []; mds = [] }

-- (C)
pub completed : (s : State) → Completed s
unfolding saying_around spelled spelled_all spelled_msig spelled_id spelled_fd spelled_cd letters_of fixed_words fixed_signs fixed_or same_spelling all_of
completed (at_top ids) = by [] (search spellable) (null_start ids [])
completed (at_top_c ids cds) = null_start ids cds
completed (at_iface_name ids) = in_interface ids (id_join some_name some_name some_name) 1 (search spellable depth 20)
completed (at_iface_body ids i) = in_interface ids (id_join i some_name some_name) 2 (search spellable depth 20)
completed (at_sigs ids i ms) = closed_interface ids i ms
completed (at_ext_1 ids i) = in_interface ids (id_join i some_name some_name) 3 (search spellable depth 20)
completed (at_ext_comma ids i a) = in_interface ids (id_join i a some_name) 4 (search spellable depth 20)
completed (at_ext_2 ids i a) = in_interface ids (id_join i a some_name) 5 (search spellable depth 20)
completed (at_sig_open o m) = in_signature o (least_msig m some_name t_unit) 1 (search spellable depth 20)
completed (at_sig_param o m) = in_signature o (least_msig m some_name t_unit) 2 (search spellable depth 20)
completed (at_sig_colon o m p) = in_signature o (least_msig m p t_unit) 3 (search spellable depth 20)
completed (at_sig_type o m p) = in_signature o (least_msig m p t_unit) 4 (search spellable depth 20)
completed (at_sig_close o m p t) = in_signature o (least_msig m p t) 5 (search spellable depth 20)
completed (at_sig_colon2 o m p t) = in_signature o (least_msig m p t) 6 (search spellable depth 20)
completed (at_sig_result o m p t) = in_signature o (least_msig m p t) 7 (search spellable depth 20)
completed (at_class_name ids cds) = in_class ids cds (least_cd some_name some_name) 1 (search spellable depth 20)
completed (at_class_impl ids cds c) = in_class ids cds (least_cd c some_name) 2 (search spellable depth 20)
completed (at_class_type ids cds c) = in_class ids cds (least_cd c some_name) 3 (search spellable depth 20)
completed (at_class_open ids cds c i) = in_class ids cds (least_cd c i) 4 (search spellable depth 20)
completed (at_fields h) = by [] (search spellable) (closed_class h [])
completed (at_field_colon h f) = by (fixed S_COLON ∷ fixed W_UNIT ∷ []) (search (spellable, one_more)) (closed_class (field_added h (record { field = f; holds = t_unit })) [])
completed (at_field_type h f) = by (fixed W_UNIT ∷ []) (search (spellable, one_more)) (closed_class (field_added h (record { field = f; holds = t_unit })) [])
completed (at_methods h mds) = closed_class h mds
completed (at_def_name h mds) = in_signature (of_class h mds) (least_msig some_name some_name t_unit) 0 (search spellable depth 20)
completed (at_def_brace h mds s) = signed_completed (of_class h mds) s
completed (at_expr K) = in_expression K e_null 0 (search spellable depth 20)
completed (at_ended e K) = closed K e
completed (at_variable x K) = in_expression K (e_variable x) 1 (search spellable depth 20)
completed (at_dot x K) = in_expression K (e_select x some_name) 2 (search spellable depth 20)
completed (at_plus x K) = in_expression K (e_sum x x_this) 2 (search spellable depth 20)
completed (at_member x f K) = in_expression K (e_select x f) 3 (search spellable depth 20)
completed (at_paren K) = in_expression K (e_cast t_unit e_null) 1 (search spellable depth 20)
completed (at_paren_plus K) = in_expression K (e_sum_in x_this x_this) 2 (search spellable depth 20)
completed (at_inside c K) = in_expression K (e_cast (t_name c) e_null) 2 (search spellable depth 20)
completed (at_cast_close t K) = in_expression K (e_cast t e_null) 2 (search spellable depth 20)
completed (at_plus_in x K) = in_expression K (e_sum_in x x_this) 3 (search spellable depth 20)
completed (at_sum_close x y K) = in_expression K (e_sum_in x y) 4 (search spellable depth 20)
completed (at_let_name K) = in_expression K (e_let some_name e_null e_null) 1 (search spellable depth 20)
completed (at_let_eq y K) = in_expression K (e_let y e_null e_null) 2 (search spellable depth 20)
completed (at_new_name K) = in_expression K (e_new some_name) 1 (search spellable depth 20)
completed (at_minus K) = in_expression K (e_minus some_digits) 1 (search spellable depth 20)
completed (at_fork_brace K) = in_expression K (e_fork e_null e_null e_null) 1 (search spellable depth 20)
completed (at_fork_async K) = in_expression K (e_fork e_null e_null e_null) 2 (search spellable depth 20)
completed (at_fork_open K) = in_expression K (e_fork e_null e_null e_null) 3 (search spellable depth 20)
completed (at_second_async e₁ K) = by (fixed W_ASYNC ∷ fixed S_BRACE ∷ second_rest) (search (spellable, append_assoc) depth 20) (closed K (e_fork e₁ e_null e_null))
completed (at_second_open e₁ K) = by (fixed S_BRACE ∷ second_rest) (search (spellable, append_assoc) depth 20) (closed K (e_fork e₁ e_null e_null))
completed (at_second_shut e₁ e₂ K) = by (fixed S_UNBRACE ∷ fixed S_SEMICOLON ∷ fixed W_NULL ∷ []) (search (spellable, append_assoc) depth 20) (closed K (e_fork e₁ e₂ e_null))
completed (at_fork_semi e₁ e₂ K) = by (fixed S_SEMICOLON ∷ fixed W_NULL ∷ []) (search (spellable, append_assoc) depth 20) (closed K (e_fork e₁ e₂ e_null))
completed (at_lock_open K) = in_expression K (e_lock x_this e_null) 1 (search spellable depth 20)
completed (at_lock_var K) = in_expression K (e_lock x_this e_null) 2 (search spellable depth 20)
completed (at_lock_close x K) = in_expression K (e_lock x e_null) 3 (search spellable depth 20)
completed (at_lock_in x K) = in_expression K (e_lock x e_null) 4 (search spellable depth 20)
