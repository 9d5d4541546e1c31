-- What each pass needs of the one before, and what its answer comes to.
use Prim.Native.Nat.{ℕ, ◌<◌, ◌≤◌}
use mathlib.Core.Path.{◌≡◌, refl, sym, ap, ◌∙◌}
use mathlib.Core.List.{List, map}
use mathlib.Core.Option.{none}
use native.Mathlib.Omega.{arith}
use lib.ListN.{length, get_or, take, length-append, length-map}
use Rattle.std.proofs.lemmas.List.{take_all}
use Rattle.grammar.specs.Tokens.{Spelling, Lexeme, Token, Spells, spells_word, spells_digits, spells_sign, Splits, splits_end, splits_blank, splits_token, tokens_of}
use Rattle.grammar.specs.Grammar.{spelled_text}
use Rattle.grammar.specs.Roles.{roles as exprRoles, roles_text, roles_before}
use Rattle.grammar.specs.Read.{TextRead, text_refused, token_place}
use Rattle.grammar.proofs.Splitting.{splits}
use Rattle.parsing.proofs.Written.{splits_written}
use Rattle.parsing.proofs.Place.{parsed_derived}
use Rattle.capacity.proofs.Roles.{text_spelled}
use Rattle.std.specs.Prelude.{Err}
use Rattle.ask_limits.specs.declared.refusal.ReadError.{ReadError}
use Rattle.ask_limits.specs.declared.refusal.ReadRefusal.{ReadRefusal}
use Rattle.ask_limits.specs.Reading.{ReadAs, number_of_error}
use Rattle.ask_limits.specs.Derived.{Derived}
use Rattle.ask_limits.proofs.Laws.{place_within}

-- A token has a byte or more.
spelling_some : {l : Lexeme} {w : Spelling} → Spells l w → 0 < length w
spelling_some (spells_word e a) = omega arith
spelling_some (spells_digits e a) = omega arith
spelling_some (spells_sign e) = omega arith

tokens_within : {n : ℕ} {s : List ℕ} {ts : List Token} → Splits n s ts → length ts ≤ length s
tokens_within splits_end = omega arith
tokens_within (splits_blank e r) = omega (arith, tokens_within r)
tokens_within (splits_token {s = s} w e f m r) = omega (arith, ap length e, length-append w s, spelling_some f, tokens_within r)

pub refusal_as : (error : ReadError) (place : ℕ) (file : List ℕ) (r : ReadRefusal) (t : TextRead) → r ≡ record { error = error; place = place } → t ≡ text_refused (number_of_error error) place file → ReadAs (Err r) file t
refusal_as error place file r t h e = rw (h, e) (record { number_is = refl; length_is = refl; place_is = refl; file_is = refl })

module _ {text roles offsets : List ℕ} {start : ℕ} (k : Derived text roles offsets start) where
  pub derives : spelled_text k.derivation ≡ map (λ t. t.lexeme) (tokens_of text)
  derives = parsed_derived (map (λ t. t.lexeme) (tokens_of text)) k.derivation (splits_written (splits 0 text)) k.is_derived

  pub offset_each : length offsets ≡ length roles
  offset_each =
      ap length k.offsets_are
      ∙ length-map (tokens_of text) (λ t. t.offset)
      ∙ sym (ap length k.roles_are ∙ text_spelled k.derivation ∙ ap length derives ∙ length-map (tokens_of text) (λ t. t.lexeme))

  pub all_tokens : length roles ≡ length (tokens_of text)
  all_tokens = sym offset_each ∙ ap length k.offsets_are ∙ length-map (tokens_of text) (λ t. t.offset)

  pub roles_taken : take (length roles) roles ≡ roles_text k.derivation
  roles_taken = take_all _ roles (omega arith) ∙ k.roles_are

  pub offsets_taken : take (length roles) offsets ≡ map (λ t. t.offset) (tokens_of text)
  offsets_taken = take_all _ offsets (omega (arith, offset_each)) ∙ k.offsets_are

  pub in_text : length roles ≤ length text
  in_text = omega (arith, tokens_within (splits 0 text), all_tokens)

  pub offset_place : (i : ℕ) → i < length roles → token_place text (tokens_of text) i ≡ get_or offsets i 0
  offset_place i h = place_within text (tokens_of text) i (omega (arith, h, all_tokens)) ∙ ap (λ (l : List ℕ). get_or l i 0) (sym k.offsets_are)

  -- The start does not come behind all tokens.
  pub before_first : start ≤ length (roles_text k.derivation)
  unfolding roles_text
  before_first = omega (arith, k.starts, length-append (roles_before k.derivation) (exprRoles none k.derivation.start))
