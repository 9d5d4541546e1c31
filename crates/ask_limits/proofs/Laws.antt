-- What each pass finds is what Read answers.
use Prim.Native.Nat.{ℕ, zero, suc, ◌≤◌, ◌<◌}
use mathlib.Core.Path.{◌≡◌, refl, ap, ◌∙◌}
use mathlib.Core.Bool.{false, ◌&&◌}
use mathlib.Core.List.{List, [], ◌∷◌, map}
use mathlib.Core.Option.{none, some}
use native.Mathlib.Omega.{arith}
use lib.Dec.{eqb, leb}
use lib.ListN.{length, get_or}
use borrow.Author.Tests.{eq-eqb, le-leb}
use Rattle.limits.specs.Limits.{FILE, TEXT}
use Rattle.grammar.specs.Tokens.{Token, tokens_of}
use Rattle.grammar.specs.Grammar.{Derivation}
use Rattle.grammar.specs.Parse.{refused_at, derived, parsed}
use Rattle.grammar.specs.Faults.{marked_text, declaration_fault, limit_fault}
use Rattle.grammar.specs.Read.{NO_GRAMMAR, NO_DECLARATION, NO_ROOM, text_refused, file_read, token_place, asked_limits, asked_declarations, asked_grammar, read_of}

-- A token's place is its offset.
pub place_at_lem : (text : List ℕ) (ts : List Token) (i : ℕ) → token_place text ts i ≡ get_or (map (λ t. t.offset) ts) i (length text)
unfolding token_place
place_at_lem text [] i = refl
place_at_lem text (t ∷ ts) zero = refl
place_at_lem text (t ∷ ts) (suc i) = place_at_lem text ts i

pub place_within : (text : List ℕ) (ts : List Token) (i : ℕ) → i < length ts → token_place text ts i ≡ get_or (map (λ t. t.offset) ts) i 0
unfolding token_place
place_within text [] i h = absurd (omega (arith, h))
place_within text (t ∷ ts) zero h = refl
place_within text (t ∷ ts) (suc i) h = place_within text ts i (omega (arith, h))

module _ (text b : List ℕ) where
  -- The two lengths come first.
  pub read_lengths : (leb (length text) TEXT && eqb (length b) FILE ≡ false) → read_of text b ≡ text_refused NO_ROOM 0 b
  unfolding read_of
  read_lengths h = rw h refl

  reads : length text ≤ TEXT → length b ≡ FILE → read_of text b ≡ asked_grammar text (tokens_of text) b (parsed (map (λ t. t.lexeme) (tokens_of text)))
  unfolding read_of
  reads h g = rw (le-leb (length text) TEXT h, eq-eqb (length b) FILE g) refl

  module _ (short : length text ≤ TEXT) (whole : length b ≡ FILE) where
    pub read_stuck : (k : ℕ) → parsed (map (λ t. t.lexeme) (tokens_of text)) ≡ refused_at k → read_of text b ≡ text_refused NO_GRAMMAR (token_place text (tokens_of text) k) b
    read_stuck k h = reads short whole ∙ ap (asked_grammar text (tokens_of text) b) h

    module _ (d : Derivation) (derives : parsed (map (λ t. t.lexeme) (tokens_of text)) ≡ derived d) where
      read_derived : read_of text b ≡ asked_declarations text (tokens_of text) b d (declaration_fault (marked_text d))
      read_derived = reads short whole ∙ ap (asked_grammar text (tokens_of text) b) derives

      pub read_undeclared : (i : ℕ) → declaration_fault (marked_text d) ≡ some i → read_of text b ≡ text_refused NO_DECLARATION (token_place text (tokens_of text) i) b
      read_undeclared i h = read_derived ∙ ap (asked_declarations text (tokens_of text) b d) h

      pub read_beyond : declaration_fault (marked_text d) ≡ none → (i : ℕ) → limit_fault (marked_text d) ≡ some i → read_of text b ≡ text_refused NO_ROOM (token_place text (tokens_of text) i) b
      read_beyond h i g = read_derived ∙ ap (asked_declarations text (tokens_of text) b d) h ∙ ap (asked_limits text (tokens_of text) b d) g

      pub read_whole : declaration_fault (marked_text d) ≡ none → limit_fault (marked_text d) ≡ none → read_of text b ≡ file_read d
      read_whole h g = read_derived ∙ ap (asked_declarations text (tokens_of text) b d) h ∙ ap (asked_limits text (tokens_of text) b d) g
