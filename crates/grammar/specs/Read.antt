-- Read on byte lists: its reply's numbers, and the buffer for the file afterwards, for all inputs. The text is lent to be read only.
use Rattle.std.specs.Prelude.{ℕ, zero, suc, ◌-◌, Bool, true, false, ◌&&◌, List, [], ◌∷◌, ◌++◌, map, eqb, leb, length, replicate}
use Rattle.std.proofs.Math.Option.{Option, none, some}
use Rattle.limits.specs.Limits.{FILE, TEXT}
use Rattle.grammar.specs.Tokens.{Token, tokens_of}
use Rattle.grammar.specs.Grammar.{Derivation}
use Rattle.grammar.specs.Parse.{Verdict, refused_at, derived, parsed}
use Rattle.grammar.specs.Files.{file_text}
use Rattle.grammar.specs.Faults.{marked_text, declaration_fault, limit_fault}

-- The reply, and the buffer.
pub record TextRead : Type 0 where
  pub number : ℕ
  pub place : ℕ
  pub length : ℕ
  pub buffer : List ℕ

-- "Errors: 34", "35, after 34", "36".
abbrev pub NO_GRAMMAR : ℕ
NO_GRAMMAR = 34

abbrev pub NO_DECLARATION : ℕ
NO_DECLARATION = 35

abbrev pub NO_ROOM : ℕ
NO_ROOM = 36

-- "A refusal returns its number and place, with every other number 0, and lent buffers unchanged."
abbrev pub text_refused : ℕ → ℕ → List ℕ → TextRead
text_refused n place b = record { number = n; place = place; length = 0; buffer = b }

-- "producing the script file and its length", "the buffer's rest is 0".
abbrev pub file_read : Derivation → TextRead
file_read d = let f = file_text d in record { number = 0; place = 0; length = length f; buffer = f ++ replicate (FILE - length f) 0 }

-- "the place is the first faulty token's offset", and that of the text's end its length.
unfoldable pub token_place : List ℕ → List Token → ℕ → ℕ
token_place text [] i = length text
token_place text (t ∷ ts) zero = t.offset
token_place text (t ∷ ts) (suc i) = token_place text ts i

-- The text of one derivation: "35, after 34", and "after 35" 36.
abbrev pub asked_limits : List ℕ → List Token → List ℕ → Derivation → Option ℕ → TextRead
asked_limits text ts b d none = file_read d
asked_limits text ts b d (some i) = text_refused NO_ROOM (token_place text ts i) b

abbrev pub asked_declarations : List ℕ → List Token → List ℕ → Derivation → Option ℕ → TextRead
asked_declarations text ts b d none = asked_limits text ts b d (limit_fault (marked_text d))
asked_declarations text ts b d (some i) = text_refused NO_DECLARATION (token_place text ts i) b

abbrev pub asked_grammar : List ℕ → List Token → List ℕ → Verdict → TextRead
asked_grammar text ts b (refused_at i) = text_refused NO_GRAMMAR (token_place text ts i) b
asked_grammar text ts b (derived d) = asked_declarations text ts b d (declaration_fault (marked_text d))

-- "the text is above 65,536 bytes or the buffer for the file is not 13,592 (both asked first, place 0)"
abbrev pub asked_lengths : Bool → List ℕ → List ℕ → TextRead
asked_lengths true text b = let ts = tokens_of text in asked_grammar text ts b (parsed (map (λ t. t.lexeme) ts))
asked_lengths false text b = text_refused NO_ROOM 0 b

unfoldable pub read_of : List ℕ → List ℕ → TextRead
read_of text b = asked_lengths (leb (length text) TEXT && eqb (length b) FILE) text b
