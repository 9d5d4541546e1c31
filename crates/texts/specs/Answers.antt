-- What Read answers, as plain statements to be held against request 4. They say nothing of the reader: a text's tokens are what `Splits` says, and the grammar
-- is `Derives`.
use Rattle.std.specs.Prelude.{ℕ, ◌≤◌, ◌≡◌, List, map, length, take}
use Rattle.std.proofs.Math.Option.{none, some}
use Rattle.limits.specs.Limits.{FILE, TEXT}
use Rattle.script.specs.Asking.{Each}
use Rattle.script.specs.Statements.{LengthIs, CountsAre, PlacesAre, OwnersAre, NodesAre}
use Rattle.grammar.specs.Tokens.{Lexeme, Token, Splits}
use Rattle.grammar.specs.Grammar.{Derivation, Derives, FirstMisfit}
use Rattle.grammar.specs.Faults.{marked_text, declaration_fault, limit_fault}
use Rattle.grammar.specs.Read.{TextRead, NO_GRAMMAR, NO_DECLARATION, NO_ROOM, text_refused, file_read, token_place, read_of}

-- Neither "the text is above 65,536 bytes" nor "the buffer for the file is not 13,592".
pub record InLength (text b : List ℕ) : Type 0 where
  pub short : length text ≤ TEXT
  pub whole : length b ≡ FILE

-- A text's tokens as the grammar sees them.
abbrev pub lexemes : List Token → List Lexeme
lexemes ts = map (λ t. t.lexeme) ts

pub data ReadAnswers (text b : List ℕ) (ts : List Token) : TextRead → Type 0 where
  -- "both asked first, place 0"
  by_lengths : (InLength text b → ⊥) → ReadAnswers text b ts (text_refused NO_ROOM 0 b)
  -- "34 the token at the place, or the text's end, fits no legal continuation"
  by_grammar : InLength text b → (i : ℕ) → FirstMisfit (lexemes ts) i → ReadAnswers text b ts (text_refused NO_GRAMMAR (token_place text ts i) b)
  -- "35, after 34, a type name is declared nowhere or again"
  by_declaration :
      InLength text b
      → (d : Derivation)
      → Derives d ts
      → (i : ℕ)
      → declaration_fault (marked_text d) ≡ some i
      → ReadAnswers text b ts (text_refused NO_DECLARATION (token_place text ts i) b)
  -- "after 35, a table limit or the range of Int is passed"
  by_limit :
      InLength text b
      → (d : Derivation)
      → Derives d ts
      → declaration_fault (marked_text d) ≡ none
      → (i : ℕ)
      → limit_fault (marked_text d) ≡ some i
      → ReadAnswers text b ts (text_refused NO_ROOM (token_place text ts i) b)
  -- "and the file is that derivation's"
  was_read :
      InLength text b
      → (d : Derivation)
      → Derives d ts
      → declaration_fault (marked_text d) ≡ none
      → limit_fault (marked_text d) ≡ none
      → ReadAnswers text b ts (file_read d)

-- "the grammar derives it"
pub record Legal (ts : List Token) : Type 0 where
  pub derivation : Derivation
  pub derives : Derives derivation ts

-- A file that was read gets a yes to questions 1, 2, 3, 5 and 7.
pub record FileStands (s : List ℕ) : Type 0 where
  pub one : LengthIs s
  pub two : CountsAre s
  pub three : PlacesAre s
  pub five : OwnersAre s
  pub seven : Each s (NodesAre s)

-- The promise of Read, for every text, of any bytes and length, and every buffer.
pub record ReadPromise (text b : List ℕ) : Type 0 where
  -- "each the longest there": there is one way to split it
  pub tokens : List Token
  pub split : Splits 0 text tokens
  pub split_once : (ts : List Token) → Splits 0 text ts → ts ≡ tokens
  -- what Read answers, and that nothing else answers so
  pub answers : ReadAnswers text b tokens (read_of text b)
  pub one_answer : (r : TextRead) → ReadAnswers text b tokens r → r ≡ read_of text b
  -- "Text free of errors 35 and 36 is read exactly if the grammar derives it, by one derivation, and the file is that derivation's."
  pub one_derivation : (d e : Derivation) → Derives d tokens → Derives e tokens → d ≡ e
  pub legal_read :
      (d : Derivation)
      → Derives d tokens
      → ((read_of text b).number ≡ NO_DECLARATION → ⊥)
      → ((read_of text b).number ≡ NO_ROOM → ⊥)
      → read_of text b ≡ file_read d
  pub read_legal : (read_of text b).number ≡ 0 → Legal tokens
  -- "changes no lent byte"
  pub still : ((read_of text b).number ≡ 0 → ⊥) → ((read_of text b).buffer ≡ b) × ((read_of text b).length ≡ 0)
  pub whole : length (read_of text b).buffer ≡ length b
  pub stands : (read_of text b).number ≡ 0 → FileStands (take (read_of text b).length (read_of text b).buffer)
