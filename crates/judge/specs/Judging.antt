-- What judging a text gives: the verdict of the parser, and for a text that is derived each token's role and offset.
use Rattle.std.specs.Prelude.{ℕ, ◌≤◌, ◌≡◌, List, ◌++◌, map, length, drop, get_or, Result, MatchResult}
use Rattle.limits.specs.Limits.{TEXT}
use Rattle.grammar.specs.Tokens.{Lexeme, tokens_of}
use Rattle.grammar.specs.Grammar.{Derivation}
use Rattle.grammar.specs.Parse.{Verdict, refused_at, derived, parsed}
use Rattle.grammar.specs.Roles.{roles_text, roles_before}
use Rattle.judge.specs.declared.Accepted.{Accepted}
use Rattle.judge.specs.declared.Misfit.{Misfit}

abbrev pub lexemes_of : List ℕ → List Lexeme
lexemes_of text = map (λ t. t.lexeme) (tokens_of text)

abbrev pub offsets_of : List ℕ → List ℕ
offsets_of text = map (λ t. t.offset) (tokens_of text)

-- 34: "the token at the place, or the text's end, fits no legal continuation".
pub record RefusedText (text : List ℕ) (k : ℕ) (m : Misfit) : Type 0 where
  pub place_is : m.place ≡ get_or (offsets_of text) k (length text)

-- The tokens of a derivation, counted, with those before the start; their roles and offsets stand at the front of the arrays.
pub record AcceptedText (text roles offsets : List ℕ) (d : Derivation) (r : Accepted) (roles' offsets' : List ℕ) : Type 0 where
  pub tokens_are : r.tokens ≡ length (tokens_of text)
  pub start_is : r.start ≡ length (roles_before d)
  pub few : r.tokens ≤ length text
  pub start_low : r.start ≤ r.tokens
  pub roles_are : roles' ≡ roles_text d ++ drop (length (tokens_of text)) roles
  pub offsets_are : offsets' ≡ offsets_of text ++ drop (length (tokens_of text)) offsets

-- A text is refused where the parser refuses it, and accepted where the parser derives it.
abbrev pub JudgedAs : List ℕ → List ℕ → List ℕ → Result Accepted Misfit → List ℕ → List ℕ → Verdict → Type 0
JudgedAs text roles offsets r roles' offsets' (refused_at k) = MatchResult r (λ a. ⊥) (λ m. RefusedText text k m)
JudgedAs text roles offsets r roles' offsets' (derived d) = MatchResult r (λ a. AcceptedText text roles offsets d a roles' offsets') (λ m. ⊥)

-- Whatever the arrays held before.
abbrev pub JudgedText : List ℕ → List ℕ → List ℕ → Result Accepted Misfit → List ℕ → List ℕ → Type 0
JudgedText text roles offsets r roles' offsets' = JudgedAs text roles offsets r roles' offsets' (parsed (lexemes_of text))

-- Room: at least a token's worth for each byte of the text.
pub record Room (text roles offsets closers : List ℕ) : Type 0 where
  pub short : length text ≤ TEXT
  pub for_roles : length text ≤ length roles
  pub for_offsets : length text ≤ length offsets
  pub for_closers : length text ≤ length closers
