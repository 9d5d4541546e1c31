-- The machine's state as the code has it.
use Rattle.std.specs.Prelude.{ℕ, ◌+◌, ◌≤◌, ◌<◌, ◌≡◌, Bool, true, false, List, length, drop, Result, MatchResult}
use Rattle.grammar.specs.Tokens.{Lexeme}
use Rattle.tokens.specs.Next.{lexeme_of}
use Rattle.tokens.specs.Runs.{word_from}
use Rattle.tokens.specs.declared.Next.{Next}
use Rattle.flat.specs.declared.Turn.{Turn}
use Rattle.flat.specs.Flat.{Flat, POINTS, top_of, turned, flat_ends}
use Rattle.turns.specs.Stacks.{Stacked, Closers}
use Rattle.judge.specs.declared.Standing.{Standing}
use Rattle.judge.specs.declared.Accepted.{Accepted}
use Rattle.judge.specs.declared.Misfit.{Misfit}

-- Roles and closers in their arrays, and the parameter where its name stands in the text.
pub record Shown (text : List ℕ) (f : Flat) (s : Standing) (roles closers rest : List ℕ) : Type 0 where
  pub point_is : s.point ≡ f.point
  pub closers_are : Closers closers s.depth f.closers
  pub parameter_is : word_from (drop s.parameter text) ≡ f.parameter
  pub visible_is : s.visible ≡ f.visible
  pub roles_are : Stacked roles s.tokens f.roles rest
  pub start_is : s.start ≡ f.start

-- The token that the code has at hand.
abbrev pub token_here : List ℕ → Next → Lexeme
token_here text t = lexeme_of t.kind (drop t.start text)

-- A token has taken its turn.
pub record Advanced
    (text : List ℕ) (s : Standing) (t : Next) (m : Turn) (top : ℕ) (roles closers : List ℕ) (r : Standing) (roles' closers' : List ℕ)
    : Type 0
  where
    pub shows :
        (f : Flat) (rest : List ℕ)
        → top ≡ top_of f.closers
        → Shown text f s roles closers rest
        → Shown text (turned m (token_here text t) f) r roles' closers' (drop 1 rest)
    pub one_more : r.tokens ≡ s.tokens + 1
    pub point_low : r.point < POINTS
    pub depth_low : r.depth ≤ s.depth + 1
    pub parameter_within : r.parameter ≤ length text

-- A token that does nothing besides has taken its turn: what the text and the closers are does not count.
abbrev pub Gone : Standing → Next → Turn → List ℕ → Standing → List ℕ → Type 0
Gone s t m roles r roles' =
    (text closers : List ℕ) (top : ℕ) → s.parameter ≤ length text → Advanced text s t m top roles closers r roles' closers

-- At the text's end: a text is derived where an expression may have ended and no closer is waited for.
abbrev pub EndsAs : Standing → Bool → Type 0
EndsAs s ok = (f : Flat) → s.point ≡ f.point → s.depth ≡ length f.closers → ok ≡ flat_ends f

abbrev pub EndedAs : List ℕ → Standing → Result Accepted Misfit → Type 0
EndedAs text s r =
    MatchResult r (λ a. EndsAs s true × (a.tokens ≡ s.tokens) × (a.start ≡ s.start)) (λ m. EndsAs s false × (m.place ≡ length text))
