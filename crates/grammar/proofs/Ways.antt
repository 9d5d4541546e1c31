-- What holds of each way on from a state holds of what a token does there.
use Prim.Native.Nat.{ℕ}
use mathlib.Core.Path.{◌≡◌, refl, ap}
use mathlib.Core.Bool.{Bool, true, false}
use mathlib.Core.List.{List, [], ◌∷◌}
use borrow.Author.Tests.{eqb-true}
use Rattle.script.specs.Lists.{Every}
use Rattle.grammar.specs.Tokens.{Spelling, Lexeme, fixed, name_token, digits_token, TEXT_END}
use Rattle.grammar.specs.Parse.{Way, on, on_name, on_digits, on_end, Shifted, stuck, goes, accepts, only_if, is_fixed, leads, first_way, choose}

-- A property of a token and what it does, said of a way: of each token that takes it.
abbrev pub OfWay : (Lexeme → Shifted → Type 0) → Way → Type 0
OfWay P (on k s) = P (fixed k) (goes s)
OfWay P (on_name f) = (y : Spelling) → P (name_token y) (goes (f y))
OfWay P (on_digits f) = (d : Spelling) → P (digits_token d) (goes (f d))
OfWay P (on_end p) = P (fixed TEXT_END) (accepts p)

fixed_is : (k : ℕ) (t : Lexeme) → is_fixed k t ≡ true → t ≡ fixed k
fixed_is k (fixed j) h = ap fixed (eqb-true j k h)
fixed_is k (name_token y) h = cc
fixed_is k (digits_token d) h = cc

only :
    (P : Lexeme → Shifted → Type 0) (t : Lexeme)
    → P t stuck
    → (k : ℕ) (a : Shifted) (q : Bool)
    → is_fixed k t ≡ q
    → P (fixed k) a
    → P t (only_if q a)
only P t none k a true h f = rw (fixed_is k t h) f
only P t none k a false h f = none

either : (P : Shifted → Type 0) (a b : Shifted) → P a → P b → P (first_way a b)
either P stuck b f g = g
either P (goes s) b f g = f
either P (accepts p) b f g = f

led : (P : Lexeme → Shifted → Type 0) (t : Lexeme) → P t stuck → (w : Way) → OfWay P w → P t (leads w t)
led P t none (on k s) f = only P t none k (goes s) (is_fixed k t) refl f
led P (fixed j) none (on_name g) f = none
led P (name_token y) none (on_name g) f = f y
led P (digits_token d) none (on_name g) f = none
led P (fixed j) none (on_digits g) f = none
led P (name_token y) none (on_digits g) f = none
led P (digits_token d) none (on_digits g) f = f d
led P t none (on_end p) f = only P t none TEXT_END (accepts p) (is_fixed TEXT_END t) refl f

pub chosen : (P : Lexeme → Shifted → Type 0) (t : Lexeme) → P t stuck → (ws : List Way) → Every (OfWay P) ws → P t (choose t ws)
unfolding choose
chosen P t none [] f = none
chosen P t none (w ∷ ws) f = either (P t) (leads w t) (choose t ws) (led P t none w f.0) (chosen P t none ws f.1)
