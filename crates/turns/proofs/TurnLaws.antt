-- Laws of what a token does, one for each answer of the code.
use Prim.Native.Nat.{◌≤◌, ℕ}
use mathlib.Core.Path.{◌≡◌, refl, sym, ap, ◌∙◌}
use mathlib.Core.Bool.{Bool, true, false, cond}
use mathlib.Core.List.{List, [], ◌∷◌}
use native.Mathlib.Omega.{arith}
use lib.Dec.{eqb}
use lib.ListN.{length, drop}
use lib.Seq.{drop-length}
use borrow.Author.Tests.{eq-eqb, ne_eqb, eqb-true, eqb-false}
use Rattle.grammar.specs.Tokens.{Spelling, same_spelling, fixed, name_token, digits_token, chosen_lexeme}
use Rattle.tokens.specs.Next.{K_NAME, K_DIGITS, lexeme_of}
use Rattle.tokens.specs.Runs.{word_from, digits_from, byte_run}
use Rattle.flat.specs.declared.Turn.{Turn}
use Rattle.flat.specs.Flat.{turn_at, turn_under, closer_turn, stuck_turn, own_test, CLOSE, BINDS, LEAVE}
use Rattle.table.specs.Table.{TurnIs, Tight}
use Rattle.std.specs.Prelude.{Option}
use Rattle.turns.specs.Stacks.{TurnUnder, ParameterIs}

-- A point's own token; a token that is left to closers, where there is none; and one that the innermost closer takes or not.
pub under_own : (p : ℕ) (top : Option ℕ) (k : ℕ) (m : Turn) → TurnIs p k m → (m.deed ≡ CLOSE → ⊥) → TurnUnder p top k m
under_own p top k m t n =
    record {
      is = λ cs s o.
          let e : m ≡ turn_at p (lexeme_of k s) = t.is s in
          let c : eqb (turn_at p (lexeme_of k s)).deed CLOSE ≡ false = rw (← e) (ne_eqb m.deed CLOSE n) in
          e ∙ ap (λ (q : Bool). cond q (closer_turn cs (lexeme_of k s)) (turn_at p (lexeme_of k s))) (sym c);
      tight = t.tight;
    }

left_to_closers : (p k : ℕ) (m : Turn) (cs s : List ℕ) → TurnIs p k m → m.deed ≡ CLOSE → closer_turn cs (lexeme_of k s) ≡ turn_under p cs (lexeme_of k s)
left_to_closers p k m cs s t h =
    let c : eqb (turn_at p (lexeme_of k s)).deed CLOSE ≡ true = rw (← (t.is s)) (eq-eqb m.deed CLOSE h) in
    ap (λ (q : Bool). cond q (closer_turn cs (lexeme_of k s)) (turn_at p (lexeme_of k s))) (sym c)

tight_stuck : (k : ℕ) → Tight k stuck_turn
tight_stuck k =
    record {
      next_low = omega arith;
      role_low = omega arith;
      deed_low = omega arith;
      becomes_low = omega arith;
      before_low = omega arith;
      binds_name = λ b. absurd (omega arith);
    }

-- The parameter's own name.
pub name_here : (s : List ℕ) (k : ℕ) → k ≡ K_NAME → lexeme_of k s ≡ name_token (word_from s)
unfolding lexeme_of
name_here s k h = rw (eq-eqb k K_NAME h)

pub own_not : (p : Spelling) (v : Bool) (k : ℕ) (s : List ℕ) → (k ≡ K_NAME → ⊥) → false ≡ own_test p v (lexeme_of k s)
unfolding lexeme_of
own_not p v k s h = rw (ne_eqb k K_NAME h) (go (eqb k K_DIGITS))
  where
    go : (q : Bool) → false ≡ own_test p v (chosen_lexeme q (digits_token (digits_from s)) (fixed k))
    go true = refl
    go false = refl

pub own_hidden : (p : Spelling) (v : Bool) (k : ℕ) (s : List ℕ) → k ≡ K_NAME → v ≡ false → false ≡ own_test p v (lexeme_of k s)
own_hidden p v k s h z = rw (name_here s k h, z)

eqb_swapped : (a b : ℕ) → eqb a b ≡ eqb b a
eqb_swapped a b = go (eqb a b) refl
  where
    go : (q : Bool) → eqb a b ≡ q → q ≡ eqb b a
    go true e = sym (eq-eqb b a (sym (eqb-true a b e)))
    go false e = sym (ne_eqb b a (λ h. eqb-false a b e (sym h)))

same_swapped : (v w : Spelling) → same_spelling v w ≡ same_spelling w v
unfolding same_spelling
same_swapped [] [] = refl
same_swapped [] (c ∷ w) = refl
same_swapped (b ∷ v) [] = refl
same_swapped (b ∷ v) (c ∷ w) = rw (eqb_swapped b c, same_swapped v w) refl

pub own_same : (p : Spelling) (v r : Bool) (k : ℕ) (s : List ℕ) → k ≡ K_NAME → v ≡ true → r ≡ same_spelling p (word_from s) → r ≡ own_test p v (lexeme_of k s)
own_same p v r k s h z e = rw (name_here s k h, z) (e ∙ same_swapped p (word_from s))

-- Where the parameter is: at its name, nowhere, where it was.
pub bound_here :
    (text : List ℕ) (k start d p : ℕ) → d ≡ BINDS → (d ≡ BINDS → k ≡ K_NAME) → start ≤ length text → ParameterIs text k start d p start
bound_here text k start d p h n w = record { within = w; spells = rw (eq-eqb d BINDS h, name_here (drop start text) k (n h)) }

pub left_none : (text : List ℕ) (k start d p : ℕ) → (d ≡ BINDS → ⊥) → d ≡ LEAVE → ParameterIs text k start d p (length text)
unfolding byte_run
left_none text k start d p n h = record { within = omega arith; spells = rw (ne_eqb d BINDS n, eq-eqb d LEAVE h, drop-length text) }
