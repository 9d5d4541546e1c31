-- The order of the questions: a no to one of questions 1 to 8 is the first no.
use Prim.Native.Nat.{ℕ, suc, ◌<◌, ◌≤◌}
use mathlib.Core.Path.{◌≡◌, refl, sym, ap, ◌∙◌}
use mathlib.Core.List.{List, [], ◌∷◌}
use mathlib.Core.Logic.{⊎_elim}
use native.Mathlib.Omega.{arith}
use native.Mathlib.Nat.{eq-or-lt_of_le, le_of_suc-le-suc, le_antisymm}
use lib.ListN.{get_or}
use Rattle.script.specs.declared.Question.{Question}
use Rattle.script.specs.declared.Question.TheVariants.{Length, Counts, Places, Interfaces, Owners, Types, Nodes, Names, Joins, Classes, Variables, Nulls, Members, Fits, Sharing}
use Rattle.script.specs.declared.Refusal.{Refusal}
use Rattle.script.specs.Asking.{rank_of, Asks}
use Rattle.script.proofs.Lowest.{fault_not}
use Rattle.script.proofs.LayoutLaws.{Before, at_first, length_is, counts_are, places_are, interfaces_are, owners_are, types_are, nodes_are, names_are, LayoutNo, length_no, counts_no, places_no, interfaces_no, owners_no, types_no, nodes_no, names_no}
use Rattle.script.specs.Syntax.{Point, Expr, Slot, Program}
use Rattle.typing.specs.Typing.{Body}
use Rattle.typing.specs.declared.Aim.{Aim}
use Rattle.typing.specs.Refusals.{ExprNo, null_inferred, var_unbound, select_unbound, update_unbound, call_unbound, lock_unbound, left_unbound, right_unbound, select_missing, update_missing, call_missing, lock_int, fork_shares, update_part, call_part, cast_part, lock_part, let_first, let_last, fork_left, fork_right, fork_last, left_unfit, right_unfit, null_unfit, not_below, Statement, of_whole, of_records, of_walk, statement_of, YesTo, Yes, NoTo, FirstNo}
use Rattle.typing.proofs.Walk.{ListNo, after_all, in_body, after_body}

-- the question with a rank, before the walk
ranked : ℕ → Question
ranked n = get_or (Length ∷ Counts ∷ Places ∷ Interfaces ∷ Owners ∷ Types ∷ Nodes ∷ Names ∷ Joins ∷ Classes ∷ []) n Length

ranked_is : (q : Question) → rank_of q ≤ 9 → ranked (rank_of q) ≡ q
unfolding ranked
ranked_is Length h = refl
ranked_is Counts h = refl
ranked_is Places h = refl
ranked_is Interfaces h = refl
ranked_is Owners h = refl
ranked_is Types h = refl
ranked_is Nodes h = refl
ranked_is Names h = refl
ranked_is Joins h = refl
ranked_is Classes h = refl
ranked_is Variables h = absurd (omega arith)
ranked_is Nulls h = absurd (omega arith)
ranked_is Members h = absurd (omega arith)
ranked_is Fits h = absurd (omega arith)
ranked_is Sharing h = absurd (omega arith)

-- Ranks before the walk tell questions apart.
pub rank_same : (q r : Question) → rank_of r ≤ 9 → rank_of q ≡ rank_of r → q ≡ r
rank_same q r h e = sym (ranked_is q (omega arith)) ∙ ap ranked e ∙ ranked_is r h

-- Every question before q gets a yes, and so does q.
pub one_more : (s : List ℕ) (q : Question) → rank_of q ≤ 9 → Yes s q → ((r : Question) → rank_of r < rank_of q → Yes s r) → (r : Question) → rank_of r < suc (rank_of q) → Yes s r
one_more s q h y f r l = ⊎_elim (λ (e : rank_of r ≡ rank_of q). rw (rank_same r q h e) y) (λ k. f r k) (eq-or-lt_of_le (le_of_suc-le-suc l))

-- What stands before a question is a yes to each question of lower rank.
pub before : (s : List ℕ) {q : Question} → Before s q → (r : Question) → rank_of r < rank_of q → Yes s r
before s at_first = λ r h. absurd (omega arith)
before s (length_is y b) = one_more s Length (omega arith) y (before s b)
before s (counts_are y b) = one_more s Counts (omega arith) y (before s b)
before s (places_are y b) = one_more s Places (omega arith) y (before s b)
before s (interfaces_are y b) = one_more s Interfaces (omega arith) y (before s b)
before s (owners_are y b) = one_more s Owners (omega arith) y (before s b)
before s (types_are y b) = one_more s Types (omega arith) y (before s b)
before s (nodes_are y b) = one_more s Nodes (omega arith) y (before s b)
before s (names_are y b) = one_more s Names (omega arith) y (before s b)

-- A no to questions 1 to 8 is the first no.
pub first : (s : List ℕ) {r : Refusal} → LayoutNo s r → FirstNo s r.question r.place
first s (length_no n b) = record { before = before s b; no = record { bad = n; there = refl } }
first s (counts_no n b) = record { before = before s b; no = record { bad = n; there = refl } }
first s (places_no n b) = record { before = before s b; no = record { bad = n; there = refl } }
first s (interfaces_no n b) = record { before = before s b; no = n }
first s (owners_no n b) = record { before = before s b; no = record { bad = n; there = refl } }
first s (types_no n b) = record { before = before s b; no = n }
first s (nodes_no n b) = record { before = before s b; no = n }
first s (names_no n b) = record { before = before s b; no = n }

-- The questions of the walk are the last five.
pub data Order (s : List ℕ) (q : Question) : Type 1 where
  before_walk : rank_of q ≤ 9 → (statement_of s q ≡ of_walk → ⊥) → Order s q
  on_walk : rank_of q ≡ 10 → statement_of s q ≡ of_walk → Order s q

whole_walk : (P : Type 0) → of_whole P ≡ of_walk → ⊥
whole_walk P e = let z : ◌≡◌ {A = ℕ} 0 1 = cc in omega arith

records_walk : (l : Asks) → of_records l ≡ of_walk → ⊥
records_walk l e = let z : ◌≡◌ {A = ℕ} 0 1 = cc in omega arith

pub order : (s : List ℕ) (q : Question) → Order s q
order s Length = before_walk (omega arith) (whole_walk _)
order s Counts = before_walk (omega arith) (whole_walk _)
order s Places = before_walk (omega arith) (whole_walk _)
order s Interfaces = before_walk (omega arith) (records_walk _)
order s Owners = before_walk (omega arith) (whole_walk _)
order s Types = before_walk (omega arith) (records_walk _)
order s Nodes = before_walk (omega arith) (records_walk _)
order s Names = before_walk (omega arith) (records_walk _)
order s Joins = before_walk (omega arith) (records_walk _)
order s Classes = before_walk (omega arith) (records_walk _)
order s Variables = on_walk refl refl
order s Nulls = on_walk refl refl
order s Members = on_walk refl refl
order s Fits = on_walk refl refl
order s Sharing = on_walk refl refl

no_walk : {p : Program} {Γ : List Slot} {e : Expr} {a : Aim} {q : Question} {k : Point} → ExprNo p Γ e a q k → (s : List ℕ) → statement_of s q ≡ of_walk
no_walk null_inferred = λ s. refl
no_walk (var_unbound h) = λ s. refl
no_walk (select_unbound h) = λ s. refl
no_walk (update_unbound h) = λ s. refl
no_walk (call_unbound h) = λ s. refl
no_walk (lock_unbound h) = λ s. refl
no_walk (left_unbound h) = λ s. refl
no_walk (right_unbound h) = λ s. refl
no_walk (select_missing h m) = λ s. refl
no_walk (update_missing h m) = λ s. refl
no_walk (call_missing h m) = λ s. refl
no_walk (lock_int h d) = λ s. refl
no_walk (fork_shares l r) = λ s. refl
no_walk (update_part h g c) = no_walk c
no_walk (call_part h g e c) = no_walk c
no_walk (cast_part c) = no_walk c
no_walk (lock_part h o c) = no_walk c
no_walk (let_first c) = no_walk c
no_walk (let_last h c) = no_walk c
no_walk (fork_left d c) = no_walk c
no_walk (fork_right d h c) = no_walk c
no_walk (fork_last d h k c) = no_walk c
no_walk (left_unfit h k d) = λ s. refl
no_walk (right_unfit h k d) = λ s. refl
no_walk (null_unfit d) = λ s. refl
no_walk (not_below h s e) = λ s. refl

pub walk_no_walk : {p : Program} {l : List Body} {q : Question} {k : Point} → ListNo p l q k → (s : List ℕ) → statement_of s q ≡ of_walk
walk_no_walk (after_all c) = no_walk c
walk_no_walk (in_body c) = no_walk c
walk_no_walk (after_body h c) = walk_no_walk c

-- What comes before a question of the walk comes before all of them.
pub walk_last : (s : List ℕ) (q r : Question) → statement_of s q ≡ of_walk → rank_of r < rank_of q → rank_of r < 10
walk_last s q r e h = go (order s q)
  where
    go : Order s q → rank_of r < 10
    go (before_walk l n) = absurd (n e)
    go (on_walk l d) = omega arith

-- Before the walk, a yes and a no exclude each other, and two nos have one place.
pub yes_no : (s : List ℕ) (q : Question) (place : ℕ) (S : Statement) → (S ≡ of_walk → ⊥) → YesTo s q S → NoTo s q place S → ⊥
yes_no s q place (of_whole P) h y n = n.bad y
yes_no s q place (of_records l) h y n = fault_not s l place n.fault y
yes_no s q place of_walk h y n = h refl

pub same_place_lem : (s : List ℕ) (q r : Question) (a b : ℕ) (S : Statement) → (S ≡ of_walk → ⊥) → NoTo s q a S → NoTo s r b S → a ≡ b
same_place_lem s q r a b (of_whole P) h n m = n.there ∙ sym m.there
same_place_lem s q r a b (of_records l) h n m = le_antisymm (n.lowest b m.fault) (m.lowest a n.fault)
same_place_lem s q r a b of_walk h n m = absurd (h refl)
