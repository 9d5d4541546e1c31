-- Tokens with their roles, one after another: the first at fault, and which names are declared among them.
use Prim.Native.Nat.{ℕ, suc}
use mathlib.Core.Path.{◌≡◌, refl, ap}
use mathlib.Core.Bool.{Bool, true, false}
use mathlib.Core.List.{List, [], ◌∷◌, ◌++◌, append_assoc, append-nil}
use mathlib.Core.Option.{Option, none, some}
use native.Mathlib.Omega.{arith}
use lib.Dec.{eqb}
use lib.ListN.{length}
use Rattle.script.specs.Asking.{Decides, holds, fails}
use Rattle.script.proofs.Tests.{decides_as}
use Rattle.grammar.specs.Tokens.{Spelling, Lexeme, same_spelling}
use Rattle.grammar.specs.Roles.{R_DECLARED}
use Rattle.grammar.specs.Files.{spelling_of, names_with, declared_role}
use Rattle.grammar.specs.Faults.{Marked, marked_by, first_fault, declared_among}
use Rattle.spellings.proofs.Places.{same_is, Among}
use Rattle.numbering.proofs.Distinct.{among_first, among_behind, among_rest}

abbrev pub mark_of : ℕ → Lexeme → Marked
mark_of r t = record { role = r; marks = t }

pub marked_more : (rs : List ℕ) (ts : List Lexeme) (r : ℕ) (t : Lexeme) → length rs ≡ length ts → marked_by (rs ++ (r ∷ [])) (ts ++ (t ∷ [])) ≡ marked_by rs ts ++ (mark_of r t ∷ [])
unfolding marked_by
marked_more [] [] r t e = refl
marked_more [] (u ∷ ts) r t e = absurd (omega arith)
marked_more (q ∷ rs) [] r t e = absurd (omega arith)
marked_more (q ∷ rs) (u ∷ ts) r t e = ap (λ (l : List Marked). mark_of q u ∷ l) (marked_more rs ts r t (omega arith))

pub marked_length : (rs : List ℕ) (ts : List Lexeme) → length rs ≡ length ts → length (marked_by rs ts) ≡ length rs
unfolding marked_by
marked_length [] ts e = refl
marked_length (q ∷ rs) [] e = absurd (omega arith)
marked_length (q ∷ rs) (u ∷ ts) e = ap suc (marked_length rs ts (omega arith))

-- The first fault of one token more.
abbrev pub then_first : Option ℕ → Bool → ℕ → Option ℕ
then_first (some i) b k = some i
then_first none true k = some k
then_first none false k = none

pub fault_more :
    (test : List Marked → Marked → Bool) (m : Marked) (before l : List Marked)
    → first_fault (λ b x a. test b x) before (l ++ (m ∷ []))
    ≡ then_first (first_fault (λ b x a. test b x) before l) (test (before ++ l) m) (length (before ++ l))
unfolding first_fault
fault_more test m before [] = rw (append-nil before) (go (test before m) refl)
  where
    go : (q : Bool) → test before m ≡ q → first_fault (λ b x a. test b x) before (m ∷ []) ≡ then_first none (test before m) (length before)
    go true e = rw e
    go false e = rw e
fault_more test m before (x ∷ l) = go (test before x) refl (fault_more test m (before ++ (x ∷ [])) l)
  where
    go :
        (q : Bool)
        → test before x ≡ q
        → first_fault (λ b x a. test b x) (before ++ (x ∷ [])) (l ++ (m ∷ []))
        ≡ then_first (first_fault (λ b x a. test b x) (before ++ (x ∷ [])) l) (test ((before ++ (x ∷ [])) ++ l) m) (length ((before ++ (x ∷ [])) ++ l))
        → first_fault (λ b x a. test b x) before (x ∷ (l ++ (m ∷ [])))
        ≡ then_first (first_fault (λ b x a. test b x) before (x ∷ l)) (test (before ++ (x ∷ l)) m) (length (before ++ (x ∷ l)))
    go true e f = rw e
    go false e f = rw e (rw (append_assoc before (x ∷ []) l) at f)

-- A name is declared among tokens if it is one of their declared names.
pub declared_among_lem : (y : Spelling) (rs : List ℕ) (ts : List Lexeme) → Decides (Among (names_with declared_role rs ts) y) (declared_among y (marked_by rs ts))
unfolding names_with marked_by declared_among
declared_among_lem y [] ts = fails (λ h. omega arith)
declared_among_lem y (r ∷ rs) [] = fails (λ h. omega arith)
declared_among_lem y (r ∷ rs) (t ∷ ts) = go (eqb r R_DECLARED) refl (same_spelling (spelling_of t) y) refl (declared_among_lem y rs ts)
  where
    go :
        (p : Bool)
        → eqb r R_DECLARED ≡ p
        → (q : Bool)
        → same_spelling (spelling_of t) y ≡ q
        → Decides (Among (names_with declared_role rs ts) y) (declared_among y (marked_by rs ts))
        → Decides (Among (names_with declared_role (r ∷ rs) (t ∷ ts)) y) (declared_among y (marked_by (r ∷ rs) (t ∷ ts)))
    go true a true b d = rw (a, b) (holds (rw (same_is (spelling_of t) y b) (among_first y (names_with declared_role rs ts))))
    go true a false b d = rw (a, b) (decides_as (among_behind (spelling_of t) (names_with declared_role rs ts) y) (among_rest (spelling_of t) (names_with declared_role rs ts) y b) d)
    go false a q b d = rw a d
