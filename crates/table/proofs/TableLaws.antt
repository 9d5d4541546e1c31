-- An entry of the table is what its token does there.
use Prim.Native.Nat.{ℕ, zero, suc, ◌+◌, ◌*◌, ◌/◌, ◌%◌, ◌<◌}
use mathlib.Core.Path.{◌≡◌, refl, sym, ap, ◌∙◌}
use mathlib.Core.Bool.{Bool, true, false, not, ◌&&◌, ◌||◌, cond}
use mathlib.Core.List.{List, [], ◌∷◌}
use native.Mathlib.Omega.{arith}
use native.Mathlib.Numerals.{add-one}
use lib.Dec.{eqb, ltb}
use lib.ListN.{get_or, set, replicate}
use borrow.Author.Tests.{ltb-true, eq-eqb, eqb-true}
use Rattle.grammar.specs.Tokens.{Spelling, Lexeme, fixed, name_token, digits_token, chosen_lexeme}
use Rattle.tokens.specs.Next.{K_NAME, K_DIGITS, KINDS, lexeme_of}
use Rattle.tokens.specs.Runs.{word_from, digits_from}
use Rattle.flat.specs.declared.Turn.{Turn}
use Rattle.flat.specs.Flat.{Rule, same_sort, pick_turn, turn_at, other_turn, rules, ending_test, turn_of, stuck_turn, GO, CLOSE, POINTS, BINDS}
use Rattle.flat.proofs.Walks.{and_left, and_right}
use Rattle.table.specs.Table.{packed, unpacked, Plain, entries_from, table_entries, closed_to, TurnIs}

-- Fields that fit their places, and a parameter that is a name.
abbrev name_test : Lexeme → Bool
name_test (fixed k) = false
name_test (name_token y) = true
name_test (digits_token d) = false

abbrev fit_test : Bool → Turn → Bool
fit_test n m =
    (not (eqb m.deed BINDS) || n) &&
    (ltb m.next 64 &&
    (ltb m.deed 16 && (ltb m.role 32 && (ltb m.back 4 && (ltb m.becomes 32 && (ltb m.before 32 && true))))))

record Fits (n : Bool) (m : Turn) : Type 0 where
  names : m.deed ≡ BINDS → n ≡ true
  next_fits : m.next < 64
  deed_fits : m.deed < 16
  role_fits : m.role < 32
  back_fits : m.back < 4
  becomes_fits : m.becomes < 32
  before_fits : m.before < 32

-- A list of tests that all say yes.
below_and : (a b : ℕ) (q : Bool) → (ltb a b && q) ≡ true → (a < b) × (q ≡ true)
below_and a b q h = (ltb-true a b (and_left (ltb a b) q h), and_right (ltb a b) q h)

named_if : (d : ℕ) (n : Bool) → (not (eqb d BINDS) || n) ≡ true → d ≡ BINDS → n ≡ true
named_if d n h e = rw (eq-eqb d BINDS e) at h

fits_true : (n : Bool) (m : Turn) → fit_test n m ≡ true → Fits n m
fits_true n m h =
    let h₀ = and_right (not (eqb m.deed BINDS) || n) _ h in
    let h₁ = below_and m.next 64 _ h₀ in
    let h₂ = below_and m.deed 16 _ h₁.1 in
    let h₃ = below_and m.role 32 _ h₂.1 in
    let h₄ = below_and m.back 4 _ h₃.1 in
    let h₅ = below_and m.becomes 32 _ h₄.1 in
    let h₆ = below_and m.before 32 _ h₅.1 in
    record {
      names = named_if m.deed n (and_left (not (eqb m.deed BINDS) || n) _ h);
      next_fits = h₁.0;
      deed_fits = h₂.0;
      role_fits = h₃.0;
      back_fits = h₄.0;
      becomes_fits = h₅.0;
      before_fits = h₆.0;
    }

-- What every rule has, every turn of the table has.
same_named : (t u : Lexeme) → same_sort t u ≡ true → name_test u ≡ name_test t
same_named (fixed j) (fixed k) h = refl
same_named (fixed j) (name_token y) h = sym h
same_named (fixed j) (digits_token d) h = refl
same_named (name_token x) (fixed k) h = h
same_named (name_token x) (name_token y) h = refl
same_named (name_token x) (digits_token d) h = h
same_named (digits_token x) (fixed k) h = refl
same_named (digits_token x) (name_token y) h = sym h
same_named (digits_token x) (digits_token d) h = refl

abbrev all_fit : List Rule → Bool
all_fit [] = true
all_fit (r ∷ rs) = fit_test (name_test r.seen) r.turn && all_fit rs

abbrev every_fit : List (List Rule) → Bool
every_fit [] = true
every_fit (rs ∷ ls) = all_fit rs && every_fit ls

fit_in : (ls : List (List Rule)) (p : ℕ) → every_fit ls ≡ true → all_fit (get_or ls p []) ≡ true
fit_in [] p h = refl
fit_in (rs ∷ ls) zero h = and_left (all_fit rs) (every_fit ls) h
fit_in (rs ∷ ls) (suc p) h = fit_in ls p (and_right (all_fit rs) (every_fit ls) h)

picked_fits : (other : Turn) (t : Lexeme) (rs : List Rule) → Fits (name_test t) other → all_fit rs ≡ true → Fits (name_test t) (pick_turn other t rs)
unfolding pick_turn
picked_fits other t [] f h = f
picked_fits other t (r ∷ rs) f h = go (same_sort t r.seen) refl (picked_fits other t rs f (and_right (fit_test (name_test r.seen) r.turn) (all_fit rs) h))
  where
    go : (q : Bool) → same_sort t r.seen ≡ q → Fits (name_test t) (pick_turn other t rs) → Fits (name_test t) (cond q r.turn (pick_turn other t rs))
    go true e g =
        rw (same_named t r.seen e) at (fits_true (name_test r.seen) r.turn (and_left (fit_test (name_test r.seen) r.turn) (all_fit rs) h))
    go false e g = g

other_fits : (n : Bool) (p : ℕ) → Fits n (other_turn p)
other_fits n p = go (ending_test p)
  where
    go : (q : Bool) → Fits n (cond q (turn_of CLOSE 0 0) stuck_turn)
    go true = fits_true n (turn_of CLOSE 0 0) refl
    go false = fits_true n stuck_turn refl

turn_fits : (p : ℕ) (t : Lexeme) → Fits (name_test t) (turn_at p t)
unfolding turn_at
turn_fits p t = picked_fits (other_turn p) t (get_or rules p []) (other_fits (name_test t) p) (fit_in rules p refl)

-- What a token spells does not count.
pick_sort : (other : Turn) (t u : Lexeme) (rs : List Rule) → ((v : Lexeme) → same_sort t v ≡ same_sort u v) → pick_turn other t rs ≡ pick_turn other u rs
unfolding pick_turn
pick_sort other t u [] h = refl
pick_sort other t u (r ∷ rs) h = rw (h r.seen, pick_sort other t u rs h)

either :
    (n d : Bool) (k : ℕ) (x y a b : Spelling) (v : Lexeme)
    → same_sort (chosen_lexeme n (name_token x) (chosen_lexeme d (digits_token a) (fixed k))) v
    ≡ same_sort (chosen_lexeme n (name_token y) (chosen_lexeme d (digits_token b) (fixed k))) v
either true d k x y a b (fixed j) = refl
either true d k x y a b (name_token z) = refl
either true d k x y a b (digits_token z) = refl
either false true k x y a b (fixed j) = refl
either false true k x y a b (name_token z) = refl
either false true k x y a b (digits_token z) = refl
either false false k x y a b v = refl

spelled_not : (p k : ℕ) (s : List ℕ) → turn_at p (lexeme_of k []) ≡ turn_at p (lexeme_of k s)
unfolding turn_at lexeme_of
spelled_not p k s = pick_sort (other_turn p) (lexeme_of k []) (lexeme_of k s) (get_or rules p []) sorts
  where
    sorts : (v : Lexeme) → same_sort (lexeme_of k []) v ≡ same_sort (lexeme_of k s) v
    sorts v = either (eqb k K_NAME) (eqb k K_DIGITS) k (word_from []) (word_from s) (digits_from []) (digits_from s) v

-- A packed turn comes back.
turns_same :
    (a b : Turn)
    → a.next ≡ b.next
    → a.role ≡ b.role
    → a.deed ≡ b.deed
    → a.back ≡ b.back
    → a.becomes ≡ b.becomes
    → a.before ≡ b.before
    → a ≡ b
turns_same a b n r d k c e = λ i. record { next = n i; role = r i; deed = d i; back = k i; becomes = c i; before = e i }

unpacks : (n : Bool) (m : Turn) → Fits n m → unpacked (packed m) ≡ m
unpacks n m f =
    let b₄ : ℕ = m.becomes + 32 * m.before in
    let b₃ : ℕ = m.back + 4 * b₄ in
    let b₂ : ℕ = m.role + 32 * b₃ in
    let b₁ : ℕ = m.deed + 16 * b₂ in
    let q₁ : packed m / 64 ≡ b₁ = omega (arith, f.next_fits) in
    let q₂ : packed m / 1024 ≡ b₂ = omega (arith, f.next_fits, f.deed_fits) in
    let q₃ : packed m / 32768 ≡ b₃ = omega (arith, f.next_fits, f.deed_fits, f.role_fits) in
    let q₄ : packed m / 131072 ≡ b₄ = omega (arith, f.next_fits, f.deed_fits, f.role_fits, f.back_fits) in
    let q₅ : packed m / 4194304 ≡ m.before = omega (arith, f.next_fits, f.deed_fits, f.role_fits, f.back_fits, f.becomes_fits) in
    let r₀ : packed m % 64 ≡ m.next = omega (arith, f.next_fits) in
    let r₁ : b₁ % 16 ≡ m.deed = omega (arith, f.deed_fits) in
    let r₂ : b₂ % 32 ≡ m.role = omega (arith, f.role_fits) in
    let r₃ : b₃ % 4 ≡ m.back = omega (arith, f.back_fits) in
    let r₄ : b₄ % 32 ≡ m.becomes = omega (arith, f.becomes_fits) in
    let r₅ : m.before % 32 ≡ m.before = omega (arith, f.before_fits) in
    turns_same (unpacked (packed m)) m r₀ (ap (◌% 32) q₂ ∙ r₂) (ap (◌% 16) q₁ ∙ r₁) (ap (◌% 4) q₃ ∙ r₃) (ap (◌% 32) q₄ ∙ r₄) (ap (◌% 32) q₅ ∙ r₅)

entry_at : (n i j : ℕ) → j < n → get_or (entries_from n i) j 0 ≡ packed (turn_at ((i + j) / 32) (lexeme_of ((i + j) % 32) []))
unfolding entries_from
entry_at zero i j h = absurd (omega arith)
entry_at (suc n) i zero h = let e : i + 0 ≡ i = omega arith in rw e
entry_at (suc n) i (suc j) h = let e : i + suc j ≡ i + 1 + j = omega arith in rw e (entry_at n (i + 1) j (omega arith))

name_kind : (k : ℕ) (s : List ℕ) → k < KINDS → name_test (lexeme_of k s) ≡ true → k ≡ K_NAME
unfolding lexeme_of
name_kind k s low h = go (eqb k K_NAME) (eqb k K_DIGITS) refl h
  where
    go : (n d : Bool) → eqb k K_NAME ≡ n → name_test (chosen_lexeme n (name_token (word_from s)) (chosen_lexeme d (digits_token (digits_from s)) (fixed k))) ≡ true → k ≡ K_NAME
    go true d e q = eqb-true k K_NAME e
    go false true e q = absurd (let z : ◌≡◌ {A = ℕ} 0 1 = cc in omega arith)
    go false false e q = absurd (let z : ◌≡◌ {A = ℕ} 0 1 = cc in omega arith)

pub turn_is : (table : List ℕ) (p k : ℕ) → table ≡ table_entries → p < POINTS → k < KINDS → TurnIs p k (unpacked (get_or table (p * 32 + k) 0))
unfolding table_entries
turn_is table p k t hp hk =
    let m = turn_at p (lexeme_of k []) in
    let f = turn_fits p (lexeme_of k []) in
    let q : (0 + (p * 32 + k)) / 32 ≡ p = omega arith in
    let w : (0 + (p * 32 + k)) % 32 ≡ k = omega arith in
    let e : get_or table (p * 32 + k) 0 ≡ packed m = rw (t, entry_at 2048 0 (p * 32 + k) (omega arith), q, w) in
    let g : unpacked (get_or table (p * 32 + k) 0) ≡ m = ap unpacked e ∙ unpacks (name_test (lexeme_of k [])) m f in
    rw g
    (record {
      is = spelled_not p k;
      tight =
          record {
            next_low = f.next_fits;
            role_low = f.role_fits;
            deed_low = f.deed_fits;
            becomes_low = f.becomes_fits;
            before_low = f.before_fits;
            binds_name = λ b. name_kind k [] hk (f.names b);
          };
    })

-- An entry with the deed GO, below those that settle a role.
pub plain_turn : (e : ℕ) → (eqb (e / 64 % 16) GO && ltb e 32768) ≡ true → Plain e
plain_turn e h =
    let d : e / 64 % 16 ≡ GO = eqb-true (e / 64 % 16) GO (and_left (eqb (e / 64 % 16) GO) (ltb e 32768) h) in
    let low : e < 32768 = ltb-true e 32768 (and_right (eqb (e / 64 % 16) GO) (ltb e 32768) h) in
    turns_same (unpacked e) (turn_of GO (e % 64) (e / 1024)) refl (omega arith) d (omega arith) (omega arith) (omega arith)

-- One kind more is left to the innermost closer.
pub closed_more :
    (k : ℕ) (l m : List ℕ)
    → m ≡ closed_to k l
    → set (set (set m (1056 + k) 384) (1120 + k) 384) (1856 + k) 384 ≡ closed_to (k + 1) l
unfolding closed_to
closed_more k l m h = rw (add-one k, h)

-- Every place of the code's rules is one of the table.
abbrev pub Placed : Type 0
Placed = ℕ × ℕ

abbrev low_test : List Placed → Bool
low_test [] = true
low_test (r ∷ rs) = ltb r.0 2048 && low_test rs

low_place : (rs : List Placed) (n : ℕ) → low_test rs ≡ true → (get_or rs n (0, 0)).0 < 2048
low_place [] n h = omega arith
low_place (r ∷ rs) zero h = (below_and r.0 2048 (low_test rs) h).0
low_place (r ∷ rs) (suc n) h = low_place rs n (below_and r.0 2048 (low_test rs) h).1

-- The table with the first n of the code's rules put in; the next one has a place in it.
unfoldable pub ruled_to : (rs : List Placed) → ℕ → List ℕ → List ℕ
ruled_to rs zero l = l
ruled_to rs (suc n) l = set (ruled_to rs n l) (get_or rs n (0, 0)).0 (get_or rs n (0, 0)).1

pub record Ruled (rs : List Placed) (n : ℕ) (l m : List ℕ) : Type 0 where
  pub next_low : (get_or rs n (0, 0)).0 < 2048
  pub is : m ≡ ruled_to rs n l

pub ruled_none : (rs : List Placed) (l : List ℕ) → low_test rs ≡ true → Ruled rs 0 l l
unfolding ruled_to
ruled_none rs l h = record { next_low = low_place rs 0 h; is = refl }

pub ruled_more :
    (rs : List Placed) (n : ℕ) (l m : List ℕ)
    → low_test rs ≡ true
    → Ruled rs n l m
    → Ruled rs (n + 1) l (set m (get_or rs n (0, 0)).0 (get_or rs n (0, 0)).1)
unfolding ruled_to
ruled_more rs n l m h r = record { next_low = low_place rs (n + 1) h; is = rw (add-one n, r.is) }

pub ruled_all :
    (rs : List Placed) (n : ℕ) (l m : List ℕ)
    → Ruled rs n l m
    → n ≡ 117
    → l ≡ closed_to 32 (replicate 2048 0)
    → ruled_to rs 117 (closed_to 32 (replicate 2048 0)) ≡ table_entries
    → m ≡ table_entries
ruled_all rs n l m r e p q = r.is ∙ ap (λ (i : ℕ). ruled_to rs i l) e ∙ ap (ruled_to rs 117) p ∙ q
