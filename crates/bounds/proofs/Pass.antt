-- The pass over the tokens: what is known at token i.
use mathlib.Core.Path.{◌≡◌, refl, sym, ap, ◌∙◌}
use mathlib.Core.Bool.{Bool, true, false, ◌&&◌, ◌||◌, or-false, or-true}
use mathlib.Core.List.{List, [], ◌∷◌, ◌++◌}
use mathlib.Core.Option.{none, some}
use Prim.Native.Nat.{ℕ, zero, suc, ◌+◌, ◌≤◌, ◌<◌}
use native.Mathlib.Omega.{arith}
use native.Mathlib.Numerals.{add-one}
use lib.Dec.{eqb, leb, ltb}
use lib.ListN.{length, get_or, set, take, drop, replicate, drop_of_length-le}
use lib.Seq.{take-suc, drop-cons, length-take-le, take_all, get_or-set_same, get_or-set_other}
use borrow.Author.Tests.{eqb-true, eqb-false, leb-false, lt-ltb}
use Rattle.limits.specs.Limits.{NODES}
use Rattle.script.specs.declared.Section.{Section}
use Rattle.script.specs.declared.Section.TheVariants.{Interfaces as interfaces, Signatures as signatures, Classes as classes}
use Rattle.script.specs.declared.Section.TheVariants.{Fields as fields, Methods as methods, Nodes as nodes}
use Rattle.script.specs.Section.{sections, entry_of, most_of}
use Rattle.script.proofs.Lists.{zeros}
use Rattle.grammar.specs.Tokens.{fixed, TEXT_END}
use Rattle.grammar.specs.Roles.{PLAIN}
use Rattle.grammar.specs.Faults.{Marked, begins_test, one_more_if, begun_in, too_many_test, outside_test, first_if, first_fault, limit_fault}
use Rattle.capacity.proofs.Faultless.{limit_test, begun_next}
use Rattle.bounds.specs.Counting.{SECTIONS, mosts, full_test, marked_at}

-- the first i tokens are counted, and none of them is at fault
pub record Passed (ms : List Marked) (counts : List ℕ) (i : ℕ) : Type 0 where
  pub counted : (k : Section) → get_or counts (entry_of k) 0 ≡ begun_in k (take i ms)
  pub left : limit_fault ms ≡ first_fault limit_test (take i ms) (drop i ms)

pub entry_below : (k : Section) → entry_of k < SECTIONS
entry_below interfaces = omega arith
entry_below signatures = omega arith
entry_below classes = omega arith
entry_below fields = omega arith
entry_below methods = omega arith
entry_below nodes = omega arith

pub most_at : (k : Section) → get_or mosts (entry_of k) 0 ≡ most_of k
unfolding mosts
most_at interfaces = refl
most_at signatures = refl
most_at classes = refl
most_at fields = refl
most_at methods = refl
most_at nodes = refl

mosts_fit : (e : ℕ) → get_or mosts e 0 ≤ NODES
unfolding mosts
mosts_fit zero = omega arith
mosts_fit (suc zero) = omega arith
mosts_fit (suc (suc zero)) = omega arith
mosts_fit (suc (suc (suc zero))) = omega arith
mosts_fit (suc (suc (suc (suc zero)))) = omega arith
mosts_fit (suc (suc (suc (suc (suc zero))))) = omega arith
mosts_fit (suc (suc (suc (suc (suc (suc e)))))) = omega arith

-- a counter that is not full has room
pub room : (counts : List ℕ) (e : ℕ) → e < SECTIONS → full_test counts e ≡ false → get_or counts e 0 < get_or mosts e 0
unfolding full_test
room counts e l f = leb-false _ _ (rw (lt-ltb e SECTIONS l) at f)

pub fits : (counts : List ℕ) (e : ℕ) → e < SECTIONS → full_test counts e ≡ false → get_or counts e 0 < NODES
fits counts e l f = omega (arith, room counts e l f, mosts_fit e)

-- of six tests the one at e
one_of : (e : ℕ) (f : ℕ → Bool) → e ≤ SECTIONS
    → (eqb e 0 && f 0) || ((eqb e 1 && f 1) || ((eqb e 2 && f 2) || ((eqb e 3 && f 3) || ((eqb e 4 && f 4) || ((eqb e 5 && f 5) || false)))))
    ≡ ltb e SECTIONS && f e
one_of zero f l = or-false (f 0)
one_of (suc zero) f l = or-false (f 1)
one_of (suc (suc zero)) f l = or-false (f 2)
one_of (suc (suc (suc zero))) f l = or-false (f 3)
one_of (suc (suc (suc (suc zero)))) f l = or-false (f 4)
one_of (suc (suc (suc (suc (suc zero))))) f l = or-false (f 5)
one_of (suc (suc (suc (suc (suc (suc zero)))))) f l = refl
one_of (suc (suc (suc (suc (suc (suc (suc e))))))) f l = absurd (omega arith)

-- what counting one does to each counter
pub one_counted :
    (counts : List ℕ) (e : ℕ) (k : Section)
    → length counts ≡ SECTIONS
    → get_or (set counts e (get_or counts e 0 + 1)) (entry_of k) 0 ≡ one_more_if (eqb e (entry_of k)) (get_or counts (entry_of k) 0)
one_counted counts e k s = go (eqb e (entry_of k)) refl
  where
    go : (b : Bool) → eqb e (entry_of k) ≡ b → get_or (set counts e (get_or counts e 0 + 1)) (entry_of k) 0 ≡ one_more_if b (get_or counts (entry_of k) 0)
    go true q = rw (eqb-true e (entry_of k) q, get_or-set_same counts (entry_of k) (get_or counts (entry_of k) 0 + 1) 0 (omega (arith, entry_below k)))
    go false q = get_or-set_other counts e (entry_of k) (get_or counts e 0 + 1) 0 (λ x. eqb-false e (entry_of k) q (sym x))

pub still_fits :
    (counts : List ℕ) (e : ℕ)
    → length counts ≡ SECTIONS
    → full_test counts e ≡ false
    → ((k : Section) → get_or counts (entry_of k) 0 ≤ most_of k)
    → (k : Section)
    → get_or (set counts e (get_or counts e 0 + 1)) (entry_of k) 0 ≤ most_of k
still_fits counts e s f m k = rw (one_counted counts e k s) (go (eqb e (entry_of k)) refl)
  where
    go : (b : Bool) → eqb e (entry_of k) ≡ b → one_more_if b (get_or counts (entry_of k) 0) ≤ most_of k
    go true q =
        let x : e ≡ entry_of k = eqb-true e (entry_of k) q in
        let y : get_or counts (entry_of k) 0 < get_or mosts (entry_of k) 0 = rw x at (room counts e (omega (arith, x, entry_below k)) f) in
        omega (arith, y, most_at k)
    go false q = m k

-- before the first token, and behind the last
pub start : (ms : List Marked) → Passed ms (replicate 6 0) 0
unfolding begun_in limit_fault
start ms = record { counted = λ k. zeros SECTIONS (entry_of k); left = refl }

pub passed_all : (ms : List Marked) (counts : List ℕ) (n : ℕ) → length ms ≡ n → Passed ms counts n → limit_fault ms ≡ none
unfolding first_fault
passed_all ms counts n s p = let l : length ms ≤ n = omega arith in p.left ∙ rw (drop_of_length-le ms l)

pub counted_all : (ms : List Marked) (counts : List ℕ) (n : ℕ) → length ms ≡ n → Passed ms counts n → (k : Section) → get_or counts (entry_of k) 0 ≡ begun_in k ms
counted_all ms counts n s p k = p.counted k ∙ ap (begun_in k) (take_all n ms (omega arith))

-- token i, of a role that begins a record of the section of entry e, or of none
module _
    (ms : List Marked) (counts : List ℕ) (i e : ℕ) (p : Passed ms counts i) (h : i < length ms) (l : e ≤ SECTIONS)
    (expression_ways : (k : Section) → begins_test k (marked_at ms i).role ≡ eqb e (entry_of k))
  where
    one_token : take (suc i) ms ≡ take i ms ++ (marked_at ms i ∷ [])
    one_token = take-suc ms i (record { role = PLAIN; marks = fixed TEXT_END }) h

    full_is : too_many_test sections (take i ms) (marked_at ms i) ≡ full_test counts e
    unfolding too_many_test sections full_test mosts
    full_is =
        rw (
          expression_ways interfaces,
          expression_ways signatures,
          expression_ways classes,
          expression_ways fields,
          expression_ways methods,
          expression_ways nodes,
          ← p.counted interfaces,
          ← p.counted signatures,
          ← p.counted classes,
          ← p.counted fields,
          ← p.counted methods,
          ← p.counted nodes,
        )
        (one_of e (λ j. leb (get_or mosts j 0) (get_or counts j 0)) l)

    here : limit_fault ms ≡ first_if (limit_test (take i ms) (marked_at ms i) (drop (i + 1) ms)) i (first_fault limit_test (take (i + 1) ms) (drop (i + 1) ms))
    unfolding first_fault
    here = rw (p.left, add-one i, drop-cons ms i (record { role = PLAIN; marks = fixed TEXT_END }) h, one_token, length-take-le i ms (omega arith))

    pub full_fault : full_test counts e ≡ true → limit_fault ms ≡ some i
    full_fault f = here ∙ rw (full_is, f)

    pub outside_fault : outside_test (marked_at ms i) (drop (i + 1) ms) ≡ true → limit_fault ms ≡ some i
    outside_fault f = here ∙ rw (f, or-true (too_many_test sections (take i ms) (marked_at ms i)))

    pub pass :
        length counts ≡ SECTIONS
        → full_test counts e ≡ false
        → outside_test (marked_at ms i) (drop (i + 1) ms) ≡ false
        → Passed ms (set counts e (get_or counts e 0 + 1)) (i + 1)
    pass s f g =
        record {
          counted = λ k. rw (one_counted counts e k s, p.counted k, add-one i, one_token, begun_next k (take i ms) (marked_at ms i), expression_ways k);
          left = here ∙ rw (full_is, f, g);
        }
