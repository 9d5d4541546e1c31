-- The records of an area: what the loop over them answers.
use mathlib.Core.Path.{◌≡◌}
use mathlib.Core.Bool.{Bool, true, false, not}
use mathlib.Core.List.{List}
use Prim.Native.Nat.{ℕ, ◌+◌, ◌<◌, ◌≤◌}
use native.Mathlib.Omega.{arith}
use native.Mathlib.Decide.{dec_lt}
use Rattle.script.specs.Asking.{Decides, holds, fails}
use Rattle.block.specs.declared.Area.{Area}
use Rattle.block.specs.Layout.{most, counted, word_in}
use Rattle.representation.specs.InOrder.{RecordOk, RecordsOk}
use Rattle.in_order.proofs.Answers.{after_yes, after_no}

-- A record of a known area.
pub place_there : (a k : Area) (i : ℕ) → a ≡ k → i < most a → i < most k
place_there a k i e h = rw e at h

pub record_there : (fields : ℕ → ℕ) (b : List ℕ) (a k : Area) (i : ℕ) {r : Bool} → a ≡ k → Decides (RecordOk fields k (word_in b k i)) r → Decides (RecordOk fields a (word_in b a i)) r
record_there fields b a k i e d = rw e d

module _ {fields : ℕ → ℕ} {b : List ℕ} {a : Area} where
  pub none_asked : RecordsOk fields b a 0
  none_asked = record { each = λ j h. absurd (omega arith) }

  pub one_more : {i : ℕ} {r : Bool} → RecordsOk fields b a i → Decides (RecordOk fields a (word_in b a i)) r → not r ≡ false → RecordsOk fields b a (i + 1)
  one_more {i} ok d e = record { each = λ j h. elim (dec_lt j i) [ yes y ↦ ok.each j y | no y ↦ let q : j ≡ i = omega arith in rw q (after_yes d e) ] }

  pub all_asked : {i : ℕ} (n : ℕ) → RecordsOk fields b a i → n ≡ counted b a → n ≤ i → Decides (RecordsOk fields b a (counted b a)) true
  all_asked n ok c h = holds (record { each = λ j l. ok.each j (omega (arith, c)) })

pub one_not :
    (fields : ℕ → ℕ) (b : List ℕ) (a : Area) (i n : ℕ) {r : Bool} → n ≡ counted b a → i < n → Decides (RecordOk fields a (word_in b a i)) r → not r ≡ true
    → Decides (RecordsOk fields b a (counted b a)) false
one_not fields b a i n c h d e = fails (λ ok. after_no d e (ok.each i (omega (arith, c))))
