-- Laws of entries whose values are words.
use mathlib.Core.List.{List, [], ◌∷◌, ◌++◌}
use Prim.Native.Nat.{ℕ, zero, suc, ◌+◌, ◌<◌}
use native.Mathlib.Omega.{arith}
use lib.ListN.{length, take, drop, get_or}
use Rattle.representation.specs.Preorder.{splice}
use Rattle.script.specs.Lists.{Every}
use Rattle.tree.specs.declared.Entry.{Entry}
use Rattle.tree.specs.Entries.{Worded}

module _ {A : Type 0} (P : A → Type 0) where
  pub every_append : (a b : List A) → Every P a → Every P b → Every P (a ++ b)
  every_append [] b p q = q
  every_append (x ∷ a) b p q = (p.0, every_append a b p.1 q)

  every_take : (n : ℕ) (l : List A) → Every P l → Every P (take n l)
  every_take zero l p = _
  every_take (suc n) [] p = _
  every_take (suc n) (x ∷ l) p = (p.0, every_take n l p.1)

  every_drop : (n : ℕ) (l : List A) → Every P l → Every P (drop n l)
  every_drop zero l p = p
  every_drop (suc n) [] p = p
  every_drop (suc n) (x ∷ l) p = every_drop n l p.1

  pub every_at : (l : List A) (k : ℕ) (d : A) → k < length l → Every P l → P (get_or l k d)
  every_at [] k d h p = absurd (omega arith)
  every_at (x ∷ l) zero d h p = p.0
  every_at (x ∷ l) (suc k) d h p = every_at l k d (omega arith) p.1

-- entries exchanged for others
pub splice_worded : (l : List Entry) (at old : ℕ) (new : List Entry) → Worded new → Worded l → Worded (splice l at old new)
splice_worded l at old new p q = every_append _ (take at l) (new ++ drop (at + old) l) (every_take _ at l q) (every_append _ new (drop (at + old) l) p (every_drop _ (at + old) l q))
