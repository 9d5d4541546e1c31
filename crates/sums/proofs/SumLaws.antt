-- What each return of a sum comes to.
use mathlib.Core.Path.{◌≡◌, refl, sym, ap, ◌∙◌}
use mathlib.Core.Bool.{Bool, true, false}
use mathlib.Core.Logic.{⊎_elim}
use mathlib.Core.List.{List, [], ◌∷◌}
use mathlib.Core.Option.{Option, none, some}
use Prim.Native.Nat.{ℕ}
use native.Mathlib.Omega.{arith}
use lib.IntN.{ℤ, ◌+ℤ◌}
use mir.Syntax.{w32}
use mir.Val.{SFits}
use types.Run.{OneOf}
use denote.Enum.Declared.{tag_of}
use Rattle.words.specs.Integer.{range_test}
use Rattle.std.specs.declared.option.Option.{Option as CodeOption}
use Rattle.std.specs.declared.option.Option.TheVariants.{Some, None}
use Rattle.integers.specs.Sum.{within, sum_of}
use Rattle.integers.proofs.Signed.{read, read_is}
use Rattle.machine.specs.declared.Value.{Value}
use Rattle.machine.specs.declared.Value.TheVariants.{Null as nil, Ref as ref, Int as int}
use Rattle.machine.specs.contracts.Value.{the_type}
use Rattle.machine.specs.declared.Frame.{Frame}
use Rattle.machine.specs.Config as machine
use Rattle.machine.specs.Config.{Binding, Stores, returning, failed}
use Rattle.machine.specs.Machine.{scope, find, Outcome, still, moved, give_sum, add_values, add_bound}
use Rattle.environments.specs.Chains.{bindings_in, lookup_of}
use Rattle.state.specs.Represents.{Rest, StateAt}
use Rattle.sums.specs.Addends.{addend_in, addend_of}
use Rattle.moves.proofs.Laws.{scope_read, not_bound, bound}

-- a sum, by its range
given : (st : Stores) (fs : List Frame) (w z : ℤ) (q : Bool) → within q w ≡ Some z → give_sum st fs w q ≡ moved st (returning (int z) fs)
given st fs w z true e = cc
given st fs w z false e = absurd (let n : ◌≡◌ {A = ℕ} 0 1 = cc in omega arith)

outside : (st : Stores) (fs : List Frame) (w : ℤ) (q : Bool) → within q w ≡ None → give_sum st fs w q ≡ moved st failed
outside st fs w true e = absurd (let n : ◌≡◌ {A = ℕ} 0 1 = cc in omega arith)
outside st fs w false e = refl

-- what a variable holds, to be added
module _ (b : List ℕ) (env n : ℕ) (found : CodeOption Value) (e : found ≡ lookup_of (find (scope (bindings_in b) env) n)) where
  abbrev held : Option Binding
  held = find (scope (bindings_in b) env) n

  pub addend_unbound : found ≡ None → None ≡ addend_of held
  addend_unbound h = rw (not_bound held found e h)

  module _ (v : Value) (h : found ≡ Some v) where
    pub addend_other : OneOf (0 ∷ 1 ∷ []) (tag_of the_type v) → None ≡ addend_of held
    addend_other k = let y = bound held found v e h in rw (y.there, y.is) (go v k)
      where
        go : (w : Value) → OneOf (0 ∷ 1 ∷ []) (tag_of the_type w) → None ≡ addend_in w
        go nil k = refl
        go (ref o) k = refl
        go (int z) k = absurd (⊎_elim (λ (n : ◌≡◌ {A = ℕ} 2 0). omega arith) (λ (n : ◌≡◌ {A = ℕ} 2 1). omega arith) k)

    pub addend_number : {z : ℤ} → SFits w32 z → v ≡ int z → Some (read z) ≡ addend_of held
    addend_number i k = let y = bound held found v e h in rw (read_is i, y.there, y.is, k)

-- the addend in the block is that in the stores
pub addend_read : {b : List ℕ} {i : ℕ} {x : Rest} {st : Stores} {u : machine.Tree} (env n : ℕ) (a : CodeOption ℤ) → StateAt b i x st u
    → a ≡ addend_of (find (scope (bindings_in b) env) n) → a ≡ addend_of (find (scope st.bindings env) n)
addend_read env n a s e = e ∙ ap (λ (bs : List Binding). addend_of (find (scope bs env) n)) (scope_read s)

-- a sum by what the code has for its variables
abbrev added_by : Stores → List Frame → CodeOption ℤ → CodeOption ℤ → Outcome
added_by st fs None b = still
added_by st fs (Some x) None = still
added_by st fs (Some x) (Some y) = give_sum st fs (x +ℤ y) (range_test (x +ℤ y))

none_added : (st : Stores) (fs : List Frame) (a : CodeOption ℤ) → added_by st fs a None ≡ still
none_added st fs None = refl
none_added st fs (Some x) = refl

values_added : (st : Stores) (fs : List Frame) (v w : Value) → add_values st fs v w ≡ added_by st fs (addend_in v) (addend_in w)
values_added st fs nil w = refl
values_added st fs (ref o) w = refl
values_added st fs (int x) nil = refl
values_added st fs (int x) (ref o) = refl
values_added st fs (int x) (int y) = refl

added : (st : Stores) (fs : List Frame) (p q : Option Binding) → add_bound st fs p q ≡ added_by st fs (addend_of p) (addend_of q)
added st fs none q = refl
added st fs (some b) none = sym (none_added st fs (addend_in b.value))
added st fs (some b) (some c) = values_added st fs b.value c.value

-- what a sum of the variables n and m comes to
module _ (st : Stores) (fs : List Frame) (env n m : ℕ) where
  abbrev first : Option Binding
  first = find (scope st.bindings env) n

  abbrev second : Option Binding
  second = find (scope st.bindings env) m

  pub first_missing : {a : CodeOption ℤ} → a ≡ addend_of first → a ≡ None → add_bound st fs first second ≡ still
  first_missing l e = rw (added st fs first second, ← l, e)

  pub second_missing : {b : CodeOption ℤ} → b ≡ addend_of second → b ≡ None → add_bound st fs first second ≡ still
  second_missing r e = rw (added st fs first second, ← r, e) (none_added st fs (addend_of first))

  module _ {a b : CodeOption ℤ} (l : a ≡ addend_of first) (r : b ≡ addend_of second) {x y : ℤ} (f : a ≡ Some x) (g : b ≡ Some y) where
    both_there : add_bound st fs first second ≡ give_sum st fs (x +ℤ y) (range_test (x +ℤ y))
    both_there = rw (added st fs first second, ← l, ← r, f, g)

    module _ (i : SFits w32 x) (j : SFits w32 y) {made : CodeOption ℤ} (k : made ≡ sum_of (read x) (read y)) where
      made_is : made ≡ sum_of x y
      made_is = rw (read_is i, read_is j) at k

      pub sums : {z : ℤ} → SFits w32 z → made ≡ Some z → add_bound st fs first second ≡ moved st (returning (int (read z)) fs)
      sums {z} h e = rw (both_there, read_is h) (given st fs (x +ℤ y) z (range_test (x +ℤ y)) (sym made_is ∙ e))

      pub sum_fails : made ≡ None → add_bound st fs first second ≡ moved st failed
      sum_fails e = rw both_there (outside st fs (x +ℤ y) (range_test (x +ℤ y)) (sym made_is ∙ e))
