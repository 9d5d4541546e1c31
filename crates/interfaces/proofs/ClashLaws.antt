-- What the code of question 9 answers: where all signatures of one name have the same types, every join has one meaning for a name.
use mathlib.Core.Path.{◌≡◌, sym, ap, ◌∙◌}
use mathlib.Core.Bool.{Bool, true, false, cond, ◌&&◌}
use mathlib.Core.List.{List}
use mathlib.Core.Logic.{⊎_elim}
use mathlib.Core.Option.{none}
use Prim.Native.Nat.{ℕ, suc, ◌<◌, ◌≤◌}
use native.Mathlib.Nat.{eq-or-lt_of_le}
use native.Mathlib.Omega.{arith}
use lib.Dec.{eqb}
use Rattle.script.specs.declared.Section.TheVariants.{Interfaces as interfaces, Signatures as signatures}
use Rattle.script.specs.Lists.{run, sum_below}
use Rattle.script.specs.Section.{count_of, record_word}
use Rattle.script.specs.Syntax.{Signature, Interface, lists, extends, Program}
use Rattle.script.specs.Reading.{own_signatures, signature_at, interface_at, program_of}
use Rattle.script.specs.Asking.{lowest_in, Each}
use Rattle.script.specs.Statements.{WithinLayout}
use Rattle.script.specs.Regular.{IsInterface}
use Rattle.script.proofs.Lists.{AtIndex, in_run, lt_or_le}
use Rattle.script.proofs.Declarations.{length_interfaces, interface_from, is_class}
use Rattle.script.proofs.Lowest.{lowest_none}
use Rattle.script.proofs.Tests.{says_yes, decides_and, decides_eq}
use Rattle.script.proofs.Regular.{regular}
use Rattle.typing.specs.Check.{joins_test}
use Rattle.typing.specs.Published.{MsigIn, msigs_list, msigs_left, msigs_right, msigs_class}
use Rattle.typing.specs.Refusals.{JoinIs, JoinsAre}
use Rattle.interfaces.specs.Cover.{Agrees, Unclashed}
use Rattle.members.specs.declared.Types.{Types}
use Rattle.members.specs.Lookup.{types_in}
use Rattle.typing.proofs.Types.{parent_types}
use Rattle.typing.proofs.Joins.{OneMeaning}
use Rattle.typing.proofs.Exact.{joins_lowest}
use Rattle.members.proofs.LookupLaws.{run_ends}

-- A signature agrees if its types are the same.
pub agrees_typed :
    (s : List ℕ) (name j : ℕ) (x y : Types) (r : Bool) → x ≡ types_in s signatures j → r ≡ eqb x.param y.param && eqb x.result y.result → r ≡ true
    → Agrees s name y.param y.result j
agrees_typed s name j x y r e q h n =
    let t = says_yes (decides_and (decides_eq x.param y.param) (decides_eq x.result y.result)) (sym q ∙ h) in
    (sym t.0 ∙ ap (λ t. t.param) e, sym t.1 ∙ ap (λ t. t.result) e)

-- All later signatures were gone through.
pub unclashed :
    (s : List ℕ) (i name n j : ℕ) (types : Types)
    → name ≡ record_word s signatures i 0
    → types ≡ types_in s signatures i
    → n ≡ count_of s signatures
    → n ≤ j
    → ((k : ℕ) → k < j → i < k → Agrees s name types.param types.result k)
    → Unclashed s i
unclashed s i name n j types p q e l all k h a = rw (p, q) at (all k (omega arith) a)

-- the signatures that an interface lists are a run of the script's
lists_run : (s : List ℕ) (i : ℕ) (gs : List Signature) → lists gs ≡ interface_at s i → gs ≡ run (signature_at s) (sum_below (own_signatures s) i) (own_signatures s i)
unfolding interface_at
lists_run s i gs e = go (eqb (record_word s interfaces i 0) 1) e
  where
    go :
        (b : Bool) → lists gs ≡ cond b (extends (record_word s interfaces i 1) (record_word s interfaces i 2)) (lists (run (signature_at s) (sum_below (own_signatures s) i) (own_signatures s i)))
        → gs ≡ run (signature_at s) (sum_below (own_signatures s) i) (own_signatures s i)
    go true h = absurd (let z : ◌≡◌ {A = ℕ} 0 1 = cc in omega arith)
    go false h = cc

-- signatures of one name are the same if none clashes with a later one
same_later : (s : List ℕ) (i j : ℕ) → Unclashed s i → i < j → j < count_of s signatures → (signature_at s i).name ≡ (signature_at s j).name → signature_at s i ≡ signature_at s j
unfolding signature_at
same_later s i j all l h n = let x = all j h l n in λ k. record { name = n k; param = x.0 k; result = x.1 k }

join_is : (p : Program) (t : ℕ) (i : Interface) → OneMeaning p t → JoinIs p t i
join_is p t (lists gs) one = tt
join_is p t (extends a b) one = one

module _ {s : List ℕ} (w : WithinLayout s) where
  -- every method of an interface is one of the script's signatures
  signature_there : {t : ℕ} {g : Signature} → IsInterface (program_of s) t → MsigIn (program_of s) t g → AtIndex (signature_at s) 0 (count_of s signatures) g
  signature_there {t} {g} h (msigs_list {gs = gs} e m) =
      let x = interface_from s t (lists gs) e in
      let y = in_run (signature_at s) (sum_below (own_signatures s) x.0) (own_signatures s x.0) g (rw (lists_run s x.0 gs x.3) at m) in
      record { index = y.index; from = omega arith; upto = omega (arith, y.upto, run_ends w signatures x.0 x.1); is = y.is }
  signature_there {t} h (msigs_left e i) = signature_there (parent_types (program_of s) (regular s w) t _ _ e).0 i
  signature_there {t} h (msigs_right e i) = signature_there (parent_types (program_of s) (regular s w) t _ _ e).1 i
  signature_there {t} h (msigs_class {c = c} e m) = absurd (omega (arith, h.last, (is_class (program_of s) t c e).past))

  module _ (all : (i : ℕ) → i < count_of s signatures → Unclashed s i) where
    one_name :
        (i j : ℕ) → i < count_of s signatures → j < count_of s signatures → (signature_at s i).name ≡ (signature_at s j).name
        → signature_at s i ≡ signature_at s j
    one_name i j a b n =
        ⊎_elim
        (λ (l : i < j). same_later s i j (all i a) l b n)
        (λ (l : j ≤ i). ⊎_elim (λ (e : j ≡ i). ap (signature_at s) (sym e)) (λ (k : j < i). sym (same_later s j i (all j b) k a (sym n))) (eq-or-lt_of_le l))
        (lt_or_le i j)

    one_there : (t : ℕ) → IsInterface (program_of s) t → OneMeaning (program_of s) t
    one_there t h g k x y n =
        let a = signature_there h x in
        let b = signature_there h y in
        a.is ∙ one_name a.index b.index (omega (arith, a.upto)) (omega (arith, b.upto)) (ap (λ m. m.name) (sym a.is) ∙ n ∙ ap (λ m. m.name) b.is) ∙ sym b.is

    joins_are : Each s (JoinsAre s)
    joins_are = (λ i h. join_is (program_of s) (suc i) (interface_at s i) (one_there (suc i) (record { first = omega arith; last = rw (length_interfaces s) h })), tt)

  -- No signature clashes with a later one, so question 9 gets a yes.
  pub no_clashes : (n i : ℕ) → n ≡ count_of s signatures → n ≤ i → ((k : ℕ) → k < i → Unclashed s k) → lowest_in s (joins_test s (program_of s)) ≡ none
  no_clashes n i e l all = lowest_none (joins_lowest s w) (joins_are (λ k h. all k (omega arith)))
