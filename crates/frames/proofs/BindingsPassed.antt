-- What the test of the bindings leaves to rely on: links run to earlier bindings, and every binding has a type. So a block in order that passes it is ready for the walk over its tree.
use mathlib.Core.Path.{◌≡◌, sym, ap, ◌∙◌}
use mathlib.Core.Bool.{Bool, true, ◌&&◌, and-eq-true_iff}
use mathlib.Core.List.{List}
use Prim.Native.Nat.{ℕ, zero, suc, ◌<◌, ◌≤◌}
use native.Mathlib.Omega.{arith}
use native.Mathlib.Decide.{ℕ_discrete}
use borrow.Author.Tests.{leb-true}
use lib.Dec.{leb, ltb}
use lib.ListN.{length}
use Rattle.script.specs.Syntax.{int_of}
use Rattle.script.specs.Regular.{IsType}
use Rattle.script.specs.Reading.{program_of}
use Rattle.machine.specs.Config.{Code, code_of, Object, Binding}
use Rattle.machine.specs.declared.Want.TheVariants.{Upto as upto}
use Rattle.machine.specs.Machine.{field_count}
use Rattle.machine.specs.Decide.{value_fits_test, binding_test, bindings_test}
use Rattle.block.specs.declared.Area.TheVariants.{Bindings}
use Rattle.block.specs.Layout.{word_in, TYPE, LINK}
use Rattle.environments.specs.Chains.{binding_count, binding_at, newest, bindings_in}
use Rattle.environments.proofs.ChainLaws.{length_newest}
use Rattle.parts.specs.Parts.{config_read, objects_in}
use Rattle.values.proofs.ReadLaws.{bindings_read}

-- one binding that passes, and binding i of bindings that all pass
binding_passed : (s : Code) (xs : List Object) (older : ℕ) (x : Binding) → binding_test s xs older x ≡ true → (x.link ≤ older) × IsType s.program x.type
binding_passed s xs older x h =
    let types : ℕ = int_of s.program in
    let value : Bool = value_fits_test s xs x.value (upto x.type) in
    let named = (and-eq-true_iff (ltb x.name 65536) (leb x.type types && (leb x.link older && value))).0 h in
    let typed = (and-eq-true_iff (leb x.type types) (leb x.link older && value)).0 named.1 in
    (leb-true x.link older ((and-eq-true_iff (leb x.link older) value).0 typed.1).0, leb-true x.type types typed.0)

each_passed : (s : Code) (xs : List Object) (f : ℕ → Binding) (n : ℕ) → bindings_test s xs (newest f n) ≡ true → (i : ℕ) → i < n → ((f i).link ≤ i) × IsType s.program (f i).type
each_passed s xs f zero h i l = absurd (omega arith)
each_passed s xs f (suc n) h i l =
    let all = (and-eq-true_iff (binding_test s xs (length (newest f n)) (f n)) (bindings_test s xs (newest f n))).0 h in
    elim (ℕ_discrete i n) [
      | yes q ↦ rw q (rw (length_newest f n) at (binding_passed s xs (length (newest f n)) (f n) all.0))
      | no q ↦ each_passed s xs f n all.1 i (omega arith)
    ]

pub bindings_passed : (s b : List ℕ) → bindings_test (code_of s) (objects_in s b) (config_read s b).stores.bindings ≡ true
    → (i : ℕ) → i < binding_count b → (word_in b Bindings i LINK ≤ i) × IsType (program_of s) (word_in b Bindings i TYPE)
unfolding bindings_in
bindings_passed s b h =
    each_passed (code_of s) (objects_in s b) (binding_at b) (binding_count b) (ap (bindings_test (code_of s) (objects_in s b)) (sym (bindings_read (field_count s) b)) ∙ h)
