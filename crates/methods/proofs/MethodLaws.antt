-- What each return of a call comes to: the callees' contracts are premises, and the code's locals variables.
use mathlib.Core.Path.{◌≡◌, refl, ◌∙◌}
use mathlib.Core.List.{List, [], ◌∷◌, ◌++◌}
use mathlib.Core.Option.{some}
use Prim.Native.Nat.{ℕ, zero, suc, ◌+◌, ◌-◌, ◌<◌, ◌≤◌}
use native.Mathlib.Omega.{arith}
use lib.ListN.{length, get_or, length-append}
use Rattle.words.specs.Word.{WORD, bytes}
use Rattle.limits.specs.Limits.{BINDINGS}
use Rattle.std.specs.declared.option.Option.{Option as CodeOption}
use Rattle.std.specs.declared.option.Option.TheVariants.{Some, None}
use Rattle.script.specs.declared.Section.TheVariants.{Methods as methods}
use Rattle.script.specs.Section.{record_word}
use Rattle.script.specs.Syntax.{Method}
use Rattle.script.specs.Reading.{method_at, program_of}
use Rattle.script.specs.Statements.{WithinLayout}
use Rattle.machine.specs.declared.Value.{Value}
use Rattle.machine.specs.declared.Value.TheVariants.{Ref as ref}
use Rattle.machine.specs.declared.Frame.{Frame}
use Rattle.machine.specs.declared.Store.TheVariants.{Bindings as bindings}
use Rattle.machine.specs.Config as machine
use Rattle.machine.specs.Config.{code_of, Binding, Stores, running}
use Rattle.typing.specs.Members.{defined_in}
use Rattle.machine.specs.Machine.{object, Outcome, still, full, moved, call_bindings, call_method, call_object}
use Rattle.block.specs.declared.Area.TheVariants.{Objects, Bindings}
use Rattle.block.specs.Layout.{counted, word_in}
use Rattle.block.specs.Values.{Storable}
use Rattle.block.specs.Block.{Parts, laid}
use Rattle.representation.specs.Changed.{with_bindings}
use Rattle.classes.specs.Defined.{MethodIs}
use Rattle.classes.proofs.MethodLaws.{defined_none, defined_at, param_word, body_word}
use Rattle.environments.proofs.LaidLaws as Laid-laws
use Rattle.environments.proofs.LaidLaws.{object_there}
use Rattle.state.specs.Represents.{Rest, StateAt}
use Rattle.state.proofs.Seeing.{objects_counted, bindings_counted}
use Rattle.state.proofs.Moves.{lies, seen_bindings}
use Rattle.moves.proofs.TargetLaws.{blank_object}
use Rattle.moves.proofs.FrameLaws.{Adds, class_read}

pub one_more : {b c : List ℕ} (p : Parts) (y : Binding) → b ≡ bytes (laid p) → Adds b c y → counted c Bindings ≡ suc (counted b Bindings)
one_more p y is adds =
    Laid-laws.bindings_counted (with_bindings p (p.bindings ++ y ∷ [])) (adds p is)
    ∙ omega (arith, length-append p.bindings (y ∷ []), Laid-laws.bindings_counted p is)

module _ {b : List ℕ} {i : ℕ} {x : Rest} {st : Stores} {u : machine.Tree} (s : StateAt b i x st u) where
  -- the two bindings of a call
  pub adds_call : {b₁ c : List ℕ} (n class o param : ℕ) (v : Value) → n ≡ counted b Bindings → n + 2 ≤ BINDINGS → o < WORD → Storable v
      → Adds b b₁ (record { name = 0; type = class; value = ref o; link = 0 }) → Adds b₁ c (record { name = 1; type = param; value = v; link = n + 1 })
      → StateAt c i x (record { objects = st.objects; bindings = call_bindings class o param v st.bindings }) u
  adds_call n class o param v e l small fits adds adds₁ =
      let this : Binding = record { name = 0; type = class; value = ref o; link = 0 } in
      let p = lies s in
      let first = seen_bindings s this (omega arith) small (adds p s.block) in
      let k : n + 1 ≡ suc (length st.bindings) = omega (arith, bindings_counted s) in
      let room = one_more p this s.block adds in
      let second = seen_bindings first (record { name = 1; type = param; value = v; link = n + 1 }) (omega arith) fits
      (adds₁ (lies first) first.block) in
      rw k at second

-- a call with too few places left
call_full : (st : Stores) (fs : List Frame) (v : Value) (o class : ℕ) (d : Method) (room : ℕ) → room < 2 → call_method st fs v o class (some d) room ≡ full bindings
call_full st fs v o class d zero l = refl
call_full st fs v o class d (suc zero) l = refl
call_full st fs v o class d (suc (suc k)) l = absurd (omega arith)

-- the method of the object's class, entered
module _ {b : List ℕ} {i : ℕ} {x : Rest} {st : Stores} {u : machine.Tree} (seen : StateAt b i x st u) (s : List ℕ) (fs : List Frame) (m : ℕ) (v : Value) (o class : ℕ)
    (l : o < counted b Objects) (e : class ≡ word_in b Objects o 0) (found : CodeOption ℕ) (is : MethodIs s class m found) where
  abbrev due : Outcome
  due = call_object (code_of s) st fs m v (BINDINGS - counted b Bindings) o (object st.objects o)

  met : due ≡ call_method st fs v o class (defined_in (program_of s) class m) (BINDINGS - counted b Bindings)
  met =
      let z = object_there st.objects o blank_object (omega (arith, objects_counted seen)) in
      rw (z, ← class_read seen o class (get_or st.objects o blank_object) z e)

  pub enters_none : found ≡ None → due ≡ still
  enters_none k = rw (met, defined_none is k)

  module _ (j n : ℕ) (k : found ≡ Some j) (many : n ≡ counted b Bindings) where
    pub enters_full : BINDINGS < n + 2 → due ≡ full bindings
    enters_full h = rw (met, (defined_at is k).1, call_full st fs v o class (method_at s j) (BINDINGS - counted b Bindings) (omega arith))

    pub enters : (param body : ℕ) → WithinLayout s → n + 2 ≤ BINDINGS → param ≡ record_word s methods j 1 → body ≡ record_word s methods j 3
        → due ≡ moved (record { objects = st.objects; bindings = call_bindings class o param v st.bindings }) (running body (n + 2) fs)
    enters param body w h p q =
        let d = defined_at is k in
        let room : BINDINGS - counted b Bindings ≡ suc (suc (BINDINGS - n - 2)) = omega arith in
        let env : suc (suc (length st.bindings)) ≡ n + 2 = omega (arith, bindings_counted seen) in
        rw (met, d.1, room, env, ← param_word s j, ← body_word s j w d.0, ← p, ← q)
