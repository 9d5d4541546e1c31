-- What each return of a waiting let comes to.
use mathlib.Core.Path.{◌≡◌, sym, ap, ◌∙◌}
use mathlib.Core.List.{List, ◌∷◌}
use Prim.Native.Nat.{ℕ, suc, ◌+◌, ◌-◌, ◌<◌, ◌≤◌}
use native.Mathlib.Omega.{arith}
use lib.ListN.{length}
use Rattle.limits.specs.Limits.{BINDINGS}
use Rattle.script.specs.Reading.{program_of, expr_at}
use Rattle.std.specs.declared.result.Result.TheVariants.{Ok, Err}
use Rattle.typing.specs.declared.Fault.{Fault}
use Rattle.typing.specs.Answers.{Answer}
use Rattle.typing.specs.Typing.{inferred}
use Rattle.machine.specs.declared.Value.{Value}
use Rattle.machine.specs.declared.Frame.{Frame}
use Rattle.machine.specs.declared.Store.TheVariants.{Bindings as bindings}
use Rattle.machine.specs.Config as machine
use Rattle.machine.specs.Config.{Binding, Stores, running}
use Rattle.machine.specs.Machine.{context, Outcome, still, full, moved, extend}
use Rattle.block.specs.declared.Area.TheVariants.{Bindings}
use Rattle.block.specs.Layout.{counted}
use Rattle.block.specs.Values.{Storable}
use Rattle.environments.specs.Chains.{bindings_in}
use Rattle.state.specs.Represents.{Rest, StateAt}
use Rattle.state.proofs.Seeing.{bindings_counted}
use Rattle.state.proofs.Moves.{lies, seen_bindings}
use Rattle.moves.proofs.Laws.{scope_read, no_room, some_room}
use Rattle.moves.proofs.FrameLaws.{Adds}

-- the binding is in the stores
pub bound_more : {b c : List ℕ} {i : ℕ} {x : Rest} {st : Stores} {u : machine.Tree} (y : Binding) (n : ℕ) → n ≡ counted b Bindings → n < BINDINGS
    → Storable y.value → Adds b c y
    → StateAt b i x st u → StateAt c i x (record { objects = st.objects; bindings = y ∷ st.bindings }) u
bound_more y n h l v add s = seen_bindings s y (omega arith) v (add (lies s) s.block)

module _ {b : List ℕ} {i : ℕ} {x : Rest} {st : Stores} {u : machine.Tree} (seen : StateAt b i x st u) (s : List ℕ) (fs : List Frame) (v : Value) (name a d env : ℕ)
    (first : Answer) (told : first ≡ inferred (program_of s) (context (bindings_in b) env) (expr_at s a)) where
  -- the answer is that under the bindings of the stores
  read : inferred (program_of s) (context st.bindings env) (expr_at s a) ≡ first
  read = sym (told ∙ ap (λ (bs : List Binding). inferred (program_of s) (context bs env) (expr_at s a)) (scope_read seen))

  abbrev outcome : Outcome
  outcome = extend st fs name v d env (inferred (program_of s) (context st.bindings env) (expr_at s a)) (BINDINGS - counted b Bindings)

  pub binds_not : {x : Fault} → first ≡ Err x → outcome ≡ still
  binds_not h = rw (read, h)

  pub binds_full : {t n : ℕ} → first ≡ Ok t → n ≡ counted b Bindings → BINDINGS ≤ n → outcome ≡ full bindings
  binds_full h k l = rw (read, h, no_room k l)

  pub binds : (t n : ℕ) → first ≡ Ok t → n ≡ counted b Bindings → n < BINDINGS
      → outcome ≡ moved (record { objects = st.objects; bindings = record { name = name; type = t; value = v; link = env } ∷ st.bindings }) (running d (n + 1) fs)
  binds t n h k l =
      let last : suc (length st.bindings) ≡ n + 1 = omega (arith, bindings_counted seen) in
      rw (read, h, some_room k l, last)
