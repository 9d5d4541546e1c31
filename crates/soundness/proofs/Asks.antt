-- No object is asked for a field or a method that its class lacks.
use Prim.Native.Nat.{ℕ}
use mathlib.Core.Path.{◌≡◌}
use mathlib.Core.Option.{some}
use mathlib.Core.List.{List}
use Rattle.script.specs.Syntax.{Point, n_update, n_call, select}
use Rattle.typing.specs.Members.{type_in}
use Rattle.typing.specs.Published.{Sub, FieldIn, MsigIn, BD-INFER-VAR, BD-INFER-SELECT}
use Rattle.typing.proofs.Environments.{type_in_lem}
use Rattle.machine.specs.declared.Value.TheVariants.{Ref as ref}
use Rattle.machine.specs.Config.{Code, Object, Stores, Tree}
use Rattle.machine.specs.Machine.{context, object}
use Rattle.machine.specs.declared.Want.{Want}
use Rattle.machine.specs.declared.Want.TheVariants.{Upto as upto}
use Rattle.machine.specs.WellFormed.{meets_type, ValueFits, fits_ref, Gives, gives_type, StoresOk, Awaits, a_write, a_call, a_node, TreeOk, running_ok, returning_ok}
use Rattle.machine.specs.Accepted.{AcceptedCode}
use Rattle.machine.specs.Asks.{TargetObject, AsksField, reads, writes, AsksMethod, invokes}
use Rattle.machine.proofs.Types.{below_class, below_method, field_declared}
use Rattle.soundness.proofs.Stores.{fit_binding}

ref_below : {s : Code} {xs : List Object} {o t : ℕ} {y : Object} → object xs o ≡ some y → ValueFits s xs (ref o) (upto t) → Sub s.program y.class t
ref_below {s} {t = t} {y = y} h (fits_ref {x = z} k (meets_type b)) = let e : z ≡ y = cc in rw e at b

module _ {s : Code} {start : ℕ} {st : Stores} (acc : AcceptedCode s start) (ok : StoresOk s st) where
  pub target_below : {y : Object} (e x t : ℕ) → type_in (context st.bindings e) x ≡ some t → TargetObject st e x y → Sub s.program y.class t
  target_below e x t h g =
      let k = fit_binding e x t ok.bindings h in
      let i : k.binding.value ≡ ref g.number = cc (k.there, g.holds.there, g.holds.value) in
      ref_below g.object (rw i at k.fits)

  -- A field of the variable's type is one of the object's class.
  target_field : {c u : ℕ} (f : ℕ) (y : Object) (x e : ℕ) → TargetObject st e x y → type_in (context st.bindings e) x ≡ some c → FieldIn s.program c f u
      → (u : ℕ) × FieldIn s.program y.class f u
  target_field {c} {u} f y x e g h d = let i : y.class ≡ c = below_class acc (field_declared acc d).0 (target_below e x c h g) in (u, rw i d)

  select_there : {n : Point} (f : ℕ) (y : Object) (x e : ℕ) (v : Want) → TargetObject st e x y → Gives s (context st.bindings e) (select n x f) v → (u : ℕ) × FieldIn s.program y.class f u
  select_there f y x e v g (gives_type (BD-INFER-SELECT (BD-INFER-VAR w h) d o) m) = target_field f y x e g (type_in_lem h) d

  update_there : {t : ℕ} {v : Want} {a : Point} (f : ℕ) (y : Object) (x e : ℕ) → TargetObject st e x y → Awaits s (context st.bindings e) (n_update x f a) t v → (u : ℕ) × FieldIn s.program y.class f u
  update_there f y x e g (a_write h d m) = target_field f y x e g (type_in_lem h) d

  call_there : {t : ℕ} {v : Want} {a : Point} (m : ℕ) (y : Object) (x e : ℕ) → TargetObject st e x y → Awaits s (context st.bindings e) (n_call x m a) t v
      → (t u : ℕ) × MsigIn s.program y.class (record { name = m; param = t; result = u })
  call_there {t} m y x e q (a_call {c = c} {u = u} h i j) = (t, u, below_method acc (target_below e x c (type_in_lem h) q) i)

  -- Every read and waiting write due on an object names a field that its class has.
  pub field_there : {w : Want} {t : Tree} (f : ℕ) (y : Object) → TreeOk s st w t → AsksField s st f y t → (u : ℕ) × FieldIn s.program y.class f u
  field_there f y (running_ok {v = v} le k r) (reads {a = a} {x = x} {e = e} i g) = select_there f y x e v g (rw (acc.built a k.node, i) at k.gives)
  field_there f y (returning_ok k (a_node z le h r)) (writes {x = x} {e = e} i g) = update_there f y x e g (rw i at h)
  field_there {w = w} f y (returning_ok k Rattle.machine.specs.WellFormed.no_frames) x12 = elim x12 [ ]
  field_there {w = w} f y (returning_ok k (Rattle.machine.specs.WellFormed.a_cast {n = n} {a = a} {t = t} {fs = fs} {v = v} _ _ _ _)) x25 = elim x25 [ ]
  field_there {w = w} f y (returning_ok {v = v} k (Rattle.machine.specs.WellFormed.a_lock {o = o} {fs = fs} _)) x17 = elim x17 [ ]
  field_there {w = w} f y Rattle.machine.specs.WellFormed.failed_ok x5 = elim x5 [ ]
  field_there {w = w} f y (Rattle.machine.specs.WellFormed.join_ok {v = v} {a = a} {e = e} {fs = fs} {l = l} {r = r} _ _ _ _ _) x21 = elim x21 [ ]

  -- Every waiting call due on an object names a method that its class has.
  pub method_there : {w : Want} {t : Tree} (m : ℕ) (y : Object) → TreeOk s st w t → AsksMethod s st m y t → (t u : ℕ) × MsigIn s.program y.class (record { name = m; param = t; result = u })
  method_there m y (returning_ok k (a_node z le h r)) (invokes {x = x} {e = e} i q) = call_there m y x e q (rw i at h)
  method_there {w = w} m y (running_ok {v = v} {a = a} {e = e} {fs = fs} _ _ _) x13 = elim x13 [ ]
  method_there {w = w} m y (returning_ok k Rattle.machine.specs.WellFormed.no_frames) x13 = elim x13 [ ]
  method_there {w = w} m y (returning_ok k (Rattle.machine.specs.WellFormed.a_cast {n = n} {a = a} {t = t} {fs = fs} {v = v} _ _ _ _)) x26 = elim x26 [ ]
  method_there {w = w} m y (returning_ok {v = v} k (Rattle.machine.specs.WellFormed.a_lock {o = o} {fs = fs} _)) x18 = elim x18 [ ]
  method_there {w = w} m y Rattle.machine.specs.WellFormed.failed_ok x6 = elim x6 [ ]
  method_there {w = w} m y (Rattle.machine.specs.WellFormed.join_ok {v = v} {a = a} {e = e} {fs = fs} {l = l} {r = r} _ _ _ _ _) x22 = elim x22 [ ]
