-- A published step of a thread is one of the expression in its frames, and that has only one.
use Prim.Native.Nat.{ℕ, ◌≤◌}
use native.Mathlib.Omega.{arith}
use mathlib.Core.Path.{◌≡◌, refl, sym, ◌∙◌, ap}
use mathlib.Core.List.{List, [], ◌∷◌}
use mathlib.Core.Option.{some}
use lib.IntN.{ℤ, ◌+ℤ◌}
use Rattle.words.specs.Integer.{InRange}
use Rattle.script.specs.Syntax.{Program}
use Rattle.machine.specs.declared.Value.{Value}
use Rattle.machine.specs.declared.Value.TheVariants.{Null as nil}
use Rattle.machine.specs.declared.Frame.{Frame}
use Rattle.machine.specs.Config.{Code, Binding}
use Rattle.published.specs.Steps.{PVar, fresh, PExpr, p_value, p_var, p_select, p_update, p_call, p_let, p_new, p_cast, p_fork, p_lock, p_locked, p_add, Hole, h_update, h_call, h_let, h_cast, h_locked, fill, PTree, p_thread, p_join, p_failed, World, entry_value, Reduce, DYN-EVAL-VAR, DYN-EVAL-LET, DYN-EVAL-CALL, DYN-EVAL-CAST, DYN-EVAL-SELECT, DYN-EVAL-UPDATE, DYN-EVAL-NEW, DYN-EVAL-LOCK, DYN-EVAL-LOCK-REENTRANT, DYN-EVAL-LOCK-RELEASE, DYN-EVAL-SPAWN, DYN-NPE-SELECT, DYN-NPE-UPDATE, DYN-NPE-CALL, DYN-NPE-LOCK, DYN-EVAL-ADD, DYN-EXCEPTION-ADD, Step, reduces, DYN-EVAL-CONTEXT, DYN-EVAL-SPAWN-CONTEXT, DYN-EXCEPTION-CONTEXT}
use Rattle.published.specs.ReadAs.{hole, plug}

-- What a step of the expression in a hole makes of the whole.
abbrev pub out : Hole → PTree → PTree
out E (p_thread L a) = p_thread L (fill E a)
out E (p_join T U a) = p_join T U (fill E a)
out E p_failed = p_failed

abbrev pub outs : Code → List Binding → List Frame → PTree → PTree
outs s bs [] T = T
outs s bs (f ∷ fs) T = outs s bs fs (out (hole s bs f) T)

abbrev pub NotValue : PExpr → Type 0
NotValue a = (v : Value) → a ≡ p_value v → ⊥

fill_active : (E : Hole) (a : PExpr) → NotValue (fill E a)
fill_active (h_let x b) a v h = let z : ◌≡◌ {A = ℕ} 0 1 = cc in omega arith
fill_active (h_cast t) a v h = let z : ◌≡◌ {A = ℕ} 0 1 = cc in omega arith
fill_active (h_locked o) a v h = let z : ◌≡◌ {A = ℕ} 0 1 = cc in omega arith
fill_active (h_update x f) a v h = let z : ◌≡◌ {A = ℕ} 0 1 = cc in omega arith
fill_active (h_call x m) a v h = let z : ◌≡◌ {A = ℕ} 0 1 = cc in omega arith

same_hole : (E F : Hole) (a b : PExpr) → fill E a ≡ fill F b → (E ≡ F) × (a ≡ b)
same_hole (h_let x c) (h_let x' c') a b h = (cc, cc)
same_hole (h_let x c) (h_cast t') a b h = (cc, cc)
same_hole (h_let x c) (h_locked o') a b h = (cc, cc)
same_hole (h_let x c) (h_update y' f') a b h = (cc, cc)
same_hole (h_let x c) (h_call z' m') a b h = (cc, cc)
same_hole (h_cast t) (h_let x' c') a b h = (cc, cc)
same_hole (h_cast t) (h_cast t') a b h = (cc, cc)
same_hole (h_cast t) (h_locked o') a b h = (cc, cc)
same_hole (h_cast t) (h_update y' f') a b h = (cc, cc)
same_hole (h_cast t) (h_call z' m') a b h = (cc, cc)
same_hole (h_locked o) (h_let x' c') a b h = (cc, cc)
same_hole (h_locked o) (h_cast t') a b h = (cc, cc)
same_hole (h_locked o) (h_locked o') a b h = (cc, cc)
same_hole (h_locked o) (h_update y' f') a b h = (cc, cc)
same_hole (h_locked o) (h_call z' m') a b h = (cc, cc)
same_hole (h_update y f) (h_let x' c') a b h = (cc, cc)
same_hole (h_update y f) (h_cast t') a b h = (cc, cc)
same_hole (h_update y f) (h_locked o') a b h = (cc, cc)
same_hole (h_update y f) (h_update y' f') a b h = (cc, cc)
same_hole (h_update y f) (h_call z' m') a b h = (cc, cc)
same_hole (h_call z m) (h_let x' c') a b h = (cc, cc)
same_hole (h_call z m) (h_cast t') a b h = (cc, cc)
same_hole (h_call z m) (h_locked o') a b h = (cc, cc)
same_hole (h_call z m) (h_update y' f') a b h = (cc, cc)
same_hole (h_call z m) (h_call z' m') a b h = (cc, cc)

pub record Inner (p : Program) (W : World) (L : List ℕ) (a : PExpr) (X : World) (T : PTree) (f : PTree → PTree) : Type 0 where
  pub after : PTree
  pub step : Step p W (p_thread L a) X after
  pub whole : T ≡ f after

in_hole : {p : Program} {W X : World} {L : List ℕ} (E F : Hole) (a b : PExpr) (T : PTree) → fill E a ≡ fill F b → Step p W (p_thread L b) X T → Inner p W L a X (out F T) (out E)
in_hole E F a b T h k =
    let q = same_hole E F a b h in
    record { after = T; step = rw q.1 k; whole = rw q.0 }

-- the forms of expressions
abbrev pub tag : PExpr → ℕ
tag (p_value v) = 0
tag (p_var x) = 1
tag (p_let x a b) = 5
tag (p_new c) = 2
tag (p_cast t a) = 5
tag (p_fork a b c) = 3
tag (p_lock x a) = 4
tag (p_locked o a) = 5
tag (p_select x f) = 6
tag (p_update x f a) = 5
tag (p_call x m a) = 5
tag (p_add x y) = 7

pub fill_tag : (E : Hole) (a : PExpr) → tag (fill E a) ≡ 5
fill_tag (h_let x b) a = refl
fill_tag (h_cast t) a = refl
fill_tag (h_locked o) a = refl
fill_tag (h_update x f) a = refl
fill_tag (h_call x m) a = refl

-- a rule takes an expression in a hole only with a value there
reduce_active : {p : Program} {W X : World} {L : List ℕ} {c : PExpr} {T : PTree} → Reduce p W L c X T → (E : Hole) (a : PExpr) → NotValue a → fill E a ≡ c → ⊥
reduce_active (DYN-EVAL-VAR h) E a n e = omega (arith, ap tag e, fill_tag E a)
reduce_active (DYN-EVAL-LET {x = x} {v = v} {a = b} y h k) E a n e = n v (same_hole E (h_let x b) a (p_value v) e).1
reduce_active (DYN-EVAL-CAST {t = t} {v = v}) E a n e = n v (same_hole E (h_cast t) a (p_value v) e).1
reduce_active DYN-EVAL-NEW E a n e = omega (arith, ap tag e, fill_tag E a)
reduce_active (DYN-EVAL-LOCK h k l m) E a n e = omega (arith, ap tag e, fill_tag E a)
reduce_active (DYN-EVAL-LOCK-REENTRANT h k l m) E a n e = omega (arith, ap tag e, fill_tag E a)
reduce_active (DYN-EVAL-LOCK-RELEASE {o = o} {v = v} h k) E a n e = n v (same_hole E (h_locked o) a (p_value v) e).1
reduce_active (DYN-NPE-LOCK h) E a n e = omega (arith, ap tag e, fill_tag E a)
reduce_active DYN-EVAL-SPAWN E a n e = omega (arith, ap tag e, fill_tag E a)
reduce_active (DYN-EVAL-SELECT h k l m) E a n e = omega (arith, ap tag e, fill_tag E a)
reduce_active (DYN-EVAL-UPDATE {x = x} {f = f} {v = v} h k l) E a n e = n v (same_hole E (h_update (fresh x) f) a (p_value v) e).1
reduce_active (DYN-EVAL-CALL {x = x} {m = m} {v = v} i j h k l o q r s) E a n e = n v (same_hole E (h_call (fresh x) m) a (p_value v) e).1
reduce_active (DYN-NPE-SELECT h) E a n e = omega (arith, ap tag e, fill_tag E a)
reduce_active (DYN-NPE-UPDATE {x = x} {f = f} {v = v} h) E a n e = n v (same_hole E (h_update (fresh x) f) a (p_value v) e).1
reduce_active (DYN-NPE-CALL {x = x} {m = m} {v = v} h) E a n e = n v (same_hole E (h_call (fresh x) m) a (p_value v) e).1
reduce_active (DYN-EVAL-ADD h k r) E a n e = omega (arith, ap tag e, fill_tag E a)
reduce_active (DYN-EXCEPTION-ADD h k r) E a n e = omega (arith, ap tag e, fill_tag E a)

unhole : {p : Program} {W X : World} {L : List ℕ} (E : Hole) (a : PExpr) {T : PTree} → NotValue a → Step p W (p_thread L (fill E a)) X T → Inner p W L a X T (out E)
unhole E a n (reduces r) = absurd (reduce_active r E a n refl)
unhole E a n (DYN-EVAL-CONTEXT F h k) = in_hole E F a _ _ h k
unhole E a n (DYN-EVAL-SPAWN-CONTEXT F h k) = in_hole E F a _ _ h k
unhole E a n (DYN-EXCEPTION-CONTEXT F h k) = in_hole E F a _ _ h k

pub unplug : {p : Program} {W X : World} {L : List ℕ} (s : Code) (bs : List Binding) (fs : List Frame) (a : PExpr) {T : PTree} → NotValue a → Step p W (p_thread L (plug s bs fs a)) X T → Inner p W L a X T (outs s bs fs)
unplug s bs [] a {T} n h = record { after = T; step = h; whole = refl }
unplug s bs (f ∷ fs) a n h =
    let i = unplug s bs fs (fill (hole s bs f) a) (fill_active (hole s bs f) a) h in
    let j = unhole (hole s bs f) a n i.step in
    record { after = j.after; step = j.step; whole = i.whole ∙ ap (outs s bs fs) j.whole }

-- Expressions that a rule takes as a whole.
pub data Redex : PExpr → Type 0 where
  r_var : {x : PVar} → Redex (p_var x)
  r_new : {c : ℕ} → Redex (p_new c)
  r_fork : {a b c : PExpr} → Redex (p_fork a b c)
  r_lock : {x : PVar} {a : PExpr} → Redex (p_lock x a)
  r_select : {x : PVar} {f : ℕ} → Redex (p_select x f)
  r_add : {x y : PVar} → Redex (p_add x y)
  r_hole : {a : PExpr} (E : Hole) (v : Value) → a ≡ fill E (p_value v) → Redex a

reduce_tag : {p : Program} {W X : World} {L : List ℕ} {a : PExpr} {T : PTree} → Reduce p W L a X T → 1 ≤ tag a
reduce_tag (DYN-EVAL-VAR h) = omega arith
reduce_tag (DYN-EVAL-LET y h k) = omega arith
reduce_tag DYN-EVAL-CAST = omega arith
reduce_tag DYN-EVAL-NEW = omega arith
reduce_tag (DYN-EVAL-LOCK h k l m) = omega arith
reduce_tag (DYN-EVAL-LOCK-REENTRANT h k l m) = omega arith
reduce_tag (DYN-EVAL-LOCK-RELEASE h k) = omega arith
reduce_tag (DYN-NPE-LOCK h) = omega arith
reduce_tag DYN-EVAL-SPAWN = omega arith
reduce_tag (DYN-EVAL-SELECT h k l m) = omega arith
reduce_tag (DYN-EVAL-UPDATE h k l) = omega arith
reduce_tag (DYN-EVAL-CALL i j h k l m n o r) = omega arith
reduce_tag (DYN-NPE-SELECT h) = omega arith
reduce_tag (DYN-NPE-UPDATE h) = omega arith
reduce_tag (DYN-NPE-CALL h) = omega arith
reduce_tag (DYN-EVAL-ADD h k r) = omega arith
reduce_tag (DYN-EXCEPTION-ADD h k n) = omega arith

pub value_stuck : {p : Program} {W X : World} {L : List ℕ} {a : PExpr} {T : PTree} (v : Value) → a ≡ p_value v → Step p W (p_thread L a) X T → ⊥
value_stuck v e (reduces h) = omega (arith, ap tag e, reduce_tag h)
value_stuck v e (DYN-EVAL-CONTEXT {a = a} E h k) = omega (arith, ap tag e, ap tag h, fill_tag E a)
value_stuck v e (DYN-EVAL-SPAWN-CONTEXT {a = a} E h k) = omega (arith, ap tag e, ap tag h, fill_tag E a)
value_stuck v e (DYN-EXCEPTION-CONTEXT {a = a} E h k) = omega (arith, ap tag e, ap tag h, fill_tag E a)

no_context : {p : Program} {W X : World} {L : List ℕ} {a b : PExpr} {T : PTree} → Redex a → (F : Hole) → a ≡ fill F b → Step p W (p_thread L b) X T → ⊥
no_context {b = b} r_var F e h = omega (arith, ap tag e, fill_tag F b)
no_context {b = b} r_new F e h = omega (arith, ap tag e, fill_tag F b)
no_context {b = b} r_fork F e h = omega (arith, ap tag e, fill_tag F b)
no_context {b = b} r_lock F e h = omega (arith, ap tag e, fill_tag F b)
no_context {b = b} r_select F e h = omega (arith, ap tag e, fill_tag F b)
no_context {b = b} r_add F e h = omega (arith, ap tag e, fill_tag F b)
no_context {b = b} (r_hole E v k) F e h = value_stuck v (sym (same_hole E F (p_value v) b (sym k ∙ e)).1) h

pub only_reduce : {p : Program} {W X : World} {L : List ℕ} {a : PExpr} {T : PTree} → Redex a → Step p W (p_thread L a) X T → Reduce p W L a X T
only_reduce r (reduces h) = h
only_reduce r (DYN-EVAL-CONTEXT F e h) = absurd (no_context r F e h)
only_reduce r (DYN-EVAL-SPAWN-CONTEXT F e h) = absurd (no_context r F e h)
only_reduce r (DYN-EXCEPTION-CONTEXT F e h) = absurd (no_context r F e h)

pub redex_active : {a : PExpr} → Redex a → NotValue a
redex_active r_var v h = omega (arith, ap tag h)
redex_active r_new v h = omega (arith, ap tag h)
redex_active r_fork v h = omega (arith, ap tag h)
redex_active r_lock v h = omega (arith, ap tag h)
redex_active r_select v h = omega (arith, ap tag h)
redex_active r_add v h = omega (arith, ap tag h)
redex_active (r_hole E w k) v h = omega (arith, ap tag h, ap tag k, fill_tag E (p_value w))

-- a sum is in range or is not
in_and_out : (y z : ℤ) → y ≡ z → InRange y → (InRange z → ⊥) → ⊥
in_and_out y z e r n = n (rw e at r)

-- an update and a call by a variable that holds null
null_update : {p : Program} {W : World} {L : List ℕ} {x f : ℕ} {v : Value} {Y : World} {U : PTree} → entry_value W.vars x ≡ some nil
    → Reduce p W L (p_update (fresh x) f (p_value v)) Y U → (W ≡ Y) × (p_failed ≡ U)
null_update h (DYN-EVAL-UPDATE k l z) = (cc, cc)
null_update h (DYN-NPE-UPDATE k) = (refl, refl)

null_call : {p : Program} {W : World} {L : List ℕ} {x m : ℕ} {v : Value} {Y : World} {U : PTree} → entry_value W.vars x ≡ some nil
    → Reduce p W L (p_call (fresh x) m (p_value v)) Y U → (W ≡ Y) × (p_failed ≡ U)
null_call h (DYN-EVAL-CALL i j k l m n o q r) = (cc, cc)
null_call h (DYN-NPE-CALL k) = (refl, refl)

-- a rule determines its result
pub determined : {p : Program} {W X Y : World} {L : List ℕ} {a : PExpr} {T U : PTree} → Reduce p W L a X T → Reduce p W L a Y U → (X ≡ Y) × (T ≡ U)
determined (DYN-EVAL-VAR h) (DYN-EVAL-VAR k) = (refl, cc)
determined (DYN-EVAL-LET y h p) (DYN-EVAL-LET z k q) = (cc, cc)
determined DYN-EVAL-CAST DYN-EVAL-CAST = (refl, refl)
determined DYN-EVAL-NEW DYN-EVAL-NEW = (refl, refl)
determined (DYN-EVAL-LOCK h p q n) (DYN-EVAL-LOCK k l m i) = (cc, cc)
determined (DYN-EVAL-LOCK h p q n) (DYN-EVAL-LOCK-REENTRANT k l m i) = (cc, cc)
determined (DYN-EVAL-LOCK h p q n) (DYN-NPE-LOCK k) = (cc, cc)
determined (DYN-EVAL-LOCK-REENTRANT h p q n) (DYN-EVAL-LOCK k l m i) = (cc, cc)
determined (DYN-EVAL-LOCK-REENTRANT h p q n) (DYN-EVAL-LOCK-REENTRANT k l m i) = (cc, cc)
determined (DYN-EVAL-LOCK-REENTRANT h p q n) (DYN-NPE-LOCK k) = (cc, cc)
determined (DYN-NPE-LOCK h) (DYN-EVAL-LOCK k l m i) = (cc, cc)
determined (DYN-NPE-LOCK h) (DYN-EVAL-LOCK-REENTRANT k l m i) = (cc, cc)
determined (DYN-NPE-LOCK h) (DYN-NPE-LOCK k) = (refl, refl)
determined (DYN-EVAL-LOCK-RELEASE h p) (DYN-EVAL-LOCK-RELEASE k q) = (refl, refl)
determined DYN-EVAL-SPAWN DYN-EVAL-SPAWN = (refl, refl)
determined (DYN-EVAL-SELECT h x q r) (DYN-EVAL-SELECT k l y m) = (refl, cc)
determined (DYN-EVAL-SELECT h x q r) (DYN-NPE-SELECT k) = (refl, cc)
determined (DYN-NPE-SELECT h) (DYN-EVAL-SELECT k l y m) = (refl, cc)
determined (DYN-NPE-SELECT h) (DYN-NPE-SELECT k) = (refl, refl)
determined (DYN-EVAL-UPDATE h x y) (DYN-EVAL-UPDATE k l z) = (cc, refl)
determined (DYN-EVAL-UPDATE h x y) (DYN-NPE-UPDATE k) = (cc, cc)
determined (DYN-NPE-UPDATE h) k = null_update h k
determined (DYN-EVAL-CALL i₁ j₁ a₁ b₁ c₁ d₁ e₁ f₁ g₁) (DYN-EVAL-CALL i₂ j₂ a₂ b₂ c₂ d₂ e₂ f₂ g₂) = (cc, cc)
determined (DYN-EVAL-CALL i₁ j₁ a₁ b₁ c₁ d₁ e₁ f₁ g₁) (DYN-NPE-CALL k) = (cc, cc)
determined (DYN-NPE-CALL h) k = null_call h k
determined (DYN-EVAL-ADD h j r) (DYN-EVAL-ADD k l s) = (refl, cc)
determined (DYN-EVAL-ADD {i = a} {j = b} h j r) (DYN-EXCEPTION-ADD {i = c} {j = d} k l n) = absurd (in_and_out (a +ℤ b) (c +ℤ d) (cc) r n)
determined (DYN-EXCEPTION-ADD {i = a} {j = b} h j n) (DYN-EVAL-ADD {i = c} {j = d} k l r) = absurd (in_and_out (c +ℤ d) (a +ℤ b) (cc) r n)
determined (DYN-EXCEPTION-ADD h j n) (DYN-EXCEPTION-ADD k l m) = (refl, cc)
