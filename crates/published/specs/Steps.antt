-- The published small-step semantics over ⟨H; V; T⟩: Figures 8 and 9 and appendix A.2. Each rule keeps its name. Added are DYN-EVAL-ADD and DYN-EXCEPTION-ADD:
-- "Demand 2 counts rules and moves that a request adds as published".
use Rattle.std.specs.Prelude.{ℕ, suc, ◌≡◌, true, false, cond, List, [], ◌∷◌, ◌++◌, eqb, length, ℤ, ◌+ℤ◌}
use Rattle.std.proofs.Math.Option.{Option, none, some}
use Rattle.words.specs.Integer.{InRange}
use Rattle.script.specs.Lists.{◌∈◌}
use Rattle.script.specs.Syntax.{Expr, null, var, select, update, call, bind, new, cast, fork, lock, constant, add, Method, Program}
use Rattle.typing.specs.Published.{FieldIn}
use Rattle.machine.specs.declared.Value.{Value}
use Rattle.machine.specs.declared.Value.TheVariants.{Null as nil, Ref as ref, Int as int}
use Rattle.machine.specs.Config.{Object}
use Rattle.typing.specs.Members.{fields_of, defined_in}
use Rattle.machine.specs.Machine.{object, set_shut, set_fields, field_value, set_field, initials}

-- A variable of the program text, or one that a step made. A fresh one is the next number, as in the mechanised version.
pub data PVar : Type 0 where
  static : ℕ → PVar
  fresh : ℕ → PVar

-- e at run time, Figures 2 and 6: with values and lockedι{e}, without node numbers.
pub data PExpr : Type 0 where
  p_value : Value → PExpr
  p_var : PVar → PExpr
  p_select : PVar → ℕ → PExpr
  p_update : PVar → ℕ → PExpr → PExpr
  p_call : PVar → ℕ → PExpr → PExpr
  p_let : ℕ → PExpr → PExpr → PExpr
  p_new : ℕ → PExpr
  p_cast : ℕ → PExpr → PExpr
  p_fork : PExpr → PExpr → PExpr → PExpr
  p_lock : PVar → PExpr → PExpr
  p_locked : ℕ → PExpr → PExpr
  p_add : PVar → PVar → PExpr

-- e[x ↦ y]
abbrev pub rename_var : ℕ → PVar → PVar → PVar
rename_var x y (static z) = cond (eqb x z) y (static z)
rename_var x y (fresh i) = fresh i

abbrev pub rename : ℕ → PVar → PExpr → PExpr
rename x y (p_value v) = p_value v
rename x y (p_var z) = p_var (rename_var x y z)
rename x y (p_select z f) = p_select (rename_var x y z) f
rename x y (p_update z f a) = p_update (rename_var x y z) f (rename x y a)
rename x y (p_call z m a) = p_call (rename_var x y z) m (rename x y a)
rename x y (p_let z a b) = p_let z (rename x y a) (cond (eqb x z) b (rename x y b))
rename x y (p_new c) = p_new c
rename x y (p_cast t a) = p_cast t (rename x y a)
rename x y (p_fork a b c) = p_fork (rename x y a) (rename x y b) (rename x y c)
rename x y (p_lock z a) = p_lock (rename_var x y z) (rename x y a)
rename x y (p_locked o a) = p_locked o (rename x y a)
rename x y (p_add z w) = p_add (rename_var x y z) (rename_var x y w)

-- An expression of the text, with a meaning for its free names; the same with one more name bound in the text.
abbrev pub shadow : ℕ → (ℕ → PVar) → ℕ → PVar
shadow x m y = cond (eqb x y) (static y) (m y)

abbrev pub close : (ℕ → PVar) → Expr → PExpr
close m (null n) = p_value nil
close m (var n x) = p_var (m x)
close m (select n x f) = p_select (m x) f
close m (update n x f a) = p_update (m x) f (close m a)
close m (call n x g a) = p_call (m x) g (close m a)
close m (bind n x a b) = p_let x (close m a) (close (shadow x m) b)
close m (new n c) = p_new c
close m (cast n t a) = p_cast t (close m a)
close m (fork n a b c) = p_fork (close m a) (close m b) (close m c)
close m (lock n x a) = p_lock (m x) (close m a)
close m (constant n z) = p_value (int z)
close m (add n x y) = p_add (m x) (m y)

-- V
pub record Entry : Type 0 where
  pub name : ℕ
  pub value : Value

-- V(x)
abbrev pub entry_value : List Entry → ℕ → Option Value
entry_value [] x = none
entry_value (y ∷ ys) x = cond (eqb y.name x) (some y.value) (entry_value ys x)

-- E[•] ::= x.f = • | x.m(•) | let x = • in e | (t) • | lockedι{•}: one level; deeper ones come by the context rules.
pub data Hole : Type 0 where
  h_update : PVar → ℕ → Hole
  h_call : PVar → ℕ → Hole
  h_let : ℕ → PExpr → Hole
  h_cast : ℕ → Hole
  h_locked : ℕ → Hole

abbrev pub fill : Hole → PExpr → PExpr
fill (h_update x f) a = p_update x f a
fill (h_call x m) a = p_call x m a
fill (h_let x b) a = p_let x a b
fill (h_cast t) a = p_cast t a
fill (h_locked o) a = p_locked o a

-- T ::= (L, e) | T₁ ∥ T₂ ▷ e | EXN
pub data PTree : Type 0 where
  p_thread : List ℕ → PExpr → PTree
  p_join : PTree → PTree → PExpr → PTree
  p_failed : PTree

-- H and V
pub record World : Type 0 where
  pub heap : List Object
  pub vars : List Entry

-- L \ {ι}
abbrev pub remove : ℕ → List ℕ → List ℕ
remove o [] = []
remove o (p ∷ L) = cond (eqb o p) (remove o L) (p ∷ remove o L)

-- Figure 8, Figure 9 and appendix A.2: the rules that take one expression of a thread as a whole.
pub data Reduce (p : Program) : World → List ℕ → PExpr → World → PTree → Type 0 where
  DYN-EVAL-VAR : {W : World} {L : List ℕ} {x : ℕ} {v : Value} → entry_value W.vars x ≡ some v → Reduce p W L (p_var (fresh x)) W (p_thread L (p_value v))
  DYN-EVAL-LET : {W : World} {L : List ℕ} {x : ℕ} {v : Value} {a : PExpr} (y : ℕ) → y ≡ length W.vars → entry_value W.vars y ≡ none
      → Reduce p W L (p_let x (p_value v) a) (record { heap = W.heap; vars = record { name = y; value = v } ∷ W.vars }) (p_thread L (rename x (fresh y) a))
  DYN-EVAL-CALL : {W : World} {L : List ℕ} {x m o : ℕ} {y : Object} {v : Value} {d : Method} (i j : ℕ) → entry_value W.vars x ≡ some (ref o)
      → object W.heap o ≡ some y
      → defined_in p y.class m ≡ some d → i ≡ length W.vars → entry_value W.vars i ≡ none → j ≡ suc (length W.vars) → entry_value W.vars j ≡ none
      → Reduce p W L (p_call (fresh x) m (p_value v))
      (record { heap = W.heap; vars = record { name = j; value = v } ∷ record { name = i; value = ref o } ∷ W.vars })
      (p_thread L (rename 1 (fresh j) (rename 0 (fresh i) (close static d.body))))
  DYN-EVAL-CAST : {W : World} {L : List ℕ} {t : ℕ} {v : Value} → Reduce p W L (p_cast t (p_value v)) W (p_thread L (p_value v))
  DYN-EVAL-SELECT : {W : World} {L : List ℕ} {x f o t : ℕ} {y : Object} {v : Value} → entry_value W.vars x ≡ some (ref o) → object W.heap o ≡ some y
      → FieldIn p y.class f t → field_value (fields_of p y.class) y.fields f ≡ some v → Reduce p W L (p_select (fresh x) f) W (p_thread L (p_value v))
  DYN-EVAL-UPDATE : {W : World} {L : List ℕ} {x f o t : ℕ} {y : Object} {v : Value} → entry_value W.vars x ≡ some (ref o)
      → object W.heap o ≡ some y → FieldIn p y.class f t
      → Reduce p W L (p_update (fresh x) f (p_value v))
      (record { heap = set_fields (set_field v (fields_of p y.class) y.fields f) W.heap o; vars = W.vars }) (p_thread L (p_value nil))
  DYN-EVAL-NEW : {W : World} {L : List ℕ} {c : ℕ} → Reduce p W L (p_new c)
      (record { heap = W.heap ++ (record { class = c; shut = false; fields = initials p (fields_of p c) } ∷ []); vars = W.vars })
      (p_thread L (p_value (ref (length W.heap))))
  DYN-EVAL-LOCK : {W : World} {L : List ℕ} {x o : ℕ} {y : Object} {a : PExpr} → entry_value W.vars x ≡ some (ref o) → object W.heap o ≡ some y
      → y.shut ≡ false → (o ∈ L → ⊥)
      → Reduce p W L (p_lock (fresh x) a) (record { heap = set_shut true W.heap o; vars = W.vars }) (p_thread (o ∷ L) (p_locked o a))
  DYN-EVAL-LOCK-REENTRANT : {W : World} {L : List ℕ} {x o : ℕ} {y : Object} {a : PExpr} → entry_value W.vars x ≡ some (ref o)
      → object W.heap o ≡ some y → y.shut ≡ true → o ∈ L
      → Reduce p W L (p_lock (fresh x) a) W (p_thread L a)
  DYN-EVAL-LOCK-RELEASE : {W : World} {L : List ℕ} {o : ℕ} {y : Object} {v : Value} → object W.heap o ≡ some y → y.shut ≡ true
      → Reduce p W L (p_locked o (p_value v)) (record { heap = set_shut false W.heap o; vars = W.vars }) (p_thread (remove o L) (p_value v))
  DYN-EVAL-SPAWN : {W : World} {L : List ℕ} {a b c : PExpr} → Reduce p W L (p_fork a b c) W (p_join (p_thread L a) (p_thread [] b) c)
  DYN-NPE-SELECT : {W : World} {L : List ℕ} {x f : ℕ} → entry_value W.vars x ≡ some nil → Reduce p W L (p_select (fresh x) f) W p_failed
  DYN-NPE-UPDATE : {W : World} {L : List ℕ} {x f : ℕ} {v : Value} → entry_value W.vars x ≡ some nil
      → Reduce p W L (p_update (fresh x) f (p_value v)) W p_failed
  DYN-NPE-CALL : {W : World} {L : List ℕ} {x m : ℕ} {v : Value} → entry_value W.vars x ≡ some nil → Reduce p W L (p_call (fresh x) m (p_value v)) W p_failed
  DYN-NPE-LOCK : {W : World} {L : List ℕ} {x : ℕ} {a : PExpr} → entry_value W.vars x ≡ some nil → Reduce p W L (p_lock (fresh x) a) W p_failed
  DYN-EVAL-ADD : {W : World} {L : List ℕ} {x y : ℕ} {i j : ℤ} → entry_value W.vars x ≡ some (int i) → entry_value W.vars y ≡ some (int j)
      → InRange (i +ℤ j) → Reduce p W L (p_add (fresh x) (fresh y)) W (p_thread L (p_value (int (i +ℤ j))))
  DYN-EXCEPTION-ADD : {W : World} {L : List ℕ} {x y : ℕ} {i j : ℤ} → entry_value W.vars x ≡ some (int i) → entry_value W.vars y ≡ some (int j)
      → (InRange (i +ℤ j) → ⊥) → Reduce p W L (p_add (fresh x) (fresh y)) W p_failed

-- cfg₁ ↪ cfg₂: one of these rules, or one of those about contexts and concurrency.
pub data Step (p : Program) : World → PTree → World → PTree → Type 0 where
  reduces : {W X : World} {L : List ℕ} {a : PExpr} {T : PTree} → Reduce p W L a X T → Step p W (p_thread L a) X T
  DYN-EVAL-CONTEXT : {W X : World} {L M : List ℕ} {a b c : PExpr} (E : Hole) → c ≡ fill E a → Step p W (p_thread L a) X (p_thread M b)
      → Step p W (p_thread L c) X (p_thread M (fill E b))
  DYN-EVAL-SPAWN-CONTEXT : {W : World} {L : List ℕ} {a b c d f : PExpr} (E : Hole) → f ≡ fill E a
      → Step p W (p_thread L a) W (p_join (p_thread L b) (p_thread [] c) d)
      → Step p W (p_thread L f) W (p_join (p_thread L b) (p_thread [] c) (fill E d))
  DYN-EXCEPTION-CONTEXT : {W X : World} {L : List ℕ} {a c : PExpr} (E : Hole) → c ≡ fill E a → Step p W (p_thread L a) X p_failed
      → Step p W (p_thread L c) X p_failed
  DYN-EVAL-ASYNC-LEFT : {W X : World} {T U R : PTree} {a : PExpr} → Step p W T X U → Step p W (p_join T R a) X (p_join U R a)
  DYN-EVAL-ASYNC-RIGHT : {W X : World} {T U R : PTree} {a : PExpr} → Step p W T X U → Step p W (p_join R T a) X (p_join R U a)
  DYN-EVAL-ASYNC-JOIN : {W : World} {L M : List ℕ} {v w : Value} {a : PExpr}
      → Step p W (p_join (p_thread L (p_value v)) (p_thread M (p_value w)) a) W (p_thread L a)
  DYN-EXCEPTION-ASYNC-LEFT : {W : World} {T : PTree} {a : PExpr} → Step p W (p_join p_failed T a) W p_failed
  DYN-EXCEPTION-ASYNC-RIGHT : {W : World} {T : PTree} {a : PExpr} → Step p W (p_join T p_failed a) W p_failed
