-- What a configuration means in the published semantics.
use Rattle.std.specs.Prelude.{ℕ, suc, cond, List, [], ◌∷◌, ◌++◌, eqb, length}
use Rattle.script.specs.Syntax.{Point, Node, n_null, n_var, n_select, n_update, n_call, n_bind, n_new, n_cast, n_fork, n_lock, n_constant, n_add}
use Rattle.script.specs.Syntax.{Program}
use Rattle.machine.specs.declared.Frame.{Frame}
use Rattle.machine.specs.declared.Frame.TheVariants.{Awaits as awaits, Casts as casts, Locks as locks}
use Rattle.machine.specs.Config.{Code, Binding, Stores, Tree, running, returning, failed, join, Config}
use Rattle.machine.specs.Machine.{held}
use Rattle.published.specs.Steps.{PVar, static, fresh, PExpr, p_value, Entry, Hole, h_update, h_call, h_let, h_cast, h_locked, fill, shadow}
use Rattle.published.specs.Steps.{close, PTree, p_thread, p_join, p_failed, World, Step}

-- The binding number k is the variable `fresh k`.
abbrev pub entries : List Binding → List Entry
entries [] = []
entries (b ∷ older) = record { name = length older; value = b.value } ∷ entries older

-- What a name of the text means in an environment: the nearest binding of that name.
abbrev pub names : List Binding → ℕ → ℕ → PVar
names [] e x = static x
names (b ∷ older) e x =
    cond (eqb e (suc (length older))) (cond (eqb b.name x) (fresh (length older)) (names older b.link x)) (names older e x)

-- A waiting node as a context. No other node waits, and what stands for one is of no account.
abbrev pub gap : Code → (ℕ → PVar) → Node → Hole
gap s m n_null = h_cast 0
gap s m (n_var x) = h_cast 0
gap s m (n_select x f) = h_cast 0
gap s m (n_update x f a) = h_update (m x) f
gap s m (n_call x n a) = h_call (m x) n
gap s m (n_bind x a b) = h_let x (close (shadow x m) (s.expr b))
gap s m (n_new c) = h_cast 0
gap s m (n_cast t a) = h_cast t
gap s m (n_fork a b c) = h_cast 0
gap s m (n_lock x a) = h_cast 0
gap s m (n_constant z) = h_cast 0
gap s m (n_add x y) = h_cast 0

abbrev pub hole : Code → List Binding → Frame → Hole
hole s bs (awaits n e) = gap s (names bs e) (s.view n)
hole s bs (casts n) = gap s static (s.view n)
hole s bs (locks o) = h_locked o

abbrev pub plug : Code → List Binding → List Frame → PExpr → PExpr
plug s bs [] a = a
plug s bs (f ∷ fs) a = plug s bs fs (fill (hole s bs f) a)

abbrev pub world : Stores → World
world st = record { heap = st.objects; vars = entries st.bindings }

-- The expression of a thread at a node.
abbrev pub said : Code → List Binding → ℕ → Point → PExpr
said s bs e a = close (names bs e) (s.expr a)

-- "A thread holds exactly the objects of the lock frames it will resume (a join's are resumed by its leftmost thread); a failed thread holds nothing".
abbrev pub read : Code → List Binding → List Frame → Tree → PTree
read s bs above (running a e fs) = p_thread (held (fs ++ above)) (plug s bs fs (said s bs e a))
read s bs above (returning v fs) = p_thread (held (fs ++ above)) (plug s bs fs (p_value v))
read s bs above failed = p_failed
read s bs above (join fs a e l r) = p_join (read s bs (fs ++ above) l) (read s bs [] r) (plug s bs fs (said s bs e a))

-- ⟨H; V; T⟩
pub record Reading : Type 0 where
  pub world : World
  pub threads : PTree

abbrev pub reading : Code → Config → Reading
reading s c = record { world = world c.stores; threads = read s c.stores.bindings [] c.tree }

-- ⟨H; V; T⟩ ↪ ⟨H'; V'; T'⟩
abbrev pub Steps : Program → Reading → Reading → Type 0
Steps p r q = Step p r.world r.threads q.world q.threads

-- ⟨ε; ε; (∅, e)⟩, where e is the start expression of the program: no object, no variable, and one thread that holds no lock.
abbrev pub initial_reading : Program → Reading
initial_reading p = record { world = record { heap = []; vars = [] }; threads = p_thread [] (close static p.start) }
