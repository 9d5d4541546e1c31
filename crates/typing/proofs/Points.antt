-- The node of a refusal of the walk is a node of the script.
use Prim.Native.Nat.{ℕ, ◌<◌}
use native.Mathlib.Omega.{arith}
use mathlib.Core.Path.{◌≡◌, refl}
use mathlib.Core.List.Memᴰ
use mathlib.Core.List.{List}
use Rattle.script.specs.declared.Question.{Question}
use Rattle.script.specs.declared.Section.TheVariants.{Nodes as nodes, Methods as methods, Classes as classes}
use Rattle.script.specs.Lists.{◌∈◌, sum_below}
use Rattle.script.specs.Section.{count_of, record_word}
use Rattle.script.specs.Syntax.{Point, Expr, null, var, select, update, call, bind, new, cast, fork, lock, constant, add, Node, n_null, n_var, n_select, n_update, n_call, n_bind, n_new, n_cast, n_fork, n_lock, n_constant, n_add, parts, build, point_of, Slot, Program}
use Rattle.script.specs.Reading.{view_at, expr_at, method_at, class_at, own_methods, program_of}
use Rattle.script.specs.Statements.{WithinLayout}
use Rattle.script.proofs.Lists.{in_run, sum_more}
use Rattle.script.proofs.Declarations.{class_from}
use Rattle.script.proofs.Regular.{regular}
use Rattle.script.proofs.Reading.{first, second, third, expr_at_lem, in_order, every_node}
use Rattle.typing.specs.declared.Aim.{Aim}
use Rattle.std.specs.declared.result.Result.TheVariants.{Err}
use Rattle.typing.specs.declared.Fault.{Fault}
use Rattle.typing.specs.Answers.{Answer, faulty}
use Rattle.typing.specs.Typing.{Body, bodies_of, walk}
use Rattle.typing.specs.Refusals.{last_of, ExprNo, null_inferred, var_unbound, select_unbound, update_unbound, call_unbound, lock_unbound, left_unbound, right_unbound, select_missing, update_missing, call_missing, lock_int, fork_shares, update_part, call_part, cast_part, lock_part, let_first, let_last, fork_left, fork_right, fork_last, left_unfit, right_unfit, null_unfit, not_below}
use Rattle.typing.proofs.Bodies.{body_in}
use Rattle.typing.proofs.Walk.{ListNo, after_all, in_body, after_body, Walked, walks, halts, walked_by}

-- Every node of an expression is below a bound.
abbrev pub Below : ℕ → Expr → Type 0
Below m (null n) = n < m
Below m (var n x) = n < m
Below m (select n x f) = n < m
Below m (update n x f e) = (n < m) × Below m e
Below m (call n x f e) = (n < m) × Below m e
Below m (bind n x e₁ e₂) = (n < m) × Below m e₁ × Below m e₂
Below m (new n c) = n < m
Below m (cast n t e) = (n < m) × Below m e
Below m (fork n e₁ e₂ e₃) = (n < m) × Below m e₁ × Below m e₂ × Below m e₃
Below m (lock n x e) = (n < m) × Below m e
Below m (constant n z) = n < m
Below m (add n x y) = n < m

below_build : (m n : ℕ) (f : Point → Expr) (v : Node) → n < m → ((p : Point) → p ∈ parts v → Below m (f p)) → Below m (build n f v)
below_build m n f n_null h e = h
below_build m n f (n_var x) h e = h
below_build m n f (n_select x y) h e = h
below_build m n f (n_update x y p) h e = (h, e p first)
below_build m n f (n_call x y p) h e = (h, e p first)
below_build m n f (n_bind x p q) h e = (h, e p first, e q second)
below_build m n f (n_new c) h e = h
below_build m n f (n_cast t p) h e = (h, e p first)
below_build m n f (n_fork p q r) h e = (h, e p first, e q second, e r third)
below_build m n f (n_lock x p) h e = (h, e p first)
below_build m n f (n_constant z) h e = h
below_build m n f (n_add x y) h e = h

-- The expression at a node has nodes of the script only.
pub below_at : (s : List ℕ) → WithinLayout s → (n : Point) → n < count_of s nodes → Below (count_of s nodes) (expr_at s n)
below_at s w =
    every_node s (λ n. Below (count_of s nodes) (expr_at s n)) (in_order s w)
    (λ n h e. rw (expr_at_lem s n h (in_order s w n h)) (below_build (count_of s nodes) n (expr_at s) (view_at s n) h e))

last_node : (m : ℕ) (e : Expr) → Below m e → point_of (last_of e) < m
last_node m (null n) b = b
last_node m (var n x) b = b
last_node m (select n x f) b = b
last_node m (update n x f e) b = b.0
last_node m (call n x f e) b = b.0
last_node m (bind n x e₁ e₂) b = last_node m e₂ b.2
last_node m (new n c) b = b
last_node m (cast n t e) b = b.0
last_node m (fork n e₁ e₂ e₃) b = last_node m e₃ b.3
last_node m (lock n x e) b = last_node m e b.1
last_node m (constant n z) b = b
last_node m (add n x y) b = b

no_below : {p : Program} {Γ : List Slot} {e : Expr} {a : Aim} {q : Question} {k : Point} → ExprNo p Γ e a q k → (m : ℕ) → Below m e → k < m
no_below null_inferred m b = b
no_below (var_unbound h) m b = b
no_below (select_unbound h) m b = b
no_below (update_unbound h) m b = b.0
no_below (call_unbound h) m b = b.0
no_below (lock_unbound h) m b = b.0
no_below (left_unbound h) m b = b
no_below (right_unbound h) m b = b
no_below (select_missing h g) m b = b
no_below (update_missing h g) m b = b.0
no_below (call_missing h g) m b = b.0
no_below (lock_int h d) m b = b.0
no_below (fork_shares l r) m b = b.0
no_below (update_part h g c) m b = no_below c m b.1
no_below (call_part h g d c) m b = no_below c m b.1
no_below (cast_part c) m b = no_below c m b.1
no_below (lock_part h o c) m b = no_below c m b.1
no_below (let_first c) m b = no_below c m b.1
no_below (let_last h c) m b = no_below c m b.2
no_below (fork_left d c) m b = no_below c m b.1
no_below (fork_right d h c) m b = no_below c m b.2
no_below (fork_last d h g c) m b = no_below c m b.3
no_below (left_unfit h k d) m b = b
no_below (right_unfit h k d) m b = b
no_below (null_unfit d) m b = b
no_below (not_below {e = e} h s at) m b = rw (← at) (last_node m e b)

-- So is that of the walk's refusal, where bodies and start are such expressions.
pub walk_below : {p : Program} {l : List Body} {q : Question} {k : Point} → ListNo p l q k → (m : ℕ) → ((b : Body) → b ∈ l → Below m b.method.body) → Below m p.start → k < m
walk_below (after_all c) m f g = no_below c m g
walk_below (in_body {b = b} c) m f g = no_below c m (f b (Memᴰ.head refl))
walk_below (after_body h c) m f g = walk_below c m (λ d i. f d (Memᴰ.tail i)) g

module _ (s : List ℕ) (w : WithinLayout s) where
  body_below : (b : Body) → b ∈ bodies_of (program_of s) → Below (count_of s nodes) b.method.body
  unfolding class_at method_at
  body_below b m =
      let i = body_in (program_of s) b m in
      let c = class_from s b.class i.class i.declared in
      let r = in_run (method_at s) (sum_below (own_methods s) c.0) (own_methods s c.0) b.method (rw c.3 at i.there) in
      let h : r.index < count_of s methods = omega (arith, r.upto, sum_more (own_methods s) c.0 (count_of s classes) c.1, w.owners_are.of_methods) in
      rw r.is (below_at s w (record_word s methods r.index 3) (w.nodes_are.0 r.index h))

  start_below : Below (count_of s nodes) (program_of s).start
  unfolding program_of
  start_below = below_at s w 0 w.counts_are.a_node

  no_there : {r : Answer} → Walked (program_of s) (bodies_of (program_of s)) r → (f : Fault) → r ≡ Err f → f.node < count_of s nodes
  no_there (walks g h) f e = absurd (let z : ◌≡◌ {A = ℕ} 0 1 = cc in omega arith)
  no_there (halts {q = q} {k = j} n) f e = let d : f ≡ record { question = q; node = j } = cc in rw d (walk_below n (count_of s nodes) body_below start_below)

  -- The walk's refusal stands at a node of the script.
  pub fault_there : (q : Question) (k : Point) → walk (program_of s) (bodies_of (program_of s)) ≡ faulty q k → k < count_of s nodes
  fault_there q k e = no_there (walked_by (program_of s) (regular s w) (bodies_of (program_of s)) (body_in (program_of s))) (record { question = q; node = k }) e
