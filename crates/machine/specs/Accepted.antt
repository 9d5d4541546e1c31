-- What a script that questions 1 to 15 accept gives the machine. Nothing here is assumed: `proofs/Accepted.antt` shows it of every accepted script.
use Rattle.std.specs.Prelude.{ℕ, ◌<◌, ◌≤◌, ◌≡◌, ℤ}
use Rattle.words.specs.Word.{WORD}
use Rattle.words.specs.Integer.{InRange}
use Rattle.limits.specs.Limits.{NODES}
use Rattle.script.specs.Lists.{◌∈◌}
use Rattle.script.specs.Syntax.{Point, n_bind, n_constant, parts, build, Method, Class, declaration_at, a_class}
use Rattle.script.specs.Regular.{Formed, Regular}
use Rattle.typing.specs.Published.{WfProgram}
use Rattle.machine.specs.Config.{Code}

-- Question 7: "parts with larger numbers that exist".
pub record LaterPart (s : Code) (n p : Point) : Type 0 where
  pub after : n < p
  pub there : p < s.size

-- A method's body is the expression at a node.
pub record BodyAt (s : Code) (m : Method) : Type 0 where
  pub point : Point
  pub there : point < s.size
  pub is : m.body ≡ s.expr point

-- Accepted with the type t.
pub record AcceptedCode (s : Code) (t : ℕ) : Type 0 where
  pub regular : Regular s.program
  pub typed : WfProgram s.program t
  pub most : s.size ≤ NODES
  pub a_node : 0 < s.size
  pub built : (n : Point) → n < s.size → s.expr n ≡ build n s.expr (s.view n)
  pub formed : (n : Point) → n < s.size → Formed s.program (s.expr n)
  pub in_order : (n : Point) → n < s.size → (p : Point) → p ∈ parts (s.view n) → LaterPart s n p
  pub words : (n : Point) (x : ℕ) (a b : Point) → s.view n ≡ n_bind x a b → x < WORD
  pub constants : (n : Point) (z : ℤ) → s.view n ≡ n_constant z → InRange z
  pub bodies : (u : ℕ) (c : Class) (m : Method) → declaration_at s.program u ≡ a_class c → m ∈ c.methods → BodyAt s m
  pub start : s.program.start ≡ s.expr 0
