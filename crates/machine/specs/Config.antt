-- Configurations: what a state block holds, Figure 6. "A block holds at most 256 objects (class, open or shut, fields), 2,048 variable bindings (name, type,
-- value, the binding beneath), 2,048 waiting frames in all, and a tree of joins with at most 32 threads."
use Rattle.std.specs.Prelude.{ℕ, Bool, List}
use Rattle.script.specs.Section.{count_of}
use Rattle.script.specs.declared.Section.TheVariants.{Nodes as nodes}
use Rattle.script.specs.Syntax.{Point, Expr, Node, Program}
use Rattle.script.specs.Reading.{view_at, expr_at, program_of}
use Rattle.machine.specs.declared.Value.{Value}
use Rattle.machine.specs.declared.Frame.{Frame}

-- A script as the machine sees it: its program, its nodes, which are the program points, and the expression at each.
pub record Code : Type 0 where
  pub program : Program
  pub size : ℕ
  pub view : Point → Node
  pub expr : Point → Expr

abbrev pub code_of : List ℕ → Code
code_of s = record { program = program_of s; size = count_of s nodes; view = view_at s; expr = expr_at s }

-- obj ::= (C, F, L)
pub record Object : Type 0 where
  pub class : ℕ
  pub shut : Bool
  pub fields : List Value

-- An environment is a number: 0 has no binding, k + 1 begins with the binding number k and goes on as its link says.
pub record Binding : Type 0 where
  pub name : ℕ
  pub type : ℕ
  pub value : Value
  pub link : ℕ

-- Objects are counted from the front. Bindings stand newest first, so the number of a binding is the number of those behind it. "Objects and bindings are never
-- freed."
pub record Stores : Type 0 where
  pub objects : List Object
  pub bindings : List Binding

-- A thread at a node in an environment, a thread with a value, a failed thread, or a join of two trees with its frames (innermost first), its last part and the
-- environment for it.
pub data Tree : Type 0 where
  running : Point → ℕ → List Frame → Tree
  returning : Value → List Frame → Tree
  failed : Tree
  join : List Frame → Point → ℕ → Tree → Tree → Tree

pub record Config : Type 0 where
  pub stores : Stores
  pub tree : Tree
