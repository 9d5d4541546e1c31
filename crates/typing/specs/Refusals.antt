-- Questions 9 to 15 as plain statements, and what a refusal says. As in Published, nothing here comes from the walk's files.
use Rattle.std.specs.Prelude.{ℕ, suc, ◌+◌, ◌<◌, ◌≤◌, ◌≡◌, List, [], ◌∷◌}
use Rattle.script.specs.declared.Question.{Question}
use Rattle.script.specs.declared.Question.TheVariants.{Length, Counts, Places, Interfaces, Owners, Types, Nodes, Names, Joins, Classes, Variables}
use Rattle.script.specs.declared.Question.TheVariants.{Nulls, Members, Fits, Sharing}
use Rattle.script.specs.declared.Section.TheVariants.{Interfaces as interfaces, Classes as classes, Nodes as nodes}
use Rattle.script.specs.Lists.{sum_below}
use Rattle.script.specs.Section.{count_of, record_at}
use Rattle.script.specs.Syntax.{Point, Expr, null, var, select, update, call, bind, new, cast, fork, lock, constant, add, point_of, Slot, Signature}
use Rattle.script.specs.Syntax.{Interface, lists, extends, Class, Program, an_int, declaration_at}
use Rattle.script.specs.Reading.{interface_at, own_methods, method_at, class_at, program_of}
use Rattle.script.specs.Asking.{rank_of, Asks, Each, LowestNo}
use Rattle.script.specs.Statements.{LengthIs, CountsAre, PlacesAre, InterfacesAre, OwnersAre, TypesAre, NodesAre, NamesAre}
use Rattle.typing.specs.declared.Aim.{Aim}
use Rattle.typing.specs.declared.Aim.TheVariants.{Infers as infers, Checks as checks}
use Rattle.typing.specs.Environments.{TypeOf, of_lock, body_env}
use Rattle.typing.specs.Published.{Sub, MsigIn, FieldIn, Free, Disjoint, UseOk, Infer, Check, DefIn}

-- 9. "Do all meanings of a method name in a join have the same types?" The interface has type t.
abbrev pub JoinIs : Program → ℕ → Interface → Type 0
JoinIs p t (lists gs) = Unit {0}
JoinIs p t (extends a b) = (g h : Signature) → MsigIn p t g → MsigIn p t h → g.name ≡ h.name → g ≡ h

abbrev pub JoinsAre : List ℕ → Asks
JoinsAre s = (interfaces, λ i. JoinIs (program_of s) (suc i) (interface_at s i)) ∷ []

-- 10. "Has each class every method of its interface, with the same types?"
abbrev pub ClassIs : Program → Class → Type 0
ClassIs p c = (g : Signature) → MsigIn p c.implements g → DefIn g c.methods

abbrev pub ClassesAre : List ℕ → Asks
ClassesAre s = (classes, λ i. ClassIs (program_of s) (class_at s i)) ∷ []

-- Γ gives x no type.
abbrev pub Unbound : List Slot → ℕ → Type 0
Unbound Γ x = (t : ℕ) → TypeOf Γ x t → ⊥

-- The innermost last part: that of the last part of a let, a lock or a fork. Any other expression is its own.
abbrev pub last_of : Expr → Expr
last_of (null n) = null n
last_of (var n x) = var n x
last_of (select n x f) = select n x f
last_of (update n x f e) = update n x f e
last_of (call n x m e) = call n x m e
last_of (bind n x e₁ e₂) = last_of e₂
last_of (new n c) = new n c
last_of (cast n t e) = cast n t e
last_of (fork n e₁ e₂ e₃) = last_of e₃
last_of (lock n x e) = last_of e
last_of (constant n z) = constant n z
last_of (add n x y) = add n x y

-- 11 to 15. The first no of the walk over an expression, with its aim: the question and the node. What comes before it in the walk got a yes: it is typed by
-- the published rules. A last part is asked with the aim of the whole.
pub data ExprNo (p : Program) : List Slot → Expr → Aim → Question → Point → Type 0 where
  -- 12. "Is no null inferred?"
  null_inferred : {Γ : List Slot} {n : ℕ} → ExprNo p Γ (null n) infers Nulls n
  -- 11. "Is each variable bound?"
  var_unbound : {Γ : List Slot} {n x : ℕ} {a : Aim} → Unbound Γ x → ExprNo p Γ (var n x) a Variables n
  select_unbound : {Γ : List Slot} {n x f : ℕ} {a : Aim} → Unbound Γ x → ExprNo p Γ (select n x f) a Variables n
  update_unbound : {Γ : List Slot} {n x f : ℕ} {e : Expr} {a : Aim} → Unbound Γ x → ExprNo p Γ (update n x f e) a Variables n
  call_unbound : {Γ : List Slot} {n x m : ℕ} {e : Expr} {a : Aim} → Unbound Γ x → ExprNo p Γ (call n x m e) a Variables n
  lock_unbound : {Γ : List Slot} {n x : ℕ} {e : Expr} {a : Aim} → Unbound Γ x → ExprNo p Γ (lock n x e) a Variables n
  left_unbound : {Γ : List Slot} {n x y : ℕ} {a : Aim} → Unbound Γ x → ExprNo p Γ (add n x y) a Variables n
  right_unbound : {Γ : List Slot} {n x y : ℕ} {a : Aim} → Unbound Γ y → ExprNo p Γ (add n x y) a Variables n
  -- 13. "Has the target's type the field or method?"
  select_missing : {Γ : List Slot} {n x f t : ℕ} {a : Aim} → TypeOf Γ x t → ((u : ℕ) → FieldIn p t f u → ⊥) → ExprNo p Γ (select n x f) a Members n
  update_missing : {Γ : List Slot} {n x f t : ℕ} {e : Expr} {a : Aim} → TypeOf Γ x t → ((u : ℕ) → FieldIn p t f u → ⊥)
      → ExprNo p Γ (update n x f e) a Members n
  call_missing : {Γ : List Slot} {n x m t : ℕ} {e : Expr} {a : Aim} → TypeOf Γ x t → ((g : Signature) → MsigIn p t g → g.name ≡ m → ⊥)
      → ExprNo p Γ (call n x m e) a Members n
  -- 13. "Int is no target of field, call or lock (13)": it has no field and no method
  lock_int : {Γ : List Slot} {n x t : ℕ} {e : Expr} {a : Aim} → TypeOf Γ x t → declaration_at p t ≡ an_int → ExprNo p Γ (lock n x e) a Members n
  -- 15. "Do the asyncs share no variable?"
  fork_shares : {Γ : List Slot} {n x : ℕ} {e₁ e₂ e : Expr} {a : Aim} → Free x e₁ → Free x e₂ → ExprNo p Γ (fork n e₁ e₂ e) a Sharing n
  -- "parts in running order"
  update_part : {Γ : List Slot} {n x f t u k : ℕ} {e : Expr} {a : Aim} {q : Question} → TypeOf Γ x t → FieldIn p t f u → ExprNo p Γ e (checks u) q k
      → ExprNo p Γ (update n x f e) a q k
  call_part : {Γ : List Slot} {n x m t k : ℕ} {g : Signature} {e : Expr} {a : Aim} {q : Question} → TypeOf Γ x t → MsigIn p t g → g.name ≡ m
      → ExprNo p Γ e (checks g.param) q k → ExprNo p Γ (call n x m e) a q k
  cast_part : {Γ : List Slot} {n t k : ℕ} {e : Expr} {a : Aim} {q : Question} → ExprNo p Γ e (checks t) q k → ExprNo p Γ (cast n t e) a q k
  lock_part : {Γ : List Slot} {n x t k : ℕ} {e : Expr} {a : Aim} {q : Question} → TypeOf Γ x t → UseOk p n (of_lock t) → ExprNo p Γ e a q k
      → ExprNo p Γ (lock n x e) a q k
  let_first : {Γ : List Slot} {n x k : ℕ} {e₁ e₂ : Expr} {a : Aim} {q : Question} → ExprNo p Γ e₁ infers q k → ExprNo p Γ (bind n x e₁ e₂) a q k
  let_last : {Γ : List Slot} {n x t k : ℕ} {e₁ e₂ : Expr} {a : Aim} {q : Question} → Infer p Γ e₁ t
      → ExprNo p (record { name = x; type = t } ∷ Γ) e₂ a q k → ExprNo p Γ (bind n x e₁ e₂) a q k
  fork_left : {Γ : List Slot} {n k : ℕ} {e₁ e₂ e : Expr} {a : Aim} {q : Question} → Disjoint e₁ e₂ → ExprNo p Γ e₁ infers q k
      → ExprNo p Γ (fork n e₁ e₂ e) a q k
  fork_right : {Γ : List Slot} {n t k : ℕ} {e₁ e₂ e : Expr} {a : Aim} {q : Question} → Disjoint e₁ e₂ → Infer p Γ e₁ t → ExprNo p Γ e₂ infers q k
      → ExprNo p Γ (fork n e₁ e₂ e) a q k
  fork_last : {Γ : List Slot} {n t u k : ℕ} {e₁ e₂ e : Expr} {a : Aim} {q : Question} → Disjoint e₁ e₂ → Infer p Γ e₁ t → Infer p Γ e₂ u
      → ExprNo p Γ e a q k → ExprNo p Γ (fork n e₁ e₂ e) a q k
  -- 14. "both bound (11), then both of type Int (14)"
  left_unfit : {Γ : List Slot} {n x y t u : ℕ} {a : Aim} → TypeOf Γ x t → TypeOf Γ y u → (declaration_at p t ≡ an_int → ⊥) → ExprNo p Γ (add n x y) a Fits n
  right_unfit : {Γ : List Slot} {n x y t u : ℕ} {a : Aim} → TypeOf Γ x t → TypeOf Γ y u → (declaration_at p u ≡ an_int → ⊥) → ExprNo p Γ (add n x y) a Fits n
  -- 14. "Null does not fit Int (14)"
  null_unfit : {Γ : List Slot} {n t : ℕ} → declaration_at p t ≡ an_int → ExprNo p Γ (null n) (checks t) Fits n
  -- 14. "Is each inferred type below the wanted one?", asked of the innermost last part
  not_below : {Γ : List Slot} {e : Expr} {t' t k : ℕ} → Infer p Γ e t' → (Sub p t' t → ⊥) → point_of (last_of e) ≡ k → ExprNo p Γ e (checks t) Fits k

-- Method record k is one of class record c: "Runs of signatures, fields and methods belong to their owners in order."
pub record MethodOf (s : List ℕ) (c k : ℕ) : Type 0 where
  pub class : c < count_of s classes
  pub from : sum_below (own_methods s) c ≤ k
  pub upto : k < sum_below (own_methods s) c + own_methods s c

-- "classes I+1 to I+C"
abbrev pub class_type : List ℕ → ℕ → ℕ
class_type s c = suc (count_of s interfaces + c)

-- The body of method record k, for an object of class record c: "Bodies are checked against the result type".
abbrev pub MethodChecks : List ℕ → ℕ → ℕ → Type 0
MethodChecks s c k = let m = method_at s k in Check (program_of s) (body_env (class_type s c) m.signature) m.body m.signature.result

abbrev pub MethodNo : List ℕ → ℕ → ℕ → Question → Point → Type 0
MethodNo s c k q n = let m = method_at s k in ExprNo (program_of s) (body_env (class_type s c) m.signature) m.body (checks m.signature.result) q n

-- "Questions 11 to 15 go through bodies in method order, then the start."
pub data WalkNo (s : List ℕ) (q : Question) (n : Point) : Type 0 where
  in_method : {c k : ℕ} → MethodOf s c k → ((d j : ℕ) → MethodOf s d j → j < k → MethodChecks s d j) → MethodNo s c k q n → WalkNo s q n
  in_start : ((d j : ℕ) → MethodOf s d j → MethodChecks s d j) → ExprNo (program_of s) [] (program_of s).start infers q n → WalkNo s q n

-- What each question asks, as a plain statement: of the script as a whole, of each of its records, or on the walk.
pub data Statement : Type 1 where
  of_whole : Type 0 → Statement
  of_records : Asks → Statement
  of_walk : Statement

abbrev pub statement_of : List ℕ → Question → Statement
statement_of s Length = of_whole (LengthIs s)
statement_of s Counts = of_whole (CountsAre s)
statement_of s Places = of_whole (PlacesAre s)
statement_of s Interfaces = of_records (InterfacesAre s)
statement_of s Owners = of_whole (OwnersAre s)
statement_of s Types = of_records (TypesAre s)
statement_of s Nodes = of_records (NodesAre s)
statement_of s Names = of_records (NamesAre s)
statement_of s Joins = of_records (JoinsAre s)
statement_of s Classes = of_records (ClassesAre s)
statement_of s Variables = of_walk
statement_of s Nulls = of_walk
statement_of s Members = of_walk
statement_of s Fits = of_walk
statement_of s Sharing = of_walk

-- A yes: the statement holds, or the walk gives no node this no.
abbrev pub YesTo : List ℕ → Question → Statement → Type 0
YesTo s q (of_whole P) = P
YesTo s q (of_records l) = Each s l
YesTo s q of_walk = (n : Point) → WalkNo s q n → ⊥

abbrev pub Yes : List ℕ → Question → Type 0
Yes s q = YesTo s q (statement_of s q)

-- A no with its place: "0 for questions 1 to 3, 5", else "the offset of the lowest faulty record".
pub record WholeNo (P : Type 0) (place : ℕ) : Type 0 where
  pub bad : P → ⊥
  pub there : place ≡ 0

pub record NodeNo (s : List ℕ) (q : Question) (place : ℕ) : Type 0 where
  pub node : Point
  pub no : WalkNo s q node
  pub there : place ≡ record_at s nodes node

abbrev pub NoTo : List ℕ → Question → ℕ → Statement → Type 0
NoTo s q place (of_whole P) = WholeNo P place
NoTo s q place (of_records l) = LowestNo s l place
NoTo s q place of_walk = NodeNo s q place

abbrev pub No : List ℕ → Question → ℕ → Type 0
No s q place = NoTo s q place (statement_of s q)

-- The refusal is the first no: every question of lower rank gets a yes, and it gets a no with this place.
pub record FirstNo (s : List ℕ) (q : Question) (place : ℕ) : Type 0 where
  pub before : (r : Question) → rank_of r < rank_of q → Yes s r
  pub no : No s q place
