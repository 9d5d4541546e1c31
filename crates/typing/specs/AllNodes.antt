-- Each sentence about a node, and the order of bodies and of questions, as an example: tables by computation over small scripts. `proofs/AllNodes.antt` has the
-- theorems over them.
use Rattle.std.specs.Prelude.{ℕ, ◌≡◌, List, [], ◌∷◌, pos}
use Rattle.words.specs.Word.{bytes}
use Rattle.script.specs.declared.Question.TheVariants.{Nodes, Joins, Classes, Variables, Nulls, Members, Fits, Sharing}
use Rattle.script.specs.Syntax.{Expr, null, var, select, update, call, bind, new, cast, fork, lock, constant, add, Slot, Signature, lists, extends, Program}
use Rattle.script.specs.AllFiles.{file_of}
use Rattle.typing.specs.declared.Aim.{Aim}
use Rattle.typing.specs.declared.Aim.TheVariants.{Infers as infers, Checks as checks}
use Rattle.std.specs.declared.result.Result.TheVariants.{Ok}
use Rattle.typing.specs.Answers.{Answer, Verdict, faulty, refusal}
use Rattle.typing.specs.Typing.{answer, bodies_of, walk}
use Rattle.typing.specs.Check.{check_of}

abbrev pub slot : ℕ → ℕ → Slot
slot x t = record { name = x; type = t }

abbrev pub signature : ℕ → ℕ → ℕ → Signature
signature m t u = record { name = m; param = t; result = u }

-- The script: interfaces I { 5(I) : I }, J { 6(Int) : Int } and K of both, types 1, 2 and 3; a class C of K, type 4, with a field 7 : C and a method
-- 8(I) : C besides; Int is type 5. Two bodies and the start are given.
abbrev pub node_script : Expr → Expr → Expr → Program
node_script five eight start =
    record {
      interfaces = lists (signature 5 1 1 ∷ []) ∷ lists (signature 6 5 5 ∷ []) ∷ extends 1 2 ∷ [];
      classes =
          record {
            implements = 3;
            fields = slot 7 4 ∷ [];
            methods =
                record { signature = signature 5 1 1; body = five } ∷
                record { signature = signature 6 5 5; body = var 100 1 } ∷
                record { signature = signature 8 1 4; body = eight } ∷
                [];
          } ∷
          [];
      start = start;
    }

-- x : C is variable 2, before an older x : I; y : I is 3, k : K is 4, u : Unit is 10, and m and n : Int are 11 and 12. Variable 9 is not bound.
abbrev pub node_variables : List Slot
node_variables = slot 2 4 ∷ slot 3 1 ∷ slot 4 3 ∷ slot 10 0 ∷ slot 11 5 ∷ slot 12 5 ∷ slot 2 1 ∷ []

-- An expression, how it is asked, and what the walk answers.
pub record NodeExample : Type 0 where
  pub expr : Expr
  pub aim : Aim
  pub outcome : Answer

abbrev pub inferring : Expr → Answer → NodeExample
inferring e r = record { expr = e; aim = infers; outcome = r }

abbrev pub checking : ℕ → Expr → Answer → NodeExample
checking t e r = record { expr = e; aim = checks t; outcome = r }

abbrev pub NodeHolds : NodeExample → Type 0
NodeHolds x = answer (node_script (null 0) (null 0) (null 0)) node_variables x.expr x.aim ≡ x.outcome

unfoldable pub node_examples : List NodeExample
node_examples =
    -- "A null is checked against any type and inferred never", but "Null does not fit Int (14)"
    inferring (null 0) (faulty Nulls 0) ∷
    checking 1 (null 0) (Ok 1) ∷
    checking 5 (null 0) (faulty Fits 0) ∷
    -- "Is each variable bound?", and "the nearest binding counts"
    inferring (var 0 9) (faulty Variables 0) ∷
    inferring (var 0 2) (Ok 4) ∷
    -- "A type is below itself, a class below its interface, a join below both parents, and so on upward along every chain"; nothing is below what it is above
    checking 4 (var 0 2) (Ok 4) ∷
    checking 3 (var 0 2) (Ok 3) ∷
    checking 1 (var 0 2) (Ok 1) ∷
    checking 2 (var 0 2) (Ok 2) ∷
    checking 4 (var 0 3) (faulty Fits 0) ∷
    -- "Unit is below only itself", and "Int is below only itself"
    checking 1 (var 0 10) (faulty Fits 0) ∷
    checking 0 (var 0 11) (faulty Fits 0) ∷
    checking 5 (var 0 11) (Ok 5) ∷
    -- "Field targets must have class type": x.7, y.7
    inferring (select 0 2 7) (Ok 4) ∷
    inferring (select 0 3 7) (faulty Members 0) ∷
    -- "A write has type Unit": x.7 = x; and "target variable, field or method, parts in running order"
    inferring (update 0 2 7 (var 1 2)) (Ok 0) ∷
    inferring (update 0 9 7 (var 1 9)) (faulty Variables 0) ∷
    inferring (update 0 3 7 (var 1 9)) (faulty Members 0) ∷
    inferring (update 0 2 7 (var 1 9)) (faulty Variables 1) ∷
    inferring (update 0 2 7 (var 1 3)) (faulty Fits 1) ∷
    -- "A class type's methods are its own. An interface's are those of its list, or of both parents.": x.8(y), y.8(y), k.5(x), k.6(m)
    inferring (call 0 2 8 (var 1 3)) (Ok 4) ∷
    inferring (call 0 3 8 (var 1 3)) (faulty Members 0) ∷
    inferring (call 0 4 5 (var 1 2)) (Ok 1) ∷
    inferring (call 0 4 6 (var 1 11)) (Ok 5) ∷
    inferring (call 0 2 8 (var 1 11)) (faulty Fits 1) ∷
    -- "Let, lock and fork infer the type of their last part": let 9 = x in 9, lock y in x, fork {m} {n}; x
    inferring (bind 0 9 (var 1 2) (var 2 9)) (Ok 4) ∷
    inferring (lock 0 3 (var 1 2)) (Ok 4) ∷
    inferring (fork 0 (var 1 11) (var 2 12) (var 3 2)) (Ok 4) ∷
    -- "when a let, a lock or a fork is checked against a type, its last part is checked against that same type"; a first part and asyncs are inferred
    checking 1 (bind 0 9 (var 1 2) (null 2)) (Ok 1) ∷
    checking 1 (lock 0 3 (null 1)) (Ok 1) ∷
    checking 1 (fork 0 (var 1 11) (var 2 12) (null 3)) (Ok 1) ∷
    checking 1 (bind 0 9 (null 1) (null 2)) (faulty Nulls 1) ∷
    checking 1 (fork 0 (null 1) (null 2) (null 3)) (faulty Nulls 1) ∷
    checking 1 (fork 0 (var 1 11) (null 2) (null 3)) (faulty Nulls 2) ∷
    -- "A cast infers its type after checking its operand", and the operand is at fault: (I)x, (C)y
    inferring (cast 0 1 (var 1 2)) (Ok 1) ∷
    inferring (cast 0 4 (var 1 3)) (faulty Fits 1) ∷
    -- "The asyncs of a fork share no free variable", and "fork sharing" is asked first; a let's own variable is not free, and both of a sum are
    inferring (fork 0 (var 1 9) (lock 2 9 (null 3)) (null 4)) (faulty Sharing 0) ∷
    inferring (fork 0 (bind 1 2 (new 2 4) (var 3 2)) (var 4 2) (var 5 3)) (Ok 1) ∷
    inferring (fork 0 (add 1 11 12) (var 2 12) (var 3 3)) (faulty Sharing 0) ∷
    -- "A lock target may have any type", but "Int is no target of field, call or lock (13)"; the part comes after it
    inferring (lock 0 10 (var 1 2)) (Ok 4) ∷
    inferring (lock 0 9 (null 1)) (faulty Variables 0) ∷
    inferring (lock 0 11 (null 1)) (faulty Members 0) ∷
    -- a constant, and "kind 11 adds variables a and b, both bound (11), then both of type Int (14)": m + n, m + u, u + m, u + 9, 9 + u
    inferring (constant 0 (pos 7)) (Ok 5) ∷
    inferring (add 0 11 12) (Ok 5) ∷
    inferring (add 0 11 10) (faulty Fits 0) ∷
    inferring (add 0 10 11) (faulty Fits 0) ∷
    inferring (add 0 10 9) (faulty Variables 0) ∷
    inferring (add 0 9 10) (faulty Variables 0) ∷
    []

-- The bodies of methods 5 and 8, the start, and what the walk over all bodies and the start answers.
pub record WalkExample : Type 0 where
  pub five : Expr
  pub eight : Expr
  pub start : Expr
  pub outcome : Answer

abbrev pub walked : Expr → Expr → Expr → Answer → WalkExample
walked b c e r = record { five = b; eight = c; start = e; outcome = r }

abbrev pub WalkHolds : WalkExample → Type 0
WalkHolds x = let p = node_script x.five x.eight x.start in walk p (bodies_of p) ≡ x.outcome

unfoldable pub walk_examples : List WalkExample
walk_examples =
    -- "Bodies are checked against the result type", under `this` : C and the parameter : I; 8 has another result than its parameter
    walked (var 1 1) (var 2 0) (new 0 4) (Ok 4) ∷
    walked (null 1) (var 2 1) (new 0 4) (faulty Fits 2) ∷
    -- "the start is inferred with no variable": it "still gets 12"
    walked (null 1) (null 2) (null 0) (faulty Nulls 0) ∷
    walked (null 1) (null 2) (var 0 0) (faulty Variables 0) ∷
    -- "Questions 11 to 15 go through bodies in method order, then the start."
    walked (var 1 9) (var 2 9) (var 0 9) (faulty Variables 1) ∷
    walked (null 1) (var 2 9) (var 0 9) (faulty Variables 2) ∷
    []

-- The words of a file, and what Check answers.
pub record CheckExample : Type 0 where
  pub file : List ℕ
  pub verdict : Verdict

abbrev pub CheckHolds : CheckExample → Type 0
CheckHolds x = check_of (bytes x.file) ≡ x.verdict

unfoldable pub check_examples : List CheckExample
check_examples =
    -- "Do all meanings of a method name in a join have the same types?": 5(Unit) : Unit and 5(Int) : Unit
    record { file = file_of (0 ∷ 1 ∷ 0 ∷ 0 ∷ 1 ∷ 0 ∷ 1 ∷ 1 ∷ 2 ∷ []) (5 ∷ 0 ∷ 0 ∷ 5 ∷ 4 ∷ 0 ∷ []) [] [] [] (0 ∷ 0 ∷ 0 ∷ 0 ∷ []); verdict = refusal Joins 36 } ∷
    -- "Questions to a call, in order": a class lacks the method of its interface, and the start is of an unknown kind, then null; a start null alone
    record { file = file_of (0 ∷ 1 ∷ 0 ∷ []) (5 ∷ 0 ∷ 0 ∷ []) (1 ∷ 0 ∷ 0 ∷ []) [] [] (12 ∷ 0 ∷ 0 ∷ 0 ∷ []); verdict = refusal Nodes 42 } ∷
    record { file = file_of (0 ∷ 1 ∷ 0 ∷ []) (5 ∷ 0 ∷ 0 ∷ []) (1 ∷ 0 ∷ 0 ∷ []) [] [] (0 ∷ 0 ∷ 0 ∷ 0 ∷ []); verdict = refusal Classes 36 } ∷
    record { file = file_of [] [] [] [] [] (0 ∷ 0 ∷ 0 ∷ 0 ∷ []); verdict = refusal Nulls 24 } ∷
    []
