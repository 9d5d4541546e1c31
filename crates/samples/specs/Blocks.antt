-- Small blocks of one script, each with the number that it gets, in one table: "Is the block a well-formed configuration of this script?", and if not, "Which
-- part of the block is bad". `proofs/Blocks.antt` has the one theorem over it.
use Rattle.std.specs.Prelude.{ℕ, ◌≤◌, ◌≡◌, Bool, true, false, List, [], ◌∷◌, eqb, length, pos, negsuc}
use Rattle.std.proofs.Math.Option.{some}
use Rattle.words.specs.Word.{bytes}
use Rattle.limits.specs.Limits.{BLOCK, CHOICES, FLAGS}
use Rattle.script.specs.Asking.{Decides}
use Rattle.script.specs.Lists.{◌∈◌}
use Rattle.std.specs.declared.result.Result.TheVariants.{Ok}
use Rattle.typing.specs.Check.{check_of}
use Rattle.machine.specs.declared.Value.TheVariants.{Null as nil, Ref as ref, Int as int}
use Rattle.machine.specs.declared.Frame.TheVariants.{Awaits as awaits, Casts as casts, Locks as locks}
use Rattle.machine.specs.Config.{Config, code_of, Object, Binding, Tree, running, returning, failed, join}
use Rattle.machine.specs.Machine.{limits, initial}
use Rattle.machine.specs.Runs.{report}
use Rattle.machine.specs.WellFormed.{WellFormed}
use Rattle.machine.specs.Decide.{only}
use Rattle.block.specs.Block.{encode}
use Rattle.calls.specs.Calls.{config_of, offer_of, run_of}
use Rattle.samples.specs.Samples.{configured, variable}

-- J is an empty list interface (type 1), I the join of J and J (type 2), C a class of I (type 3) and D a class of J (type 4). C has a field of name 0 and
-- type C and a method of name 0 that gives back its parameter of type C, D a field of name 0 and type Int. The start, of type I, is
-- let x = new C in let y = (x.0 = x) in let z = x.0(x) in fork{let w = x in (J)let v = x in null}{new D}; (I)x.
unfoldable pub block_script : List ℕ
block_script =
    bytes
    (24 ∷ 2 ∷ 36 ∷ 0 ∷ 36 ∷ 2 ∷ 48 ∷ 2 ∷ 56 ∷ 1 ∷ 64 ∷ 19
    ∷ 0 ∷ 0 ∷ 0 ∷ 1 ∷ 1 ∷ 1 ∷ 2 ∷ 1 ∷ 1 ∷ 1 ∷ 1 ∷ 0 ∷ 0 ∷ 3 ∷ 0 ∷ 5 ∷ 0 ∷ 3 ∷ 3 ∷ 14
    ∷ 5 ∷ 2 ∷ 1 ∷ 2 ∷ 6 ∷ 3 ∷ 0 ∷ 0 ∷ 5 ∷ 3 ∷ 3 ∷ 4 ∷ 3 ∷ 2 ∷ 0 ∷ 5 ∷ 5 ∷ 4 ∷ 6 ∷ 7 ∷ 1 ∷ 2 ∷ 0 ∷ 0 ∷ 4 ∷ 2 ∷ 0 ∷ 8 ∷ 8 ∷ 9 ∷ 10 ∷ 11
    ∷ 1 ∷ 2 ∷ 0 ∷ 0 ∷ 5 ∷ 5 ∷ 12 ∷ 15 ∷ 6 ∷ 4 ∷ 0 ∷ 0 ∷ 7 ∷ 2 ∷ 13 ∷ 0 ∷ 1 ∷ 2 ∷ 0 ∷ 0 ∷ 1 ∷ 2 ∷ 0 ∷ 0 ∷ 1 ∷ 1 ∷ 0 ∷ 0
    ∷ 7 ∷ 1 ∷ 16 ∷ 0 ∷ 5 ∷ 6 ∷ 17 ∷ 18 ∷ 1 ∷ 2 ∷ 0 ∷ 0 ∷ 0 ∷ 0 ∷ 0 ∷ 0 ∷ [])

-- A configuration, and the number that its block gets: 0 if it is well formed, else 21 for its objects, 26 for its bindings or 27 for the rest.
pub record BlockCase : Type 0 where
  pub config : Config
  pub number : ℕ

-- What is said of a case: the configuration is well formed or not, as it says; its block has the length, and the question about its bytes finds the
-- configuration or nothing; and Offer and Run answer the number.
pub record Judged (x : BlockCase) : Type 0 where
  pub formed : Decides (WellFormed (code_of block_script) limits 2 x.config) (eqb x.number 0)
  pub long : length (encode x.config) ≡ BLOCK
  pub asked : config_of block_script 2 (encode x.config) ≡ only (eqb x.number 0) (some x.config)
  pub offered : (fl : List ℕ) → length fl ≡ FLAGS → (offer_of block_script (encode x.config) fl).number ≡ x.number
  pub ran : (ns : List ℕ) → length ns ≤ CHOICES → (run_of block_script (encode x.config) ns).number ≡ x.number

-- An object of class C, open or shut, whose field is null, and one of class D, whose field is 0.
abbrev pub object_c : Bool → Object
object_c b = record { class = 3; shut = b; fields = nil ∷ [] }

abbrev pub object_d : Object
object_d = record { class = 4; shut = false; fields = int (pos 0) ∷ [] }

-- Environment 1: x is object 0, of type C.
abbrev pub x_of_c : List Binding
x_of_c = variable 2 3 (ref 0) 0 ∷ []

-- Environment 1 as above, and environment 2: x is object 0, of type I, which has no field and no method.
abbrev pub x_of_i : List Binding
x_of_i = variable 2 2 (ref 0) 0 ∷ x_of_c

-- A thread as the left async of the fork.
abbrev pub async_left : Tree → Tree
async_left t = join [] 11 1 t (running 10 1 [])

-- x is null, and no run has x without its object.
abbrev pub not_reached : Config
not_reached = configured [] (variable 2 3 nil 0 ∷ []) (running 11 1 [])

unfoldable pub block_cases : List BlockCase
block_cases =
    -- "Well formed is Figure 7, read with these points": none of them is that a run comes to it, and no run comes to this (`unreached` below)
    record { config = not_reached; number = 0 } ∷
    -- "all lock frames name distinct objects, each of them shut": one lock frame, of a shut object
    record { config = configured (object_c true ∷ []) x_of_c (running 11 1 (locks 0 ∷ [])); number = 0 } ∷
    -- two of it in one thread
    record { config = configured (object_c true ∷ []) x_of_c (running 11 1 (locks 0 ∷ locks 0 ∷ [])); number = 27 } ∷
    -- two of it, at a join and in its right thread
    record { config = configured (object_c true ∷ []) x_of_c (join (locks 0 ∷ []) 11 1 (running 9 1 []) (running 10 1 (locks 0 ∷ []))); number = 27 } ∷
    -- one of an open object
    record { config = configured (object_c false ∷ []) x_of_c (running 11 1 (locks 0 ∷ [])); number = 27 } ∷
    -- one of no object
    record { config = configured (object_c false ∷ []) x_of_c (running 11 1 (locks 1 ∷ [])); number = 27 } ∷
    -- "With no failed thread no other objects are shut.": no failed thread, and a shut object without a lock frame
    record { config = configured (object_c true ∷ []) x_of_c (async_left (running 9 1 [])); number = 27 } ∷
    -- the same with a failed thread
    record { config = configured (object_c true ∷ []) x_of_c (async_left failed); number = 0 } ∷
    -- "a failed thread holds nothing, so where it is a join's leftmost, nobody holds the objects of the join's lock frames, and that is well formed whatever
    -- Figure 7 asks of the left side"
    record { config = configured (object_c true ∷ []) x_of_c (join (locks 0 ∷ []) 11 1 failed (running 10 1 [])); number = 0 } ∷
    -- "links run to earlier bindings": the second binding to the first
    record { config = configured [] (variable 2 3 nil 1 ∷ variable 2 3 nil 0 ∷ []) (running 11 2 []); number = 0 } ∷
    -- the second to itself
    record { config = configured [] (variable 2 3 nil 2 ∷ variable 2 3 nil 0 ∷ []) (running 11 2 []); number = 26 } ∷
    -- the first to the second
    record { config = configured [] (variable 2 3 nil 0 ∷ variable 2 3 nil 2 ∷ []) (running 11 2 []); number = 26 } ∷
    -- "Type 0 is Unit; interfaces are 1 to I, classes I+1 to I+C.": a binding of type 4, the last class
    record { config = configured [] (variable 2 4 nil 0 ∷ []) failed; number = 0 } ∷
    -- a binding of type 6, which is none
    record { config = configured [] (variable 2 6 nil 0 ∷ []) failed; number = 26 } ∷
    -- "Type I+C+1 is Int, a signed 32-bit number.": a binding of type 5, with the least number and with the greatest
    record { config = configured [] (variable 2 5 (int (negsuc 2147483647)) 0 ∷ []) failed; number = 0 } ∷
    record { config = configured [] (variable 2 5 (int (pos 2147483647)) 0 ∷ []) failed; number = 0 } ∷
    -- "Null does not fit Int"
    record { config = configured [] (variable 2 5 nil 0 ∷ []) failed; number = 26 } ∷
    -- an object whose class is type 2, an interface
    record { config = configured (record { class = 2; shut = false; fields = [] } ∷ []) [] failed; number = 21 } ∷
    -- "value types fit": a binding of type J, with an object of class D
    record { config = configured (object_d ∷ []) (variable 2 1 (ref 0) 0 ∷ []) failed; number = 0 } ∷
    -- a binding of type C, with an object of class D
    record { config = configured (object_d ∷ []) (variable 2 3 (ref 0) 0 ∷ []) failed; number = 26 } ∷
    -- a binding of type J, with an object that is not there
    record { config = configured (object_d ∷ []) (variable 2 1 (ref 1) 0 ∷ []) failed; number = 26 } ∷
    -- "Int is below only itself": a binding of type C and one of type Unit, with a number, and a binding of type Int, with an object
    record { config = configured [] (variable 2 3 (int (pos 0)) 0 ∷ []) failed; number = 26 } ∷
    record { config = configured [] (variable 2 0 (int (pos 0)) 0 ∷ []) failed; number = 26 } ∷
    record { config = configured (object_d ∷ []) (variable 2 5 (ref 0) 0 ∷ []) failed; number = 26 } ∷
    -- a field of type C, with a number
    record { config = configured (record { class = 3; shut = false; fields = int (pos 0) ∷ [] } ∷ []) [] failed; number = 21 } ∷
    -- a field of type C, with an object of class D
    record { config = configured (object_d ∷ record { class = 3; shut = false; fields = ref 0 ∷ [] } ∷ []) [] failed; number = 21 } ∷
    -- a field of type C, with an object that is not there
    record { config = configured (record { class = 3; shut = false; fields = ref 1 ∷ [] } ∷ []) [] failed; number = 21 } ∷
    -- a field of type Int, with null and with an object
    record { config = configured (record { class = 4; shut = false; fields = nil ∷ [] } ∷ []) [] failed; number = 21 } ∷
    record { config = configured (record { class = 4; shut = false; fields = ref 0 ∷ [] } ∷ []) [] failed; number = 21 } ∷
    -- "frames are typed up to the start's type or below at the root": x, of type C, which is below I
    record { config = configured (object_c false ∷ []) x_of_c (running 13 1 []); number = 0 } ∷
    -- the same under a cast to J, which is above I
    record { config = configured (object_c false ∷ []) x_of_c (running 13 1 (casts 15 ∷ [])); number = 27 } ∷
    -- a join whose last part has type J
    record { config = configured (object_c false ∷ []) x_of_c (join [] 15 1 (running 9 1 []) (running 10 1 [])); number = 27 } ∷
    -- "and to any type at an async": x under a cast to J, as an async
    record { config = configured (object_c false ∷ []) x_of_c (async_left (running 13 1 (casts 15 ∷ []))); number = 0 } ∷
    -- a number, as an async and at the root
    record { config = configured (object_c false ∷ []) x_of_c (async_left (returning (int (pos 0)) [])); number = 0 } ∷
    record { config = configured (object_c false ∷ []) x_of_c (returning (int (pos 0)) []); number = 27 } ∷
    -- "what a let frame waits for fits the type inferred for the let's first part under the frame's bindings (there must be one)": let w = x in (J).. where x
    -- has type C, with an object of class C
    record { config = configured (object_c false ∷ object_d ∷ []) x_of_c (async_left (returning (ref 0) (awaits 9 1 ∷ []))); number = 0 } ∷
    -- with an object of class D
    record { config = configured (object_c false ∷ object_d ∷ []) x_of_c (async_left (returning (ref 1) (awaits 9 1 ∷ []))); number = 27 } ∷
    -- where there is no x, with null
    record { config = configured (object_c false ∷ object_d ∷ []) x_of_c (async_left (returning nil (awaits 9 0 ∷ []))); number = 27 } ∷
    -- "its last part is checked against that same type", what is expected beneath the frame: let v = x in null, expected to be a J, an I or below, anything
    record { config = configured (object_c false ∷ object_d ∷ []) x_of_c (async_left (returning (ref 0) (awaits 16 1 ∷ casts 15 ∷ []))); number = 0 } ∷
    record { config = configured (object_c false ∷ object_d ∷ []) x_of_c (returning (ref 0) (awaits 16 1 ∷ [])); number = 0 } ∷
    record { config = configured (object_c false ∷ object_d ∷ []) x_of_c (async_left (returning (ref 0) (awaits 16 1 ∷ []))); number = 0 } ∷
    -- let w = x in (J).., expected to be an I or below
    record { config = configured (object_c false ∷ object_d ∷ []) x_of_c (returning (ref 0) (awaits 9 1 ∷ [])); number = 27 } ∷
    -- let v = x in null where there is no x, expected to be anything
    record { config = configured (object_c false ∷ object_d ∷ []) x_of_c (async_left (running 16 0 [])); number = 27 } ∷
    -- "value types fit", of a write frame: x.0 = x where x has type C, with an object of class C
    record { config = configured (object_c false ∷ object_d ∷ []) x_of_c (async_left (returning (ref 0) (awaits 3 1 ∷ []))); number = 0 } ∷
    -- with an object of class D
    record { config = configured (object_c false ∷ object_d ∷ []) x_of_c (async_left (returning (ref 1) (awaits 3 1 ∷ []))); number = 27 } ∷
    -- "Field targets must have class type.": where x has type I
    record { config = configured (object_c false ∷ object_d ∷ []) x_of_i (async_left (returning (ref 0) (awaits 3 2 ∷ []))); number = 27 } ∷
    -- "value types fit", of a call frame: x.0(x) where x has type C, with an object of class C
    record { config = configured (object_c false ∷ object_d ∷ []) x_of_c (returning (ref 0) (awaits 6 1 ∷ [])); number = 0 } ∷
    -- with an object of class D
    record { config = configured (object_c false ∷ object_d ∷ []) x_of_c (returning (ref 1) (awaits 6 1 ∷ [])); number = 27 } ∷
    -- "An interface's are those of its list, or of both parents.": where x has type I, which has no method
    record { config = configured (object_c false ∷ object_d ∷ []) x_of_i (returning (ref 0) (awaits 6 2 ∷ [])); number = 27 } ∷
    -- "kinds 3, 4, 5 and 7 descend into their first-run part and leave a frame": a frame of a variable, kind 1
    record { config = configured (object_c false ∷ object_d ∷ []) x_of_c (async_left (returning nil (awaits 13 1 ∷ []))); number = 27 } ∷
    -- a cast frame of a let, kind 5
    record { config = configured (object_c false ∷ object_d ∷ []) x_of_c (async_left (returning nil (casts 9 ∷ []))); number = 27 } ∷
    -- a variable that no binding has by this name: the binding is sound by itself
    record { config = configured (object_c false ∷ []) (variable 3 3 (ref 0) 0 ∷ []) (running 11 1 []); number = 27 } ∷
    -- "Objects are examined first, then bindings, then frames and threads": an object of an interface's type, a binding of no type and a shut object without a
    -- lock frame; and the last two
    record { config = configured (record { class = 2; shut = true; fields = [] } ∷ []) (variable 2 6 nil 0 ∷ []) (running 11 1 []); number = 21 } ∷
    record { config = configured (object_c true ∷ []) (variable 2 6 nil 0 ∷ []) (running 11 1 []); number = 26 } ∷
    -- "each part assuming the earlier ones sound": a binding that fits, with an object whose field does not
    record { config = configured (record { class = 3; shut = false; fields = int (pos 0) ∷ [] } ∷ []) x_of_c failed; number = 21 } ∷
    []

-- What is said of the table: Check accepts the script, with the type that `Judged` has; each case is judged as it says; and no choices lead from the initial
-- configuration to `not_reached`.
pub record BlocksJudged : Type 0 where
  pub accepted : check_of block_script ≡ Ok 2
  pub judged : (x : BlockCase) → x ∈ block_cases → Judged x
  pub unreached : (ns : List ℕ) → (report (code_of block_script) limits initial ns).config ≡ not_reached → ⊥
