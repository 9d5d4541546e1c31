-- Each sentence of "Moves", and of what Run and Offer do with moves, as an example: tables by computation over one small script. `proofs/AllMoves.antt` has the
-- theorems over them.
use Rattle.std.specs.Prelude.{ℕ, suc, ◌-◌, ◌≡◌, Bool, true, false, List, [], ◌∷◌, length, get_or, ℤ, pos, negsuc}
use Rattle.std.proofs.Math.Option.{Option, none, some}
use Rattle.script.specs.Lists.{run}
use Rattle.script.specs.Syntax.{Point, Expr, null, var, Node, n_null, n_var, n_select, n_update, n_call, n_bind, n_new, n_cast, n_fork, n_lock, n_constant}
use Rattle.script.specs.Syntax.{n_add, build, Signature, lists, Program}
use Rattle.machine.specs.declared.Store.{Store}
use Rattle.machine.specs.declared.Store.TheVariants.{Objects, Bindings, Frames, Threads}
use Rattle.machine.specs.declared.Ending.TheVariants.{Finished, Failed, Deadlocked}
use Rattle.machine.specs.declared.Stop.{Stop}
use Rattle.machine.specs.declared.Stop.TheVariants.{Spent, Ended, Full}
use Rattle.machine.specs.declared.Value.{Value}
use Rattle.machine.specs.declared.Value.TheVariants.{Null as nil, Ref as ref, Int as int}
use Rattle.machine.specs.declared.Frame.{Frame}
use Rattle.machine.specs.declared.Frame.TheVariants.{Awaits as awaits, Casts as casts, Locks as locks}
use Rattle.machine.specs.Config.{Code, Object, Binding, Tree, running, returning, failed, join, Config}
use Rattle.machine.specs.Machine.{Places, Outcome, still, full, moved, Path, locate, choice, can_move, part}
use Rattle.machine.specs.Ends.{held_by}
use Rattle.machine.specs.Silent.{quiet_in, silent_from}
use Rattle.machine.specs.Runs.{Report, report}
use Rattle.machine.specs.Decide.{well_formed_test}

-- The script. Type 1 is the interface I { 5(I) : I }, type 2 the class C of it, with fields 8 : I, 7 : C and 9 : Int, which is type 3, and a method 6(Int) : C
-- besides; x is variable 2, y is 3, z is 4; m, a number, is variable 6, and n, another, the parameter of method 6. Its nodes:
unfoldable pub example_nodes : List Node
example_nodes =
    -- 0, 1: let x = new C in
    n_bind 2 1 2 ∷
    n_new 2 ∷
    -- 2, 3, 4: let y = (I) new C in
    n_bind 3 3 5 ∷
    n_cast 1 4 ∷
    n_new 2 ∷
    -- 5, 6: let z = x in
    n_bind 4 6 7 ∷
    n_var 2 ∷
    -- 7, 8, 9: let 5 = (x.7 = null) in
    n_bind 5 8 10 ∷
    n_update 2 7 9 ∷
    n_null ∷
    -- 10, 11, 12: let 5 = y.5(x) in
    n_bind 5 11 13 ∷
    n_call 3 5 12 ∷
    n_var 2 ∷
    -- 13 to 18: fork { lock x in x.7 } { lock y in y };
    n_fork 14 16 18 ∷
    n_lock 2 15 ∷
    n_select 2 7 ∷
    n_lock 3 17 ∷
    n_var 3 ∷
    -- 18, 19: lock x in x
    n_lock 2 19 ∷
    n_var 2 ∷
    -- 20, the body of method 5: its parameter
    n_var 1 ∷
    -- 21, 22, 23, the body of method 6: let 5 = (this.9 = -1) in
    n_bind 5 22 24 ∷
    n_update 0 9 23 ∷
    n_constant (negsuc 0) ∷
    -- 24, 25: let m = this.9 in
    n_bind 6 25 26 ∷
    n_select 0 9 ∷
    -- 26, 27: let 5 = m + n in
    n_bind 5 27 28 ∷
    n_add 6 1 ∷
    -- 28, 29, 30: let 5 = n + n in null
    n_bind 5 29 30 ∷
    n_add 1 1 ∷
    n_null ∷
    []

-- The expressions of nodes that are numbered from n on.
abbrev pub expressions : Point → List Node → List Expr
expressions n [] = []
expressions n (v ∷ vs) = let r = expressions (suc n) vs in build n (λ p. get_or r (p - suc n) (null 0)) v ∷ r

abbrev pub example_program : Program
example_program =
    let five : Signature = record { name = 5; param = 1; result = 1 } in
    record {
      interfaces = lists (five ∷ []) ∷ [];
      classes =
          record {
            implements = 1;
            fields = record { name = 8; type = 1 } ∷ record { name = 7; type = 2 } ∷ record { name = 9; type = 3 } ∷ [];
            methods =
                record { signature = five; body = var 20 1 } ∷
                record { signature = record { name = 6; param = 3; result = 2 }; body = get_or (expressions 0 example_nodes) 21 (null 0) } ∷
                [];
          } ∷
          [];
      start = get_or (expressions 0 example_nodes) 0 (null 0);
    }

unfoldable pub example_code : Code
example_code =
    record {
      program = example_program;
      size = length example_nodes;
      view = λ n. get_or example_nodes n n_null;
      expr = λ n. get_or (expressions 0 example_nodes) n (null 0);
    }

-- An object of class C, open or shut, with the values of fields 8 and 7, and 0 in field 9; an open one with a number there.
abbrev pub an_open : Value → Value → Object
an_open v w = record { class = 2; shut = false; fields = v ∷ w ∷ int (pos 0) ∷ [] }

abbrev pub a_shut : Value → Value → Object
a_shut v w = record { class = 2; shut = true; fields = v ∷ w ∷ int (pos 0) ∷ [] }

abbrev pub a_counter : ℤ → Object
a_counter z = record { class = 2; shut = false; fields = nil ∷ nil ∷ int z ∷ [] }

-- A binding of name x and type t: its value, and the binding beneath. In most rows x : C is the oldest, so environment 1 has it, and y : I is on it in
-- environment 2.
abbrev pub bound_to : ℕ → ℕ → Value → ℕ → Binding
bound_to x t v e = record { name = x; type = t; value = v; link = e }

abbrev pub xy : Value → Value → List Binding
xy v w = bound_to 3 1 w 1 ∷ bound_to 2 2 v 0 ∷ []

-- In method 6 this : C is object 0, n : Int is on it in environment 2, and m : Int in environment 3: the numbers of m and n.
abbrev pub mn : ℤ → ℤ → List Binding
mn m n = bound_to 6 3 (int m) 2 ∷ bound_to 1 3 (int n) 1 ∷ bound_to 0 2 (ref 0) 0 ∷ []

-- A join at the script's one fork: its last part is node 18, in environment 2.
abbrev pub join_at : List Frame → Tree → Tree → Tree
join_at fs l r = join fs 18 2 l r

abbrev pub holding : List Object → List Binding → Tree → Config
holding os bs t = record { stores = record { objects = os; bindings = bs }; tree = t }

-- A choice: the limits, the configuration, the position, whether the move due there is silent, and what the choice comes to.
pub record Example : Type 0 where
  pub room : Places
  pub config : Config
  pub position : ℕ
  pub is_silent : Bool
  pub outcome : Outcome

-- Limits that no example reaches, and an example with others.
abbrev pub ample : Places
ample = record { objects = 9; bindings = 9; frames = 9; threads = 9 }

abbrev pub limited_to : Places → Example → Example
limited_to p x = record { room = p; config = x.config; position = x.position; is_silent = x.is_silent; outcome = x.outcome }

-- The choice changes stores and tree; it leaves the stores as they are, and the move is silent, or not; it makes no move; it meets a full store, and the move
-- due is silent, or not.
abbrev pub changes_to : List Object → List Binding → Tree → ℕ → List Object → List Binding → Tree → Example
changes_to os bs t n os' bs' u =
    record { room = ample; config = holding os bs t; position = n; is_silent = false; outcome = moved (record { objects = os'; bindings = bs' }) u }

abbrev pub silent_to : List Object → List Binding → Tree → ℕ → Tree → Example
silent_to os bs t n u =
    record { room = ample; config = holding os bs t; position = n; is_silent = true; outcome = moved (record { objects = os; bindings = bs }) u }

abbrev pub moves_to : List Object → List Binding → Tree → ℕ → Tree → Example
moves_to os bs t n u = changes_to os bs t n os bs u

abbrev pub unmoved : List Object → List Binding → Tree → ℕ → Example
unmoved os bs t n = record { room = ample; config = holding os bs t; position = n; is_silent = false; outcome = still }

abbrev pub too_full : Bool → List Object → List Binding → Tree → ℕ → Store → Example
too_full b os bs t n k = record { room = ample; config = holding os bs t; position = n; is_silent = b; outcome = full k }

unfoldable pub examples : List Example
examples =
    -- "A choice is a byte naming a tree position, preorder, root 0, left before right. A position that is absent or cannot move is passed over." Three threads,
    -- each at a variable; then a join of two finished threads
    unmoved (an_open nil nil ∷ an_open nil nil ∷ []) (xy (ref 1) (ref 0)) (join_at [] (join_at [] (running 17 2 []) (running 12 2 [])) (running 19 2 [])) 0 ∷
    unmoved (an_open nil nil ∷ an_open nil nil ∷ []) (xy (ref 1) (ref 0)) (join_at [] (join_at [] (running 17 2 []) (running 12 2 [])) (running 19 2 [])) 1 ∷
    moves_to (an_open nil nil ∷ an_open nil nil ∷ []) (xy (ref 1) (ref 0))
    (join_at [] (join_at [] (running 17 2 []) (running 12 2 [])) (running 19 2 [])) 2
    (join_at [] (join_at [] (returning (ref 0) []) (running 12 2 [])) (running 19 2 [])) ∷
    moves_to (an_open nil nil ∷ an_open nil nil ∷ []) (xy (ref 1) (ref 0))
    (join_at [] (join_at [] (running 17 2 []) (running 12 2 [])) (running 19 2 [])) 3
    (join_at [] (join_at [] (running 17 2 []) (returning (ref 1) [])) (running 19 2 [])) ∷
    moves_to (an_open nil nil ∷ an_open nil nil ∷ []) (xy (ref 1) (ref 0))
    (join_at [] (join_at [] (running 17 2 []) (running 12 2 [])) (running 19 2 [])) 4
    (join_at [] (join_at [] (running 17 2 []) (running 12 2 [])) (returning (ref 1) [])) ∷
    unmoved (an_open nil nil ∷ an_open nil nil ∷ []) (xy (ref 1) (ref 0)) (join_at [] (join_at [] (running 17 2 []) (running 12 2 [])) (running 19 2 [])) 5 ∷
    moves_to (an_open nil nil ∷ an_open nil nil ∷ []) (xy (ref 1) (ref 0))
    (join_at [] (join_at [] (returning (ref 0) []) (returning (ref 1) [])) (running 19 2 [])) 1
    (join_at [] (running 18 2 []) (running 19 2 [])) ∷
    -- "null becomes a value"
    silent_to (an_open nil nil ∷ []) (xy (ref 0) nil) (running 9 2 (awaits 8 2 ∷ awaits 7 2 ∷ [])) 0 (returning nil (awaits 8 2 ∷ awaits 7 2 ∷ [])) ∷
    -- a constant "becomes a value silently as null does"
    silent_to (a_counter (pos 7) ∷ []) (mn (pos 0) (pos 0))
    (running 23 2 (awaits 22 2 ∷ awaits 21 2 ∷ [])) 0
    (returning (int (negsuc 0)) (awaits 22 2 ∷ awaits 21 2 ∷ [])) ∷
    -- "kinds 3, 4, 5 and 7 descend into their first-run part and leave a frame"
    silent_to (an_open nil nil ∷ []) (xy (ref 0) nil) (running 8 2 (awaits 7 2 ∷ [])) 0 (running 9 2 (awaits 8 2 ∷ awaits 7 2 ∷ [])) ∷
    silent_to (an_open nil nil ∷ []) (xy nil (ref 0)) (running 11 2 (awaits 10 2 ∷ [])) 0 (running 12 2 (awaits 11 2 ∷ awaits 10 2 ∷ [])) ∷
    silent_to [] (xy nil nil) (running 2 1 []) 0 (running 3 1 (awaits 2 1 ∷ [])) ∷
    silent_to [] (xy nil nil) (running 3 1 (awaits 2 1 ∷ [])) 0 (running 4 1 (casts 3 ∷ awaits 2 1 ∷ [])) ∷
    -- "a variable gives its value", and "the nearest binding counts": three are called x, and environment 2 begins with the second
    moves_to (an_open nil nil ∷ an_open nil nil ∷ an_open nil nil ∷ []) (bound_to 2 2 (ref 2) 1 ∷ bound_to 2 2 (ref 1) 1 ∷ bound_to 2 2 (ref 0) 0 ∷ [])
    (running 19 2 []) 0
    (returning (ref 1) []) ∷
    -- "a read gives the field", an object or a number
    moves_to (an_open nil (ref 0) ∷ []) (xy (ref 0) nil) (running 15 2 []) 0 (returning (ref 0) []) ∷
    moves_to (a_counter (negsuc 6) ∷ []) (mn (pos 0) (pos 0)) (running 25 2 (awaits 24 2 ∷ [])) 0 (returning (int (negsuc 6)) (awaits 24 2 ∷ [])) ∷
    -- "kind 11 adds variables a and b .. in one step": m + n, and n + n
    moves_to (a_counter (pos 0) ∷ []) (mn (pos 2) (negsuc 4)) (running 27 3 (awaits 26 3 ∷ [])) 0 (returning (int (negsuc 2)) (awaits 26 3 ∷ [])) ∷
    moves_to (a_counter (pos 0) ∷ []) (mn (pos 2) (negsuc 4)) (running 29 3 (awaits 28 3 ∷ [])) 0 (returning (int (negsuc 9)) (awaits 28 3 ∷ [])) ∷
    -- the last and the first number of the range; the next "fails the thread as null does": the object of its lock frame stays shut
    moves_to (a_shut nil nil ∷ []) (mn (pos 2147483646) (pos 1))
    (running 27 3 (locks 0 ∷ awaits 26 3 ∷ [])) 0
    (returning (int (pos 2147483647)) (locks 0 ∷ awaits 26 3 ∷ [])) ∷
    moves_to (a_shut nil nil ∷ []) (mn (negsuc 2147483646) (negsuc 0))
    (running 27 3 (locks 0 ∷ awaits 26 3 ∷ [])) 0
    (returning (int (negsuc 2147483647)) (locks 0 ∷ awaits 26 3 ∷ [])) ∷
    moves_to (a_shut nil nil ∷ []) (mn (pos 2147483647) (pos 1)) (running 27 3 (locks 0 ∷ awaits 26 3 ∷ [])) 0 failed ∷
    moves_to (a_shut nil nil ∷ []) (mn (negsuc 2147483647) (negsuc 0)) (running 27 3 (locks 0 ∷ awaits 26 3 ∷ [])) 0 failed ∷
    -- "new makes an open object with null fields", but "The initial value of a field now follows its type, null or 0"
    changes_to (an_open (ref 0) nil ∷ []) (xy nil nil)
    (running 4 1 (casts 3 ∷ awaits 2 1 ∷ [])) 0
    (an_open (ref 0) nil ∷ an_open nil nil ∷ []) (xy nil nil) (returning (ref 1) (casts 3 ∷ awaits 2 1 ∷ [])) ∷
    -- "a waiting write stores and gives null"
    changes_to (an_open nil nil ∷ an_open (ref 0) nil ∷ []) (xy (ref 1) nil)
    (returning (ref 0) (awaits 8 2 ∷ awaits 7 2 ∷ [])) 0
    (an_open nil nil ∷ an_open (ref 0) (ref 0) ∷ []) (xy (ref 1) nil) (returning nil (awaits 7 2 ∷ [])) ∷
    changes_to (a_counter (pos 7) ∷ []) (mn (pos 0) (pos 0))
    (returning (int (negsuc 0)) (awaits 22 2 ∷ awaits 21 2 ∷ [])) 0
    (a_counter (negsuc 0) ∷ []) (mn (pos 0) (pos 0)) (returning nil (awaits 21 2 ∷ [])) ∷
    -- "a waiting let adds one binding, its type the one inferred for the let's first part under the frame's bindings": of (I) new C, whose object is of class
    -- C; of x : C, where a newer x : I is not among the frame's bindings
    changes_to (an_open nil nil ∷ []) (xy nil nil)
    (returning (ref 0) (awaits 2 1 ∷ [])) 0
    (an_open nil nil ∷ []) (bound_to 3 1 (ref 0) 1 ∷ xy nil nil) (running 5 3 []) ∷
    changes_to [] (bound_to 2 1 nil 2 ∷ xy nil nil) (returning nil (awaits 5 2 ∷ [])) 0
    [] (bound_to 4 2 nil 2 ∷ bound_to 2 1 nil 2 ∷ xy nil nil) (running 7 4 []) ∷
    -- "a waiting call adds two, this with the object's class and the parameter with its declared type, and enters the body with no others": y : I holds an
    -- object of class C, and so does the argument
    changes_to (an_open nil nil ∷ an_open nil nil ∷ []) (xy (ref 1) (ref 0))
    (returning (ref 1) (awaits 11 2 ∷ awaits 10 2 ∷ [])) 0
    (an_open nil nil ∷ an_open nil nil ∷ []) (bound_to 1 1 (ref 1) 3 ∷ bound_to 0 2 (ref 0) 0 ∷ xy (ref 1) (ref 0)) (running 20 4 (awaits 10 2 ∷ [])) ∷
    -- "a waiting cast vanishes"
    moves_to (an_open nil nil ∷ []) (xy nil nil) (returning (ref 0) (casts 3 ∷ awaits 2 1 ∷ [])) 0 (returning (ref 0) (awaits 2 1 ∷ [])) ∷
    -- "Targets are tested after the argument": a write and a call with a null target descend
    silent_to [] (xy nil nil) (running 8 2 (awaits 7 2 ∷ [])) 0 (running 9 2 (awaits 8 2 ∷ awaits 7 2 ∷ [])) ∷
    silent_to [] (xy nil nil) (running 11 2 (awaits 10 2 ∷ [])) 0 (running 12 2 (awaits 11 2 ∷ awaits 10 2 ∷ [])) ∷
    -- "null fails the thread": a read, a waiting write and a waiting call. "A failed thread keeps no frame and holds nothing; objects that it or a dropped
    -- thread held stay shut."
    moves_to (a_shut nil nil ∷ []) (xy nil (ref 0)) (running 15 2 (locks 0 ∷ [])) 0 failed ∷
    moves_to (an_open nil nil ∷ []) (xy nil (ref 0)) (returning (ref 0) (awaits 8 2 ∷ awaits 7 2 ∷ [])) 0 failed ∷
    moves_to (an_open nil nil ∷ []) (xy (ref 0) nil) (returning (ref 0) (awaits 11 2 ∷ awaits 10 2 ∷ [])) 0 failed ∷
    -- "Lock: null fails"
    moves_to (a_shut nil nil ∷ []) (xy nil (ref 0)) (running 18 2 (locks 0 ∷ [])) 0 failed ∷
    -- "open shuts and leaves a lock frame"
    changes_to (a_shut nil nil ∷ an_open (ref 0) (ref 1) ∷ []) (xy (ref 1) (ref 0))
    (running 18 2 (locks 0 ∷ [])) 0
    (a_shut nil nil ∷ a_shut (ref 0) (ref 1) ∷ []) (xy (ref 1) (ref 0)) (running 19 2 (locks 1 ∷ locks 0 ∷ [])) ∷
    -- "held by this thread enters with no frame": by a frame of its own, and by one of the joins whose leftmost thread it is
    moves_to (an_open nil nil ∷ a_shut nil nil ∷ []) (xy (ref 1) (ref 0)) (running 18 2 (locks 1 ∷ [])) 0 (running 19 2 (locks 1 ∷ [])) ∷
    moves_to (a_shut nil nil ∷ []) (xy (ref 0) (ref 0))
    (join_at (locks 0 ∷ []) (running 14 2 []) (running 16 2 [])) 1
    (join_at (locks 0 ∷ []) (running 15 2 []) (running 16 2 [])) ∷
    moves_to (a_shut nil nil ∷ []) (xy (ref 0) (ref 0))
    (join_at (locks 0 ∷ []) (join_at [] (running 14 2 []) (running 16 2 [])) (running 16 2 [])) 2
    (join_at (locks 0 ∷ []) (join_at [] (running 15 2 []) (running 16 2 [])) (running 16 2 [])) ∷
    -- "shut and not held by this thread cannot move"
    unmoved (a_shut nil nil ∷ []) (xy (ref 0) (ref 0)) (join_at [] (running 14 2 []) (running 17 2 (locks 0 ∷ []))) 1 ∷
    -- "the left thread keeps the locks, the right has none": nor has the leftmost thread of the right side
    unmoved (a_shut nil nil ∷ []) (xy (ref 0) (ref 0)) (join_at (locks 0 ∷ []) (running 14 2 []) (running 16 2 [])) 2 ∷
    unmoved (a_shut nil nil ∷ []) (xy (ref 0) (ref 0)) (join_at (locks 0 ∷ []) (running 14 2 []) (join_at [] (running 16 2 []) (running 17 2 []))) 3 ∷
    -- "A value at a lock frame opens the object."
    changes_to (a_shut (ref 0) (ref 1) ∷ a_shut nil nil ∷ []) (xy (ref 0) (ref 1))
    (returning (ref 0) (locks 0 ∷ locks 1 ∷ [])) 0
    (an_open (ref 0) (ref 1) ∷ a_shut nil nil ∷ []) (xy (ref 0) (ref 1)) (returning (ref 0) (locks 1 ∷ [])) ∷
    -- "A fork becomes a join that keeps its frames, its last part and the bindings for it, which both asyncs also start with"
    moves_to (a_shut nil nil ∷ []) (xy (ref 0) (ref 0)) (running 13 2 (locks 0 ∷ [])) 0 (join_at (locks 0 ∷ []) (running 14 2 []) (running 16 2 [])) ∷
    -- "A join with both sides finished goes on as the left thread, at the last part and with the frames kept"; "Calling a thread finished when its frames
    -- remain" is a slip
    moves_to (a_shut nil nil ∷ []) (xy (ref 0) (ref 0)) (join_at (locks 0 ∷ []) (returning nil []) (returning (ref 0) [])) 0 (running 18 2 (locks 0 ∷ [])) ∷
    unmoved (a_shut nil nil ∷ []) (xy (ref 0) (ref 0)) (join_at [] (returning (ref 0) []) (returning (ref 0) (locks 0 ∷ []))) 0 ∷
    unmoved (a_shut nil nil ∷ []) (xy (ref 0) (ref 0)) (join_at [] (returning (ref 0) (locks 0 ∷ [])) (returning (ref 0) [])) 0 ∷
    -- "with a failed side it becomes failed and all beneath is dropped", whether the other is finished or not; "objects that it or a dropped thread held stay
    -- shut"
    moves_to (a_shut nil nil ∷ []) (xy (ref 0) (ref 0)) (join_at (locks 0 ∷ []) failed (running 16 2 [])) 0 failed ∷
    moves_to (a_shut nil nil ∷ []) (xy (ref 0) (ref 0)) (join_at [] (running 15 2 (locks 0 ∷ [])) failed) 0 failed ∷
    moves_to (a_shut nil nil ∷ []) (xy (ref 0) (ref 0)) (join_at (locks 0 ∷ []) (returning (ref 0) []) failed) 0 failed ∷
    moves_to (a_shut nil nil ∷ []) (xy (ref 0) (ref 0)) (join_at (locks 0 ∷ []) failed (returning (ref 0) [])) 0 failed ∷
    -- "A finished thread has a value and no frame": it does not move, and nor does a failed one
    unmoved (an_open nil nil ∷ []) (xy (ref 0) (ref 0)) (returning (ref 0) []) 0 ∷
    unmoved (a_shut nil nil ∷ []) (xy (ref 0) (ref 0)) failed 0 ∷
    -- "when the chosen move needs more places than that store has left": an object for new
    limited_to (record { objects = 1; bindings = 9; frames = 9; threads = 9 })
    (too_full false (an_open nil nil ∷ []) (xy (ref 0) (ref 0)) (running 4 1 (casts 3 ∷ awaits 2 1 ∷ [])) 0 Objects) ∷
    -- a binding for a waiting let
    limited_to (record { objects = 9; bindings = 2; frames = 9; threads = 9 })
    (too_full false (an_open nil nil ∷ []) (xy (ref 0) (ref 0)) (returning (ref 0) (awaits 5 2 ∷ [])) 0 Bindings) ∷
    -- "as bindings with one place left are for a call"; two are enough, and a call that fails needs none
    limited_to (record { objects = 9; bindings = 3; frames = 9; threads = 9 })
    (too_full false (an_open nil nil ∷ []) (xy (ref 0) (ref 0)) (returning (ref 0) (awaits 11 2 ∷ awaits 10 2 ∷ [])) 0 Bindings) ∷
    limited_to (record { objects = 9; bindings = 4; frames = 9; threads = 9 })
    (changes_to (an_open nil nil ∷ []) (xy (ref 0) (ref 0))
    (returning (ref 0) (awaits 11 2 ∷ awaits 10 2 ∷ [])) 0
    (an_open nil nil ∷ []) (bound_to 1 1 (ref 0) 3 ∷ bound_to 0 2 (ref 0) 0 ∷ xy (ref 0) (ref 0)) (running 20 4 (awaits 10 2 ∷ []))) ∷
    limited_to (record { objects = 9; bindings = 2; frames = 9; threads = 9 })
    (moves_to (an_open nil nil ∷ []) (xy (ref 0) nil) (returning (ref 0) (awaits 11 2 ∷ awaits 10 2 ∷ [])) 0 failed) ∷
    -- a frame for kinds 3, 4, 5 and 7, and for a lock on an open object, "waiting frames in all" being counted; one that the thread holds needs none
    limited_to (record { objects = 9; bindings = 9; frames = 1; threads = 9 })
    (too_full true (an_open nil nil ∷ []) (xy (ref 0) (ref 0)) (running 8 2 (awaits 7 2 ∷ [])) 0 Frames) ∷
    limited_to (record { objects = 9; bindings = 9; frames = 1; threads = 9 })
    (too_full true (an_open nil nil ∷ []) (xy (ref 0) (ref 0)) (running 11 2 (awaits 10 2 ∷ [])) 0 Frames) ∷
    limited_to (record { objects = 9; bindings = 9; frames = 0; threads = 9 })
    (too_full true (an_open nil nil ∷ []) (xy (ref 0) (ref 0)) (running 2 1 []) 0 Frames) ∷
    limited_to (record { objects = 9; bindings = 9; frames = 1; threads = 9 })
    (too_full true (an_open nil nil ∷ []) (xy (ref 0) (ref 0)) (running 3 1 (awaits 2 1 ∷ [])) 0 Frames) ∷
    limited_to (record { objects = 9; bindings = 9; frames = 2; threads = 9 })
    (too_full false (an_open nil nil ∷ a_shut nil nil ∷ []) (xy (ref 0) (ref 1))
    (join_at (awaits 10 2 ∷ []) (running 14 2 []) (running 17 2 (locks 1 ∷ []))) 1
    Frames) ∷
    limited_to (record { objects = 9; bindings = 9; frames = 1; threads = 9 })
    (moves_to (a_shut nil nil ∷ []) (xy (ref 0) (ref 0)) (running 18 2 (locks 0 ∷ [])) 0 (running 19 2 (locks 0 ∷ []))) ∷
    -- a thread for a fork, the threads of the whole tree being counted
    limited_to (record { objects = 9; bindings = 9; frames = 9; threads = 2 })
    (too_full false (an_open nil nil ∷ []) (xy (ref 0) (ref 0)) (join_at [] (running 13 2 []) (running 17 2 [])) 1 Threads) ∷
    limited_to (record { objects = 9; bindings = 9; frames = 9; threads = 3 })
    (moves_to (an_open nil nil ∷ []) (xy (ref 0) (ref 0))
    (join_at [] (running 13 2 []) (running 17 2 [])) 1
    (join_at [] (join_at [] (running 14 2 []) (running 16 2 [])) (running 17 2 []))) ∷
    []

-- Offer's answer: the limits, the configuration, and which positions from 0 on can move.
pub record ExampleOffer : Type 0 where
  pub room : Places
  pub config : Config
  pub flags : List Bool

abbrev pub can_move_at : Places → Config → List Bool → ExampleOffer
can_move_at p c l = record { room = p; config = c; flags = l }

unfoldable pub example_offers : List ExampleOffer
example_offers =
    -- threads at a node, the joins over them, and an absent position
    can_move_at ample
    (holding (an_open nil nil ∷ an_open nil nil ∷ []) (xy (ref 1) (ref 0)) (join_at [] (join_at [] (running 17 2 []) (running 12 2 [])) (running 19 2 [])))
    (false ∷ false ∷ true ∷ true ∷ true ∷ false ∷ []) ∷
    -- "A thread waits when its move due is a lock on a shut object that it does not hold; unless waiting, finished or failed, it can move."
    can_move_at ample
    (holding (a_shut nil nil ∷ []) (xy (ref 0) (ref 0)) (join_at (locks 0 ∷ []) (running 14 2 []) (running 16 2 [])))
    (false ∷ true ∷ false ∷ []) ∷
    can_move_at ample
    (holding (a_shut nil nil ∷ []) (xy (ref 0) (ref 0)) (join_at [] (returning (ref 0) (locks 0 ∷ [])) (running 14 2 [])))
    (false ∷ true ∷ false ∷ []) ∷
    can_move_at ample
    (holding (a_shut nil nil ∷ []) (xy (ref 0) (ref 0)) (join_at (locks 0 ∷ []) (returning (ref 0) []) (running 16 2 [])))
    (false ∷ false ∷ false ∷ []) ∷
    -- "A join can when both sides are finished threads or one is a failed thread."
    can_move_at ample (holding (an_open nil nil ∷ []) (xy (ref 0) (ref 0)) (join_at [] (returning (ref 0) []) (returning nil []))) (true ∷ false ∷ false ∷ []) ∷
    can_move_at ample (holding (a_shut nil nil ∷ []) (xy (ref 0) (ref 0)) (join_at [] failed (running 14 2 []))) (true ∷ false ∷ false ∷ []) ∷
    can_move_at ample (holding (a_shut nil nil ∷ []) (xy (ref 0) (ref 0)) (join_at [] (running 14 2 []) failed)) (true ∷ false ∷ false ∷ []) ∷
    -- "a move due that a full store would stop counts as able"
    can_move_at (record { objects = 9; bindings = 9; frames = 9; threads = 1 })
    (holding (an_open nil nil ∷ []) (xy (ref 0) (ref 0)) (running 13 2 []))
    (true ∷ []) ∷
    can_move_at (record { objects = 9; bindings = 9; frames = 1; threads = 3 })
    (holding (an_open nil nil ∷ a_shut nil nil ∷ []) (xy (ref 0) (ref 1))
    (join_at [] (join_at [] (running 14 2 []) (running 17 2 (locks 1 ∷ []))) (running 13 2 [])))
    (false ∷ false ∷ true ∷ true ∷ true ∷ []) ∷
    []

-- A Run: the limits, the configuration, the choices, and what it reports.
pub record ExampleRun : Type 0 where
  pub room : Places
  pub config : Config
  pub choices : List ℕ
  pub reported : Report

-- The stop, choices read, moves made, and what it leaves.
abbrev pub reporting : Places → Config → List ℕ → Stop → ℕ → ℕ → Config → ExampleRun
reporting p c ns k r m d = record { room = p; config = c; choices = ns; reported = record { stop = k; read = r; moves = m; config = d } }

unfoldable pub example_runs : List ExampleRun
example_runs =
    -- "Run first looks": a run that has ended reads nothing. "1 the root is a finished thread, 2 the root is a failed thread, 3 neither and no position can
    -- move"
    reporting ample
    (holding (an_open nil nil ∷ []) (xy (ref 0) (ref 0)) (returning (ref 0) [])) (0 ∷ 0 ∷ [])
    (Ended Finished) 0 0 (holding (an_open nil nil ∷ []) (xy (ref 0) (ref 0)) (returning (ref 0) [])) ∷
    reporting ample
    (holding (a_shut nil nil ∷ []) (xy (ref 0) (ref 0)) failed) (0 ∷ [])
    (Ended Failed) 0 0 (holding (a_shut nil nil ∷ []) (xy (ref 0) (ref 0)) failed) ∷
    reporting ample
    (holding (a_shut nil nil ∷ []) (xy (ref 0) (ref 0)) (join_at (locks 0 ∷ []) (returning (ref 0) []) (running 16 2 []))) (0 ∷ [])
    (Ended Deadlocked) 0 0 (holding (a_shut nil nil ∷ []) (xy (ref 0) (ref 0)) (join_at (locks 0 ∷ []) (returning (ref 0) []) (running 16 2 []))) ∷
    -- "then looks after every choice": the choices after the last move are not read. "1 to 3 win over 0"
    reporting ample
    (holding (an_open nil nil ∷ []) (xy (ref 0) (ref 0)) (running 19 2 [])) (0 ∷ 0 ∷ [])
    (Ended Finished) 1 1 (holding (an_open nil nil ∷ []) (xy (ref 0) (ref 0)) (returning (ref 0) [])) ∷
    reporting ample
    (holding (an_open nil nil ∷ []) (xy (ref 0) (ref 0)) (running 19 2 [])) (0 ∷ [])
    (Ended Finished) 1 1 (holding (an_open nil nil ∷ []) (xy (ref 0) (ref 0)) (returning (ref 0) [])) ∷
    reporting ample (holding [] (xy nil nil) (running 18 2 [])) (0 ∷ []) (Ended Failed) 1 1 (holding [] (xy nil nil) failed) ∷
    reporting ample
    (holding (a_shut nil nil ∷ []) (xy (ref 0) (ref 0)) (join_at (locks 0 ∷ []) (running 17 2 []) (running 16 2 []))) (1 ∷ [])
    (Ended Deadlocked) 1 1 (holding (a_shut nil nil ∷ []) (xy (ref 0) (ref 0)) (join_at (locks 0 ∷ []) (returning (ref 0) []) (running 16 2 []))) ∷
    -- "Otherwise 0, choices spent"
    reporting ample
    (holding (an_open nil nil ∷ []) (xy (ref 0) (ref 0)) (running 18 2 [])) []
    Spent 0 0 (holding (an_open nil nil ∷ []) (xy (ref 0) (ref 0)) (running 18 2 [])) ∷
    reporting ample
    (holding (an_open nil nil ∷ []) (xy (ref 0) (ref 0)) (running 18 2 [])) (0 ∷ 0 ∷ [])
    Spent 2 2 (holding (a_shut nil nil ∷ []) (xy (ref 0) (ref 0)) (returning (ref 0) (locks 0 ∷ []))) ∷
    -- "passed-over choices and the one that met a full store count as read": a position that is absent
    reporting ample
    (holding (an_open nil nil ∷ []) (xy (ref 0) (ref 0)) (running 18 2 [])) (5 ∷ 0 ∷ [])
    Spent 2 1 (holding (a_shut nil nil ∷ []) (xy (ref 0) (ref 0)) (running 19 2 (locks 0 ∷ []))) ∷
    -- "Reporting stop 3 while a failed side can still fold up" is a slip: the other side waits
    reporting ample
    (holding (a_shut nil nil ∷ []) (xy (ref 0) (ref 0)) (join_at (locks 0 ∷ []) failed (running 16 2 []))) []
    Spent 0 0 (holding (a_shut nil nil ∷ []) (xy (ref 0) (ref 0)) (join_at (locks 0 ∷ []) failed (running 16 2 []))) ∷
    reporting ample
    (holding (a_shut nil nil ∷ []) (xy (ref 0) (ref 0)) (join_at (locks 0 ∷ []) failed (running 16 2 []))) (2 ∷ [])
    Spent 1 0 (holding (a_shut nil nil ∷ []) (xy (ref 0) (ref 0)) (join_at (locks 0 ∷ []) failed (running 16 2 []))) ∷
    -- "4 objects, 5 bindings, 6 frames, 7 threads when the chosen move needs more places than that store has left": the choice counts as read, "that move not
    -- made"
    reporting (record { objects = 9; bindings = 9; frames = 9; threads = 1 })
    (holding (an_open nil nil ∷ []) (xy (ref 0) (ref 0)) (running 13 2 [])) (0 ∷ 0 ∷ [])
    (Full Threads) 1 0 (holding (an_open nil nil ∷ []) (xy (ref 0) (ref 0)) (running 13 2 [])) ∷
    reporting (record { objects = 9; bindings = 9; frames = 9; threads = 1 })
    (holding (an_open nil nil ∷ []) (xy (ref 0) (ref 0)) (running 13 2 [])) (9 ∷ 0 ∷ [])
    (Full Threads) 2 0 (holding (an_open nil nil ∷ []) (xy (ref 0) (ref 0)) (running 13 2 [])) ∷
    reporting (record { objects = 1; bindings = 9; frames = 9; threads = 9 })
    (holding (an_open nil nil ∷ []) (xy (ref 0) (ref 0)) (running 3 1 (awaits 2 1 ∷ []))) (0 ∷ 0 ∷ 0 ∷ [])
    (Full Objects) 2 1 (holding (an_open nil nil ∷ []) (xy (ref 0) (ref 0)) (running 4 1 (casts 3 ∷ awaits 2 1 ∷ []))) ∷
    []

-- "A thread holds exactly the objects of the lock frames it will resume (a join's are resumed by its leftmost thread)": how often each position from 0 on holds
-- object 0.
pub record ExampleHolders : Type 0 where
  pub tree : Tree
  pub holders : List ℕ

unfoldable pub example_holders : List ExampleHolders
example_holders =
    -- by a lock frame of its own, and a join's by its leftmost thread
    record { tree = running 18 2 (locks 0 ∷ []); holders = 1 ∷ [] } ∷
    record { tree = returning (ref 0) (locks 0 ∷ []); holders = 1 ∷ [] } ∷
    record { tree = join_at (locks 0 ∷ []) (join_at [] (running 14 2 []) (running 16 2 [])) (running 16 2 []); holders = 0 ∷ 0 ∷ 1 ∷ 0 ∷ 0 ∷ [] } ∷
    record { tree = join_at (locks 1 ∷ []) (running 14 2 []) (running 17 2 (locks 0 ∷ [])); holders = 0 ∷ 0 ∷ 1 ∷ [] } ∷
    -- "a failed thread holds nothing, so where it is a join's leftmost, nobody holds the objects of the join's lock frames"
    record { tree = join_at (locks 0 ∷ []) failed (running 16 2 []); holders = 0 ∷ 0 ∷ 0 ∷ [] } ∷
    []

-- A configuration, and whether it is well formed, where the start's type is 2.
pub record ExampleForm : Type 0 where
  pub config : Config
  pub well : Bool

abbrev pub form_is : Bool → List Object → List Binding → Tree → ExampleForm
form_is b os bs t = record { config = holding os bs t; well = b }

unfoldable pub example_forms : List ExampleForm
example_forms =
    -- "value types fit": x : C is a number, and null
    form_is false [] (bound_to 2 2 (int (pos 7)) 0 ∷ []) failed ∷
    form_is true [] (bound_to 2 2 nil 0 ∷ []) failed ∷
    -- "links run to earlier bindings": the first to itself
    form_is false [] (bound_to 2 2 nil 1 ∷ []) failed ∷
    -- "frames are typed up to the start's type or below at the root and to any type at an async": y : I, and null at an async
    form_is false [] (xy nil nil) (running 17 2 []) ∷
    form_is true [] (xy nil nil) (join_at [] (running 30 2 []) (running 17 2 [])) ∷
    -- a let that gives C, under one that waits for a number
    form_is false (a_counter (pos 0) ∷ []) (bound_to 3 1 nil 4 ∷ bound_to 2 2 nil 0 ∷ mn (pos 0) (pos 0)) (returning nil (awaits 5 5 ∷ awaits 24 2 ∷ [])) ∷
    -- "all lock frames name distinct objects, each of them shut", and no other is
    form_is false (a_shut nil nil ∷ []) (xy (ref 0) nil) (running 19 2 (locks 0 ∷ locks 0 ∷ [])) ∷
    form_is false (an_open nil nil ∷ []) (xy (ref 0) nil) (running 19 2 (locks 0 ∷ [])) ∷
    form_is false (a_shut nil nil ∷ []) (xy (ref 0) nil) (running 19 2 []) ∷
    []

-- A node's number, and its count.
pub record ExampleCount : Type 0 where
  pub node : ℕ
  pub count : ℕ

abbrev pub count_is : ℕ → ℕ → ExampleCount
count_is n k = record { node = n; count = k }

unfoldable pub example_counts : List ExampleCount
example_counts =
    -- "one for a final null or constant"
    count_is 9 1 ∷
    count_is 23 1 ∷
    -- "one for each descent": a write, a call, a let and a cast, each into its first-run part, a null, a constant, a variable and a new
    count_is 8 2 ∷
    count_is 22 2 ∷
    count_is 11 1 ∷
    count_is 5 1 ∷
    count_is 3 1 ∷
    -- "the chain of first-run parts": a let of a write of null, a let of a call and a let of a cast
    count_is 7 3 ∷
    count_is 10 2 ∷
    count_is 2 2 ∷
    -- a let's last part is none: let 5 = n + n in null
    count_is 28 1 ∷
    -- a variable, a read, a new, a fork, a lock and a sum are published steps, or wait
    count_is 6 0 ∷
    count_is 15 0 ∷
    count_is 1 0 ∷
    count_is 13 0 ∷
    count_is 14 0 ∷
    count_is 27 0 ∷
    -- "the answer is 0 where no such node is": the last node, and the number behind it
    count_is 30 1 ∷
    count_is 31 0 ∷
    []

abbrev pub quiet_at : Tree → Option Path → Bool
quiet_at t none = false
quiet_at t (some p) = quiet_in example_code (part t p)

abbrev pub held_at : Tree → Option Path → ℕ
held_at t none = 0
held_at t (some p) = held_by 0 0 t p

-- What the tables say: each choice comes to what its row says, from a well-formed configuration (the start's type is 2); each position can move as its row
-- says; each Run reports what its row says; each position holds object 0 as its row says; each configuration is well formed if its row says so; each node has
-- the count that its row says.
pub record ExampleHolds (x : Example) : Type 0 where
  pub formed : well_formed_test example_code x.room 2 x.config ≡ true
  pub is_silent : quiet_at x.config.tree (locate x.config.tree x.position) ≡ x.is_silent
  pub outcome : choice example_code x.room x.config x.position ≡ x.outcome

abbrev pub OfferHolds : ExampleOffer → Type 0
OfferHolds x = run (λ n. can_move example_code x.room x.config n) 0 (length x.flags) ≡ x.flags

abbrev pub RunHolds : ExampleRun → Type 0
RunHolds x = report example_code x.room x.config x.choices ≡ x.reported

abbrev pub HoldersHold : ExampleHolders → Type 0
HoldersHold x = run (λ n. held_at x.tree (locate x.tree n)) 0 (length x.holders) ≡ x.holders

abbrev pub FormHolds : ExampleForm → Type 0
FormHolds x = well_formed_test example_code ample 2 x.config ≡ x.well

abbrev pub CountHolds : ExampleCount → Type 0
CountHolds x = silent_from example_code x.node ≡ x.count
