-- The samples of document 01 in one table, the starred ones first, with rows for what the theorems leave open. `proofs/Samples.antt` has one theorem over it.
use Rattle.std.specs.Prelude.{ℕ, zero, suc, ◌+◌, ◌*◌, ◌/◌, ◌≡◌, true, false, List, [], ◌∷◌, length, replicate, pos, negsuc}
use Rattle.words.specs.Word.{bytes}
use Rattle.limits.specs.Limits.{BLOCK, FLAGS}
use Rattle.script.specs.Lists.{◌∈◌}
use Rattle.std.specs.declared.result.Result.TheVariants.{Ok}
use Rattle.typing.specs.Check.{check_of}
use Rattle.machine.specs.declared.Value.{Value}
use Rattle.machine.specs.declared.Value.TheVariants.{Null as nil, Ref as ref, Int as int}
use Rattle.machine.specs.declared.Frame.{Frame}
use Rattle.machine.specs.declared.Frame.TheVariants.{Awaits as awaits, Casts as casts, Locks as locks}
use Rattle.machine.specs.Config.{Config, code_of, Object, Binding, Tree, running, returning, failed, join}
use Rattle.machine.specs.Machine.{limits, initial}
use Rattle.machine.specs.WellFormed.{WellFormed}
use Rattle.block.specs.Rows.{filled}
use Rattle.block.specs.Block.{encode}
use Rattle.calls.specs.Calls.{Checked, SilentTold, checked_of, start_of, offer_of, run_of}

-- A Run right after Start: its choices; the stop, choices read and moves made that it returns; the configuration that it leaves, whole; and Offer's flags on
-- the block that it leaves, by position, those after the last one named being 0.
pub record Trial : Type 0 where
  pub choices : List ℕ
  pub stop : ℕ
  pub read : ℕ
  pub moves : ℕ
  pub config : Config
  pub flags : List ℕ

-- The same in one line, in this order.
abbrev pub trial : List ℕ → ℕ → ℕ → ℕ → Config → List ℕ → Trial
trial choices stop read moves config flags = record { choices = choices; stop = stop; read = read; moves = moves; config = config; flags = flags }

-- Check's reply: its number, place, type and largest count, in this order.
abbrev pub reply : ℕ → ℕ → ℕ → ℕ → Checked
reply number place type silent = record { number = number; place = place; type = type; silent = silent }

-- A script, what Check replies, and the Runs that the sample speaks of.
pub record Sample : Type 0 where
  pub script : List ℕ
  pub checked : Checked
  pub trials : List Trial

-- What is said of a trial of the script s begun on block b: Start is not refused and writes the initial block; Run on that block is not refused, returns the
-- trial's numbers and leaves the block of the trial's configuration, a well-formed one; and Offer on that block is not refused and gives the trial's flags.
pub record Tried (s b : List ℕ) (x : Trial) : Type 0 where
  pub started : start_of s b ≡ record { number = 0; place = 0; block = encode initial }
  pub type : ℕ
  pub accepted : check_of s ≡ Ok type
  pub well : WellFormed (code_of s) limits type x.config
  pub ran : run_of s (start_of s b).block x.choices
      ≡ record { number = 0; place = 0; stop = x.stop; read = x.read; moves = x.moves; block = encode x.config }
  pub offered : (fl : List ℕ) → length fl ≡ FLAGS
      → offer_of s (encode x.config) fl ≡ record { number = 0; place = 0; block = encode x.config; flags = filled FLAGS x.flags }

-- What is said of a sample: Check replies its numbers, and each of its trials goes as it says, begun on any block of 65,536 bytes.
pub record Sampled (x : Sample) : Type 0 where
  pub checked : checked_of x.script ≡ x.checked
  pub tried : (b : List ℕ) → length b ≡ BLOCK → (y : Trial) → y ∈ x.trials → Tried x.script b y

-- A file with these nodes, four words each, and nothing else.
unfoldable pub nodes_alone : List ℕ → List ℕ
nodes_alone ns = bytes (24 ∷ 0 ∷ 24 ∷ 0 ∷ 24 ∷ 0 ∷ 24 ∷ 0 ∷ 24 ∷ 0 ∷ 24 ∷ length ns / 4 ∷ ns)

-- "I is an empty list interface (type 1), C a class of it (type 2)", and these nodes.
unfoldable pub nodes_with_class : List ℕ → List ℕ
nodes_with_class ns =
    bytes (24 ∷ 1 ∷ 30 ∷ 0 ∷ 30 ∷ 1 ∷ 36 ∷ 0 ∷ 36 ∷ 0 ∷ 36 ∷ length ns / 4 ∷ 0 ∷ 0 ∷ 0 ∷ 1 ∷ 0 ∷ 0 ∷ ns)

-- The same where C has one field, of name 0 and type C.
unfoldable pub nodes_with_field : List ℕ → List ℕ
nodes_with_field ns =
    bytes (24 ∷ 1 ∷ 30 ∷ 0 ∷ 30 ∷ 1 ∷ 36 ∷ 1 ∷ 40 ∷ 0 ∷ 40 ∷ length ns / 4 ∷ 0 ∷ 0 ∷ 0 ∷ 1 ∷ 1 ∷ 0 ∷ 0 ∷ 2 ∷ ns)

-- The first again, where C has one method, of name 0, with these types and this body node.
unfoldable pub nodes_with_method : ℕ → ℕ → ℕ → List ℕ → List ℕ
nodes_with_method param result body ns =
    bytes
    (24 ∷ 1 ∷ 30 ∷ 0 ∷ 30 ∷ 1 ∷ 36 ∷ 0 ∷ 36 ∷ 1 ∷ 44 ∷ length ns / 4 ∷ 0 ∷ 0 ∷ 0 ∷ 1 ∷ 0 ∷ 1 ∷ 0 ∷ param ∷ result ∷ body ∷ ns)

-- n choices of a position, and then others
abbrev pub times : ℕ → ℕ → List ℕ → List ℕ
times zero p l = l
times (suc n) p l = p ∷ times n p l

-- A configuration, an object of class C without a field, and a binding with its name, type, value and link.
abbrev pub configured : List Object → List Binding → Tree → Config
configured os bs t = record { stores = record { objects = os; bindings = bs }; tree = t }

abbrev pub open_c : Object
open_c = record { class = 2; shut = false; fields = [] }

abbrev pub shut_c : Object
shut_c = record { class = 2; shut = true; fields = [] }

abbrev pub variable : ℕ → ℕ → Value → ℕ → Binding
variable x t v e = record { name = x; type = t; value = v; link = e }

-- x of let x = new C, where that is the first object and the first binding
abbrev pub bound_x : Binding
bound_x = variable 2 2 (ref 0) 0

-- The bindings after let x = new C and n calls of a method on it, the k-th with this value: "a waiting call adds two, this with the object's class and the
-- parameter with its declared type, and enters the body with no others".
abbrev pub after_calls : (ℕ → Value) → ℕ → List Binding
after_calls v zero = bound_x ∷ []
after_calls v (suc n) = variable 1 2 (v (suc n)) (2 * suc n) ∷ variable 0 2 (ref 0) 0 ∷ after_calls v n

-- n rounds of the four cast frames of nodes 4 to 7, innermost first
abbrev pub four_casts : ℕ → List Frame
four_casts zero = []
four_casts (suc n) = casts 7 ∷ casts 6 ∷ casts 5 ∷ casts 4 ∷ four_casts n

-- n joins, each the left side of the one above it and with two bindings more
abbrev pub left_joins : ℕ → ℕ → Tree
left_joins zero e = running 4 e []
left_joins (suc n) e = join [] 7 e (left_joins n (e + 2)) (running 6 e [])

-- n rounds of four choices, each of the next position
abbrev pub four_times : ℕ → ℕ → List ℕ
four_times zero p = []
four_times (suc n) p = times 4 p (four_times n (suc p))

unfoldable pub samples : List Sample
samples =
    -- "Nodes 7,0,1,0 and 0,0,0,0 alone, 40 bytes: type 0, finished after 3 moves; with two choices 0, stop 0, moves 2."
    record {
      script = nodes_alone (7 ∷ 0 ∷ 1 ∷ 0 ∷ 0 ∷ 0 ∷ 0 ∷ 0 ∷ []);
      checked = reply 0 0 0 2;
      trials =
          trial (times 9 0 []) 1 3 3 (configured [] [] (returning nil [])) [] ∷
          trial (times 2 0 []) 0 2 2 (configured [] [] (returning nil (casts 0 ∷ []))) (1 ∷ []) ∷
          [];
    } ∷
    -- "Start null: 12 at offset 24."
    record { script = nodes_alone (0 ∷ 0 ∷ 0 ∷ 0 ∷ []); checked = reply 12 24 0 0; trials = [] } ∷
    -- "new 1: 6."
    record { script = nodes_with_class (6 ∷ 1 ∷ 0 ∷ 0 ∷ []); checked = reply 6 36 0 0; trials = [] } ∷
    -- "let x = new C in let y = (I)x in (C)y: 14 at the last y."
    record {
      script = nodes_with_class (5 ∷ 2 ∷ 1 ∷ 2 ∷ 6 ∷ 2 ∷ 0 ∷ 0 ∷ 5 ∷ 3 ∷ 3 ∷ 5 ∷ 7 ∷ 1 ∷ 4 ∷ 0 ∷ 1 ∷ 2 ∷ 0 ∷ 0 ∷ 7 ∷ 2 ∷ 6 ∷ 0 ∷ 1 ∷ 3 ∷ 0 ∷ 0 ∷ []);
      checked = reply 14 84 0 0;
      trials = [];
    } ∷
    -- "let x = new C in fork{x}{x}; x: 15 at the fork."
    record {
      script = nodes_with_class (5 ∷ 2 ∷ 1 ∷ 2 ∷ 6 ∷ 2 ∷ 0 ∷ 0 ∷ 8 ∷ 3 ∷ 4 ∷ 5 ∷ 1 ∷ 2 ∷ 0 ∷ 0 ∷ 1 ∷ 2 ∷ 0 ∷ 0 ∷ 1 ∷ 2 ∷ 0 ∷ 0 ∷ []);
      checked = reply 15 52 0 0;
      trials = [];
    } ∷
    -- "let x = new C in lock x in lock x in x: finished after 7 moves, open; the inner lock opens nothing": it is still shut after move 6.
    record {
      script = nodes_with_class (5 ∷ 2 ∷ 1 ∷ 2 ∷ 6 ∷ 2 ∷ 0 ∷ 0 ∷ 9 ∷ 2 ∷ 3 ∷ 0 ∷ 9 ∷ 2 ∷ 4 ∷ 0 ∷ 1 ∷ 2 ∷ 0 ∷ 0 ∷ []);
      checked = reply 0 0 2 1;
      trials =
          trial (times 7 0 []) 1 7 7 (configured (open_c ∷ []) (bound_x ∷ []) (returning (ref 0) [])) [] ∷
          trial (times 6 0 []) 0 6 6 (configured (shut_c ∷ []) (bound_x ∷ []) (returning (ref 0) (locks 0 ∷ []))) (1 ∷ []) ∷
          [];
    } ∷
    -- "let x = (C)null in lock x in x: failed at move 6."
    record {
      script = nodes_with_class (5 ∷ 2 ∷ 1 ∷ 2 ∷ 7 ∷ 2 ∷ 3 ∷ 0 ∷ 9 ∷ 2 ∷ 4 ∷ 0 ∷ 0 ∷ 0 ∷ 0 ∷ 0 ∷ 1 ∷ 2 ∷ 0 ∷ 0 ∷ []);
      checked = reply 0 0 2 3;
      trials =
          trial (times 6 0 []) 2 6 6 (configured [] (variable 2 2 nil 0 ∷ []) failed) [] ∷
          trial (times 5 0 []) 0 5 5 (configured [] (variable 2 2 nil 0 ∷ []) (running 2 1 [])) (1 ∷ []) ∷
          [];
    } ∷
    -- "let x = new C in lock x in fork{(Unit)null}{lock x in x}; x: choices 0 five times, 1 three times: stop 3, moves 8."
    record {
      script =
          nodes_with_class
          (5 ∷ 2 ∷ 1 ∷ 2 ∷ 6 ∷ 2 ∷ 0 ∷ 0 ∷ 9 ∷ 2 ∷ 3 ∷ 0 ∷ 8 ∷ 4 ∷ 5 ∷ 6 ∷ 7 ∷ 0 ∷ 7 ∷ 0 ∷ 9 ∷ 2 ∷ 8 ∷ 0 ∷ 1 ∷ 2 ∷ 0 ∷ 0 ∷ 0 ∷ 0 ∷ 0 ∷ 0
          ∷ 1 ∷ 2 ∷ 0 ∷ 0 ∷ []);
      checked = reply 0 0 2 2;
      trials =
          trial (times 5 0 (times 3 1 [])) 3 8 8 (configured (shut_c ∷ []) (bound_x ∷ []) (join (locks 0 ∷ []) 6 1 (returning nil []) (running 5 1 []))) [] ∷
          [];
    } ∷
    -- "An alias y = x, fork{lock x in x}{lock y in y}: accepted; each waits while the other holds.": one async takes the lock, and the other is passed over
    -- and has flag 0, both ways round.
    record {
      script =
          nodes_with_class
          (5 ∷ 2 ∷ 1 ∷ 2 ∷ 6 ∷ 2 ∷ 0 ∷ 0 ∷ 5 ∷ 3 ∷ 3 ∷ 4 ∷ 1 ∷ 2 ∷ 0 ∷ 0 ∷ 8 ∷ 5 ∷ 6 ∷ 7 ∷ 9 ∷ 2 ∷ 8 ∷ 0 ∷ 9 ∷ 3 ∷ 9 ∷ 0 ∷ 1 ∷ 2 ∷ 0 ∷ 0
          ∷ 1 ∷ 2 ∷ 0 ∷ 0 ∷ 1 ∷ 3 ∷ 0 ∷ 0 ∷ []);
      checked = reply 0 0 2 1;
      trials =
          trial (times 7 0 (1 ∷ 2 ∷ [])) 0 9 8
          (configured (shut_c ∷ []) (variable 3 2 (ref 0) 1 ∷ bound_x ∷ []) (join [] 7 2 (running 8 2 (locks 0 ∷ [])) (running 6 2 []))) (0 ∷ 1 ∷ 0 ∷ []) ∷
          trial (times 7 0 (2 ∷ 1 ∷ [])) 0 9 8
          (configured (shut_c ∷ []) (variable 3 2 (ref 0) 1 ∷ bound_x ∷ []) (join [] 7 2 (running 5 2 []) (running 9 2 (locks 0 ∷ [])))) (0 ∷ 0 ∷ 1 ∷ []) ∷
          [];
    } ∷
    -- Not starred, nor are those below: "A write to null whose value is `new C`: one object, then failed." It is let x = (C)null in x.0 = new C; after move 7
    -- there is the object, move 8 fails.
    record {
      script = nodes_with_field (5 ∷ 2 ∷ 1 ∷ 2 ∷ 7 ∷ 2 ∷ 3 ∷ 0 ∷ 3 ∷ 2 ∷ 0 ∷ 4 ∷ 0 ∷ 0 ∷ 0 ∷ 0 ∷ 6 ∷ 2 ∷ 0 ∷ 0 ∷ []);
      checked = reply 0 0 0 3;
      trials =
          trial (times 7 0 []) 0 7 7
          (configured (record { class = 2; shut = false; fields = nil ∷ [] } ∷ []) (variable 2 2 nil 0 ∷ []) (returning (ref 0) (awaits 2 1 ∷ []))) (1 ∷ []) ∷
          trial (times 8 0 []) 2 8 8 (configured (record { class = 2; shut = false; fields = nil ∷ [] } ∷ []) (variable 2 2 nil 0 ∷ []) failed) [] ∷
          [];
    } ∷
    -- "a waiting let adds one binding, its type the one inferred for the let's first part under the frame's bindings": let x = (I) new C in x. The type is I,
    -- not the object's class C.
    record {
      script = nodes_with_class (5 ∷ 2 ∷ 1 ∷ 2 ∷ 7 ∷ 1 ∷ 3 ∷ 0 ∷ 1 ∷ 2 ∷ 0 ∷ 0 ∷ 6 ∷ 2 ∷ 0 ∷ 0 ∷ []);
      checked = reply 0 0 1 2;
      trials =
          trial (times 5 0 []) 0 5 5 (configured (open_c ∷ []) (variable 2 1 (ref 0) 0 ∷ []) (running 2 1 [])) (1 ∷ []) ∷
          trial (times 6 0 []) 1 6 6 (configured (open_c ∷ []) (variable 2 1 (ref 0) 0 ∷ []) (returning (ref 0) [])) [] ∷
          [];
    } ∷
    -- "a waiting call adds two, this with the object's class and the parameter with its declared type, and enters the body with no others": C has a method with
    -- a parameter of type I that gives it back; let x = new C in x.0(x). `this` has type C and no binding beneath, the parameter type I and `this` beneath.
    record {
      script = nodes_with_method 1 1 4 (5 ∷ 2 ∷ 1 ∷ 2 ∷ 6 ∷ 2 ∷ 0 ∷ 0 ∷ 4 ∷ 2 ∷ 0 ∷ 3 ∷ 1 ∷ 2 ∷ 0 ∷ 0 ∷ 1 ∷ 1 ∷ 0 ∷ 0 ∷ []);
      checked = reply 0 0 1 1;
      trials =
          trial (times 6 0 []) 0 6 6 (configured (open_c ∷ []) (variable 1 1 (ref 0) 2 ∷ variable 0 2 (ref 0) 0 ∷ bound_x ∷ []) (running 4 3 [])) (1 ∷ []) ∷
          trial (times 7 0 []) 1 7 7 (configured (open_c ∷ []) (variable 1 1 (ref 0) 2 ∷ variable 0 2 (ref 0) 0 ∷ bound_x ∷ []) (returning (ref 0) [])) [] ∷
          [];
    } ∷
    -- "when a let, a lock or a fork is checked against a type, its last part is checked against that same type": (C)let x = new C in null.
    record {
      script = nodes_with_class (7 ∷ 2 ∷ 1 ∷ 0 ∷ 5 ∷ 2 ∷ 2 ∷ 3 ∷ 6 ∷ 2 ∷ 0 ∷ 0 ∷ 0 ∷ 0 ∷ 0 ∷ 0 ∷ []);
      checked = reply 0 0 2 2;
      trials =
          trial (times 3 0 []) 0 3 3 (configured (open_c ∷ []) [] (returning (ref 0) (awaits 1 0 ∷ casts 0 ∷ []))) (1 ∷ []) ∷
          trial (times 6 0 []) 1 6 6 (configured (open_c ∷ []) (bound_x ∷ []) (returning nil [])) [] ∷
          [];
    } ∷
    -- "A start that ends in null still gets 12": let x = new C in null, at the null.
    record { script = nodes_with_class (5 ∷ 2 ∷ 1 ∷ 2 ∷ 6 ∷ 2 ∷ 0 ∷ 0 ∷ 0 ∷ 0 ∷ 0 ∷ 0 ∷ []); checked = reply 12 52 0 0; trials = [] } ∷
    -- The same at an async: C has a method with the body let y = new C in lock y in fork{new C}{new C}; null, and the start is
    -- let x = new C in fork{x.0(x)}{new C}; x. First the let waits, then the fork's last part is run under the lock's frame, then all is finished.
    record {
      script =
          nodes_with_method 2 2 7
          (5 ∷ 2 ∷ 1 ∷ 2 ∷ 6 ∷ 2 ∷ 0 ∷ 0 ∷ 8 ∷ 3 ∷ 4 ∷ 5 ∷ 4 ∷ 2 ∷ 0 ∷ 6 ∷ 6 ∷ 2 ∷ 0 ∷ 0 ∷ 1 ∷ 2 ∷ 0 ∷ 0 ∷ 1 ∷ 2 ∷ 0 ∷ 0
          ∷ 5 ∷ 3 ∷ 8 ∷ 9 ∷ 6 ∷ 2 ∷ 0 ∷ 0 ∷ 9 ∷ 3 ∷ 10 ∷ 0 ∷ 8 ∷ 11 ∷ 12 ∷ 13 ∷ 6 ∷ 2 ∷ 0 ∷ 0 ∷ 6 ∷ 2 ∷ 0 ∷ 0 ∷ 0 ∷ 0 ∷ 0 ∷ 0 ∷ []);
      checked = reply 0 0 2 1;
      trials =
          trial (times 4 0 (times 4 1 [])) 0 8 8
          (configured (open_c ∷ []) (after_calls (λ n. ref 0) 1) (join [] 5 1 (running 8 3 (awaits 7 3 ∷ [])) (running 4 1 []))) (0 ∷ 1 ∷ 1 ∷ []) ∷
          trial (times 4 0 (times 8 1 (2 ∷ 3 ∷ 1 ∷ []))) 0 15 15
          (configured (open_c ∷ shut_c ∷ open_c ∷ open_c ∷ []) (variable 3 2 (ref 1) 3 ∷ after_calls (λ n. ref 0) 1)
          (join [] 5 1 (running 13 4 (locks 1 ∷ [])) (running 4 1 [])))
          (0 ∷ 1 ∷ 1 ∷ []) ∷
          trial (times 4 0 (times 8 1 (2 ∷ 3 ∷ 1 ∷ 1 ∷ 1 ∷ 2 ∷ 0 ∷ 0 ∷ []))) 1 20 20
          (configured (replicate 5 open_c) (variable 3 2 (ref 1) 3 ∷ after_calls (λ n. ref 0) 1) (returning (ref 0) [])) [] ∷
          [];
    } ∷
    -- "Type I+C+1 is Int", "Kind 10 is a constant (a low word, b high word, two's complement), which becomes a value silently as null does": -1 alone.
    record {
      script = nodes_alone (10 ∷ 65535 ∷ 65535 ∷ 0 ∷ []);
      checked = reply 0 0 1 1;
      trials = trial (times 9 0 []) 1 1 1 (configured [] [] (returning (int (negsuc 0)) [])) [] ∷ [];
    } ∷
    -- "kind 11 adds variables a and b .. in one step", "A sum outside the range fails the thread as null does": let x = 2147483647 in let y = 1 in x + y fails
    -- at move 7.
    record {
      script = nodes_alone (5 ∷ 2 ∷ 1 ∷ 2 ∷ 10 ∷ 65535 ∷ 32767 ∷ 0 ∷ 5 ∷ 3 ∷ 3 ∷ 4 ∷ 10 ∷ 1 ∷ 0 ∷ 0 ∷ 11 ∷ 2 ∷ 3 ∷ 0 ∷ []);
      checked = reply 0 0 1 2;
      trials =
          trial (times 6 0 []) 0 6 6 (configured [] (variable 3 1 (int (pos 1)) 1 ∷ variable 2 1 (int (pos 2147483647)) 0 ∷ []) (running 4 2 [])) (1 ∷ []) ∷
          trial (times 7 0 []) 2 7 7 (configured [] (variable 3 1 (int (pos 1)) 1 ∷ variable 2 1 (int (pos 2147483647)) 0 ∷ []) failed) [] ∷
          [];
    } ∷
    -- The same with x = 2147483646 gives the greatest number.
    record {
      script = nodes_alone (5 ∷ 2 ∷ 1 ∷ 2 ∷ 10 ∷ 65534 ∷ 32767 ∷ 0 ∷ 5 ∷ 3 ∷ 3 ∷ 4 ∷ 10 ∷ 1 ∷ 0 ∷ 0 ∷ 11 ∷ 2 ∷ 3 ∷ 0 ∷ []);
      checked = reply 0 0 1 2;
      trials =
          trial (times 7 0 []) 1 7 7
          (configured [] (variable 3 1 (int (pos 1)) 1 ∷ variable 2 1 (int (pos 2147483646)) 0 ∷ []) (returning (int (pos 2147483647)) [])) [] ∷
          [];
    } ∷
    -- "Null does not fit Int (14)": (Int)null, at the null.
    record { script = nodes_alone (7 ∷ 1 ∷ 1 ∷ 0 ∷ 0 ∷ 0 ∷ 0 ∷ 0 ∷ []); checked = reply 14 32 0 0; trials = [] } ∷
    -- "Int is no target of field, call or lock (13)": let x = 1 in lock x in x, at the lock.
    record { script = nodes_alone (5 ∷ 2 ∷ 1 ∷ 2 ∷ 10 ∷ 1 ∷ 0 ∷ 0 ∷ 9 ∷ 2 ∷ 3 ∷ 0 ∷ 1 ∷ 2 ∷ 0 ∷ 0 ∷ []); checked = reply 13 40 0 0; trials = [] } ∷
    -- A `new` operand is a class, so not Int, which is type 3 beside I and C: 6.
    record { script = nodes_with_class (6 ∷ 3 ∷ 0 ∷ 0 ∷ []); checked = reply 6 36 0 0; trials = [] } ∷
    -- Each other question's no, with its number: "Is the file 24 to 13,592 bytes? 1", the empty file.
    record { script = []; checked = reply 1 0 0 0; trials = [] } ∷
    -- "Are counts within the table, and is there a node? 2": no node.
    record { script = nodes_alone []; checked = reply 2 0 0 0; trials = [] } ∷
    -- "Are the bodies where the contents must place them, the last ending with the file? 3": the nodes two bytes late.
    record { script = bytes (24 ∷ 0 ∷ 24 ∷ 0 ∷ 24 ∷ 0 ∷ 24 ∷ 0 ∷ 24 ∷ 0 ∷ 26 ∷ 1 ∷ 10 ∷ 0 ∷ 0 ∷ 0 ∷ []); checked = reply 3 0 0 0; trials = [] } ∷
    -- "Is each interface record of form 0 or 1 .. ? 4": form 2.
    record { script = bytes (24 ∷ 1 ∷ 30 ∷ 0 ∷ 30 ∷ 0 ∷ 30 ∷ 0 ∷ 30 ∷ 0 ∷ 30 ∷ 1 ∷ 2 ∷ 0 ∷ 0 ∷ 10 ∷ 0 ∷ 0 ∷ 0 ∷ []); checked = reply 4 24 0 0; trials = [] } ∷
    -- "Do owners' counts add up to each section's count? 5": a list of one signature, and no signature.
    record { script = bytes (24 ∷ 1 ∷ 30 ∷ 0 ∷ 30 ∷ 0 ∷ 30 ∷ 0 ∷ 30 ∷ 0 ∷ 30 ∷ 1 ∷ 0 ∷ 1 ∷ 0 ∷ 10 ∷ 0 ∷ 0 ∷ 0 ∷ []); checked = reply 5 0 0 0; trials = [] } ∷
    -- "Has each node a known kind", else 7: kind 12.
    record { script = nodes_alone (12 ∷ 0 ∷ 0 ∷ 0 ∷ []); checked = reply 7 24 0 0; trials = [] } ∷
    -- "Are names unique in each list, each class's fields .. ? 8": two fields of name 0, at the second.
    record {
      script = bytes (24 ∷ 1 ∷ 30 ∷ 0 ∷ 30 ∷ 1 ∷ 36 ∷ 2 ∷ 44 ∷ 0 ∷ 44 ∷ 1 ∷ 0 ∷ 0 ∷ 0 ∷ 1 ∷ 2 ∷ 0 ∷ 0 ∷ 2 ∷ 0 ∷ 2 ∷ 6 ∷ 2 ∷ 0 ∷ 0 ∷ []);
      checked = reply 8 40 0 0;
      trials = [];
    } ∷
    -- "Do all meanings of a method name in a join have the same types? 9": a join of two lists with method 0, of result Unit in one and Int in the other.
    record {
      script =
          bytes
          (24 ∷ 3 ∷ 42 ∷ 2 ∷ 54 ∷ 0 ∷ 54 ∷ 0 ∷ 54 ∷ 0 ∷ 54 ∷ 1 ∷ 0 ∷ 1 ∷ 0 ∷ 0 ∷ 1 ∷ 0 ∷ 1 ∷ 1 ∷ 2 ∷ 0 ∷ 0 ∷ 0 ∷ 0 ∷ 0 ∷ 4 ∷ 10 ∷ 0 ∷ 0 ∷ 0 ∷ []);
      checked = reply 9 36 0 0;
      trials = [];
    } ∷
    -- "Has each class every method of its interface, with the same types? 10": a class without a method of an interface with one.
    record {
      script = bytes (24 ∷ 1 ∷ 30 ∷ 1 ∷ 36 ∷ 1 ∷ 42 ∷ 0 ∷ 42 ∷ 0 ∷ 42 ∷ 1 ∷ 0 ∷ 1 ∷ 0 ∷ 0 ∷ 0 ∷ 0 ∷ 1 ∷ 0 ∷ 0 ∷ 6 ∷ 2 ∷ 0 ∷ 0 ∷ []);
      checked = reply 10 36 0 0;
      trials = [];
    } ∷
    -- "Is each variable bound? 11": variable 2 alone.
    record { script = nodes_alone (1 ∷ 2 ∷ 0 ∷ 0 ∷ []); checked = reply 11 24 0 0; trials = [] } ∷
    -- "the 256th object is made, the 257th gives stop 4": a method's body is this.0(new C), and the start let x = new C in x.0(new C).
    record {
      script = nodes_with_method 2 2 4 (5 ∷ 2 ∷ 1 ∷ 2 ∷ 6 ∷ 2 ∷ 0 ∷ 0 ∷ 4 ∷ 2 ∷ 0 ∷ 3 ∷ 6 ∷ 2 ∷ 0 ∷ 0 ∷ 4 ∷ 0 ∷ 0 ∷ 5 ∷ 6 ∷ 2 ∷ 0 ∷ 0 ∷ []);
      checked = reply 0 0 2 1;
      trials =
          trial (times 900 0 []) 4 770 769 (configured (replicate 256 open_c) (after_calls ref 255) (running 5 511 (awaits 4 511 ∷ []))) (1 ∷ []) ∷
          [];
    } ∷
    -- "5 bindings", "as bindings with one place left are for a call": the body is this.0(x), the start let x = new C in x.0(x). 2,047 bindings are there.
    record {
      script = nodes_with_method 2 2 4 (5 ∷ 2 ∷ 1 ∷ 2 ∷ 6 ∷ 2 ∷ 0 ∷ 0 ∷ 4 ∷ 2 ∷ 0 ∷ 3 ∷ 1 ∷ 2 ∷ 0 ∷ 0 ∷ 4 ∷ 0 ∷ 0 ∷ 5 ∷ 1 ∷ 1 ∷ 0 ∷ 0 ∷ []);
      checked = reply 0 0 2 1;
      trials =
          trial (times 4000 0 []) 5 3075 3074 (configured (open_c ∷ []) (after_calls (λ n. ref 0) 1023) (returning (ref 0) (awaits 4 2047 ∷ []))) (1 ∷ []) ∷
          [];
    } ∷
    -- "6 frames": the body is (C)(C)(C)(C)this.0(x). 2,048 frames wait, and the call would leave one more.
    record {
      script =
          nodes_with_method 2 2 4
          (5 ∷ 2 ∷ 1 ∷ 2 ∷ 6 ∷ 2 ∷ 0 ∷ 0 ∷ 4 ∷ 2 ∷ 0 ∷ 3 ∷ 1 ∷ 2 ∷ 0 ∷ 0 ∷ 7 ∷ 2 ∷ 5 ∷ 0 ∷ 7 ∷ 2 ∷ 6 ∷ 0 ∷ 7 ∷ 2 ∷ 7 ∷ 0 ∷ 7 ∷ 2 ∷ 8 ∷ 0
          ∷ 4 ∷ 0 ∷ 0 ∷ 9 ∷ 1 ∷ 1 ∷ 0 ∷ 0 ∷ []);
      checked = reply 0 0 2 5;
      trials =
          trial (times 4000 0 []) 6 3588 3587 (configured (open_c ∷ []) (after_calls (λ n. ref 0) 512) (running 8 1025 (four_casts 512))) (1 ∷ []) ∷
          [];
    } ∷
    -- "7 threads": the body is fork{this.0(x)}{new C}; x. 32 threads are there, and the left one of the innermost join stands at one more fork: it "counts as
    -- able", as do the 31 that stand at new C.
    record {
      script =
          nodes_with_method 2 2 4
          (5 ∷ 2 ∷ 1 ∷ 2 ∷ 6 ∷ 2 ∷ 0 ∷ 0 ∷ 4 ∷ 2 ∷ 0 ∷ 3 ∷ 1 ∷ 2 ∷ 0 ∷ 0 ∷ 8 ∷ 5 ∷ 6 ∷ 7 ∷ 4 ∷ 0 ∷ 0 ∷ 8 ∷ 6 ∷ 2 ∷ 0 ∷ 0 ∷ 1 ∷ 1 ∷ 0 ∷ 0
          ∷ 1 ∷ 1 ∷ 0 ∷ 0 ∷ []);
      checked = reply 0 0 2 1;
      trials =
          trial (times 7 0 (four_times 31 1)) 7 131 130 (configured (open_c ∷ []) (after_calls (λ n. ref 0) 32) (left_joins 31 3))
          (times 31 0 (times 32 1 [])) ∷
          [];
    } ∷
    []

-- Request 6: a script, a node's number, and what Silent replies: number, place and count.
pub record SilentSample : Type 0 where
  pub script : List ℕ
  pub node : ℕ
  pub told : SilentTold

abbrev pub silent_sample : List ℕ → ℕ → ℕ → ℕ → ℕ → SilentSample
silent_sample s n number place count = record { script = s; node = n; told = record { number = number; place = place; count = count } }

unfoldable pub silent_samples : List SilentSample
silent_samples =
    -- the first sample: "one for each descent and one for a final null", and "0 where no such node is"
    silent_sample (nodes_alone (7 ∷ 0 ∷ 1 ∷ 0 ∷ 0 ∷ 0 ∷ 0 ∷ 0 ∷ [])) 0 0 0 2 ∷
    silent_sample (nodes_alone (7 ∷ 0 ∷ 1 ∷ 0 ∷ 0 ∷ 0 ∷ 0 ∷ 0 ∷ [])) 1 0 0 1 ∷
    silent_sample (nodes_alone (7 ∷ 0 ∷ 1 ∷ 0 ∷ 0 ∷ 0 ∷ 0 ∷ 0 ∷ [])) 2 0 0 0 ∷
    silent_sample (nodes_alone (7 ∷ 0 ∷ 1 ∷ 0 ∷ 0 ∷ 0 ∷ 0 ∷ 0 ∷ [])) 65536 0 0 0 ∷
    -- "after questions 1 to 15": start null, for which every count would be 1
    silent_sample (nodes_alone (0 ∷ 0 ∷ 0 ∷ 0 ∷ [])) 0 12 24 0 ∷
    -- "one for .. a final .. constant"
    silent_sample (nodes_alone (10 ∷ 65535 ∷ 65535 ∷ 0 ∷ [])) 0 0 0 1 ∷
    -- let x = (C)null in lock x in x: at the let, and at the lock
    silent_sample (nodes_with_class (5 ∷ 2 ∷ 1 ∷ 2 ∷ 7 ∷ 2 ∷ 3 ∷ 0 ∷ 9 ∷ 2 ∷ 4 ∷ 0 ∷ 0 ∷ 0 ∷ 0 ∷ 0 ∷ 1 ∷ 2 ∷ 0 ∷ 0 ∷ [])) 0 0 0 3 ∷
    silent_sample (nodes_with_class (5 ∷ 2 ∷ 1 ∷ 2 ∷ 7 ∷ 2 ∷ 3 ∷ 0 ∷ 9 ∷ 2 ∷ 4 ∷ 0 ∷ 0 ∷ 0 ∷ 0 ∷ 0 ∷ 1 ∷ 2 ∷ 0 ∷ 0 ∷ [])) 2 0 0 0 ∷
    -- parts that are entered by a published step: let x = (C)null in lock x in (C)null at the lock, and fork{(C)null}{(C)null}; (C)null at the fork
    silent_sample (nodes_with_class (5 ∷ 2 ∷ 1 ∷ 3 ∷ 7 ∷ 2 ∷ 2 ∷ 0 ∷ 0 ∷ 0 ∷ 0 ∷ 0 ∷ 9 ∷ 2 ∷ 4 ∷ 0 ∷ 7 ∷ 2 ∷ 5 ∷ 0 ∷ 0 ∷ 0 ∷ 0 ∷ 0 ∷ [])) 3 0 0 0 ∷
    silent_sample
    (nodes_with_class (8 ∷ 1 ∷ 3 ∷ 5 ∷ 7 ∷ 2 ∷ 2 ∷ 0 ∷ 0 ∷ 0 ∷ 0 ∷ 0 ∷ 7 ∷ 2 ∷ 4 ∷ 0 ∷ 0 ∷ 0 ∷ 0 ∷ 0 ∷ 7 ∷ 2 ∷ 6 ∷ 0 ∷ 0 ∷ 0 ∷ 0 ∷ 0 ∷ [])) 0 0 0 0 ∷
    []
