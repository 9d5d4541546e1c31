-- The reading of a script in plain numbers: the kinds of nodes and what their words may be, and a script with every section and kind as the program that it is.
-- Both sides of the theorems about Check and Runs use these readers, so no other theorem would tell a wrong one. `proofs/KindTable.antt` has one over each.
use Rattle.std.specs.Prelude.{ℕ, Bool, cond, ◌&&◌, List, [], ◌∷◌, pos, get_or}
use Rattle.words.specs.Word.{bytes}
use Rattle.script.specs.Syntax.{null, var, select, update, call, bind, new, cast, fork, lock, constant, add, Node, n_null, n_var, n_select, n_update}
use Rattle.script.specs.Syntax.{n_call, n_bind, n_new, n_cast, n_fork, n_lock, n_constant, n_add, lists, extends, Program}
use Rattle.script.specs.Reading.{view_at}
use Rattle.script.specs.Questions.{type_word_test, words_test, word_test}

-- A kind; the node that it is with words 5, 6 and 7; and which numbers its words a, b and c may be by questions 6 and 7, of those tried.
pub record KindRow : Type 0 where
  pub kind : ℕ
  pub node : Node
  pub a_may : List ℕ
  pub b_may : List ℕ
  pub c_may : List ℕ

-- The same in one line, in this order.
abbrev pub kind_row : ℕ → Node → List ℕ → List ℕ → List ℕ → KindRow
kind_row kind node a b c = record { kind = kind; node = node; a_may = a; b_may = b; c_may = c }

-- They are tried at node 0 of a script with one interface, one class and nine nodes: types are 0 to 3, of which 2 is the class. What follows the node is left
-- out, as these questions about its words do not read it.
abbrev pub first_node : ℕ → ℕ → ℕ → ℕ → List ℕ
first_node k a b c = bytes (24 ∷ 1 ∷ 24 ∷ 0 ∷ 24 ∷ 1 ∷ 24 ∷ 0 ∷ 24 ∷ 0 ∷ 24 ∷ 9 ∷ k ∷ a ∷ b ∷ c ∷ [])

abbrev pub words_pass : List ℕ → Bool
words_pass s = words_test s (type_word_test s) 0 && words_test s (word_test s 0) 0

-- The numbers of a list that pass a test.
unfoldable pub passing : (ℕ → Bool) → List ℕ → List ℕ
passing test [] = []
passing test (w ∷ l) = let r = passing test l in cond (test w) (w ∷ r) r

-- The numbers tried. A variable's, field's or method's name, or a word of a constant, may be any.
abbrev pub any_word : List ℕ
any_word = 0 ∷ 1 ∷ 2 ∷ 3 ∷ 4 ∷ 8 ∷ 9 ∷ []

-- "Unused words are 0."
abbrev pub unused_word : List ℕ
unused_word = 0 ∷ []

-- "a let variable of 2 or more"
abbrev pub let_variable : List ℕ
let_variable = 2 ∷ 3 ∷ 4 ∷ 8 ∷ 9 ∷ []

-- "parts with larger numbers that exist"
abbrev pub part_word : List ℕ
part_word = 1 ∷ 2 ∷ 3 ∷ 4 ∷ 8 ∷ []

-- "Is every type word a type .. a `new` operand a class?"
abbrev pub type_number : List ℕ
type_number = 0 ∷ 1 ∷ 2 ∷ 3 ∷ []

abbrev pub class_number : List ℕ
class_number = 2 ∷ []

unfoldable pub kind_rows : List KindRow
kind_rows =
    -- "Kinds: 0 null; 1 variable a; 2 read field b of variable a; 3 the same field gets the value of c; 4 call method b of variable a with argument c;
    -- 5 let a = b in c; 6 new class a; 7 cast to type a of b; 8 fork, asyncs a and b, then c; 9 lock variable a during b."
    kind_row 0 n_null unused_word unused_word unused_word ∷
    kind_row 1 (n_var 5) any_word unused_word unused_word ∷
    kind_row 2 (n_select 5 6) any_word any_word unused_word ∷
    kind_row 3 (n_update 5 6 7) any_word any_word part_word ∷
    kind_row 4 (n_call 5 6 7) any_word any_word part_word ∷
    kind_row 5 (n_bind 5 6 7) let_variable part_word part_word ∷
    kind_row 6 (n_new 5) class_number unused_word unused_word ∷
    kind_row 7 (n_cast 5 6) type_number part_word unused_word ∷
    kind_row 8 (n_fork 5 6 7) part_word part_word part_word ∷
    kind_row 9 (n_lock 5 6) any_word part_word unused_word ∷
    -- "Kind 10 is a constant (a low word, b high word, two's complement)", "kind 11 adds variables a and b": 393,221 is 5 + 6 * 65,536
    kind_row 10 (n_constant (pos 393221)) any_word any_word unused_word ∷
    kind_row 11 (n_add 5 6) any_word any_word unused_word ∷
    -- "Has each node a known kind": 12 is none, whatever its words
    kind_row 12 n_null [] [] [] ∷
    []

-- The row of a kind as it is read and tested: each word with all numbers tried, the others being the first that their row allows.
abbrev pub kind_read : KindRow → KindRow
kind_read x =
    let a = get_or x.a_may 0 0 in
    let b = get_or x.b_may 0 0 in
    let c = get_or x.c_may 0 0 in
    record {
      kind = x.kind;
      node = view_at (first_node x.kind 5 6 7) 0;
      a_may = passing (λ w. words_pass (first_node x.kind w b c)) any_word;
      b_may = passing (λ w. words_pass (first_node x.kind a w c)) any_word;
      c_may = passing (λ w. words_pass (first_node x.kind a b w)) any_word;
    }

-- A script with three interfaces (types 1 to 3), two classes (4 and 5) and every kind of node.
unfoldable pub every_section : List ℕ
every_section =
    bytes
    -- "six entries of two words, byte offset and record count, for interfaces, signatures, classes, fields, methods, nodes"
    (24 ∷ 3 ∷ 42 ∷ 3 ∷ 60 ∷ 2 ∷ 72 ∷ 3 ∷ 84 ∷ 3 ∷ 108 ∷ 13
    -- "form; then for form 0 (list) signature count and 0; for form 1 (join) two earlier interface types"
    ∷ 0 ∷ 1 ∷ 0 ∷ 0 ∷ 2 ∷ 0 ∷ 1 ∷ 1 ∷ 2
    -- "method name, parameter type, result type"
    ∷ 7 ∷ 1 ∷ 2 ∷ 8 ∷ 3 ∷ 4 ∷ 9 ∷ 5 ∷ 6
    -- "interface type, field count, method count"
    ∷ 1 ∷ 2 ∷ 1 ∷ 2 ∷ 1 ∷ 2
    -- "name, type"
    ∷ 7 ∷ 1 ∷ 8 ∷ 2 ∷ 9 ∷ 6
    -- "name, parameter type, result type, body node"
    ∷ 7 ∷ 1 ∷ 2 ∷ 8 ∷ 8 ∷ 3 ∷ 4 ∷ 10 ∷ 9 ∷ 5 ∷ 6 ∷ 12
    -- "kind and words a, b, c": nodes 0 to 7 are the start, 8 and 9, 10 and 11, and 12 the bodies
    ∷ 5 ∷ 2 ∷ 1 ∷ 2 ∷ 6 ∷ 4 ∷ 0 ∷ 0 ∷ 8 ∷ 3 ∷ 4 ∷ 5 ∷ 9 ∷ 2 ∷ 6 ∷ 0 ∷ 10 ∷ 5 ∷ 6 ∷ 0 ∷ 11 ∷ 2 ∷ 3 ∷ 0 ∷ 7 ∷ 1 ∷ 7 ∷ 0 ∷ 0 ∷ 0 ∷ 0 ∷ 0
    ∷ 3 ∷ 0 ∷ 7 ∷ 9 ∷ 2 ∷ 1 ∷ 8 ∷ 0 ∷ 4 ∷ 0 ∷ 9 ∷ 11 ∷ 1 ∷ 1 ∷ 0 ∷ 0 ∷ 1 ∷ 0 ∷ 0 ∷ 0 ∷ [])

-- "Runs of signatures, fields and methods belong to their owners in order." "Node 0 is the start expression."
abbrev pub every_section_read : Program
every_section_read =
    record {
      interfaces =
          lists (record { name = 7; param = 1; result = 2 } ∷ []) ∷
          lists (record { name = 8; param = 3; result = 4 } ∷ record { name = 9; param = 5; result = 6 } ∷ []) ∷
          extends 1 2 ∷
          [];
      classes =
          record {
            implements = 1;
            fields = record { name = 7; type = 1 } ∷ record { name = 8; type = 2 } ∷ [];
            methods = record { signature = record { name = 7; param = 1; result = 2 }; body = update 8 0 7 (select 9 1 8) } ∷ [];
          } ∷
          record {
            implements = 2;
            fields = record { name = 9; type = 6 } ∷ [];
            methods =
                record { signature = record { name = 8; param = 3; result = 4 }; body = call 10 0 9 (var 11 1) } ∷
                record { signature = record { name = 9; param = 5; result = 6 }; body = var 12 0 } ∷
                [];
          } ∷
          [];
      start = bind 0 2 (new 1 4) (fork 2 (lock 3 2 (cast 6 1 (null 7))) (constant 4 (pos 393221)) (add 5 2 3));
    }
