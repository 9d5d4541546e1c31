-- A script that gets a yes to questions 1 to 8 is read as a regular program.
use Prim.Native.Nat.{ℕ, suc, ◌+◌, ◌<◌, ◌≤◌}
use mathlib.Core.Path.{◌≡◌}
use mathlib.Core.List.{List}
use native.Mathlib.Omega.{arith}
use Rattle.script.specs.Lists.{◌∈◌, run, sum_below}
use Rattle.script.specs.Section.{interfaces, classes, fields, methods, nodes, count_of, record_word, node_word}
use Rattle.script.specs.Syntax.{Point, Expr, parts, build, Signature}
use Rattle.script.specs.Reading.{Kind, null_kind, var_kind, select_kind, update_kind, call_kind, bind_kind, new_kind, cast_kind, fork_kind, lock_kind, constant_kind, add_kind, unknown_kind, kind_of, shape_of, node_of, view_at, expr_at, own_signatures, own_fields, own_methods, signature_at, interface_at, field_at, method_at, class_at, program_of}
use Rattle.script.specs.Statements.{InterfaceIs, a_list, a_join, TypeWord, TypeWordIs, Fresh, WithinLayout}
use Rattle.script.specs.Regular.{IsType, Formed, Unique, TypedSignature, RegularInterface, RegularClass, Regular}
use Rattle.script.proofs.Lists.{in_run, run_unique, sum_more}
use Rattle.script.proofs.Declarations.{length_interfaces, length_classes, interface_from, class_from}
use Rattle.script.proofs.Reading.{first, second, third, expr_at_lem, in_order, every_node}

-- Where the runs of n owners add up to a section's count: what holds of each of its records holds of all in an owner's run, and fresh names are unique there.
owned :
    {A : Type 0} (read : ℕ → A) (own : ℕ → ℕ) (n count : ℕ) → sum_below own n ≡ count → (o : ℕ) → o < n
    → (P : A → Type 0) → ((i : ℕ) → i < count → P (read i))
    → (name : A → ℕ) → ((i : ℕ) → i < count → Fresh (λ j. name (read j)) own n i)
    → ((a : A) → a ∈ run read (sum_below own o) (own o) → P a) × Unique name (run read (sum_below own o) (own o))
owned read own n count adds-up o among P each name fresh =
    let ends : sum_below own o + own o ≤ count = omega (arith, sum_more own o n among) in (
      λ a m. let x = in_run read (sum_below own o) (own o) a m in rw x.is (each x.index (omega arith)),
      run_unique read name (sum_below own o) (own o)
          (λ j i from before upto. fresh i (omega arith) j (record { owner = o; among = among; from = from; before = before; upto = upto })),
    )

module _ (s : List ℕ) where
  -- A type word of the script is a type of its program, and a signature of such words is typed.
  word_type : (t : ℕ) → TypeWord s t → IsType (program_of s) t
  word_type t h = rw (length_interfaces s, length_classes s) h

  typed : (g : Signature) → TypeWord s g.param × TypeWord s g.result → TypedSignature (program_of s) g
  typed g h = record { param = word_type g.param h.0; result = word_type g.result h.1 }

  -- What is built of a node is formed if its words are as question 6 asks and its parts are formed.
  formed_node :
      (n : Point) (f : Point → Expr) (k : Kind) (a b c : ℕ) → TypeWordIs s (shape_of k).0 a → ((p : Point) → p ∈ parts (node_of k a b c) → Formed (program_of s) (f p))
      → Formed (program_of s) (build n f (node_of k a b c))
  formed_node n f null_kind a b c h e = tt
  formed_node n f var_kind a b c h e = tt
  formed_node n f select_kind a b c h e = tt
  formed_node n f update_kind a b c h e = e c first
  formed_node n f call_kind a b c h e = e c first
  formed_node n f bind_kind a b c h e = (e b first, e c second)
  formed_node n f new_kind a b c h e = record { past = rw (length_interfaces s) h.past; last = rw (length_interfaces s, length_classes s) h.last }
  formed_node n f cast_kind a b c h e = (word_type a h, e b first)
  formed_node n f fork_kind a b c h e = (e a first, e b second, e c third)
  formed_node n f lock_kind a b c h e = e b first
  formed_node n f constant_kind a b c h e = tt
  formed_node n f add_kind a b c h e = tt
  formed_node n f unknown_kind a b c h e = tt

  module _ (w : WithinLayout s) where
    -- Every expression of the script is formed.
    pub formed : (n : Point) → n < count_of s nodes → Formed (program_of s) (expr_at s n)
    unfolding view_at
    formed =
        every_node s (λ n. Formed (program_of s) (expr_at s n)) (in_order s w)
        (λ n h e. rw (expr_at_lem s n h (in_order s w n h)) (formed_node n (expr_at s) (kind_of (node_word s n 0)) _ _ _ (w.types_are.1.1.1.1.0 n h).a_is e))

    -- What interface record i is read as is regular: its parents are earlier, or its signatures are typed and have names of their own.
    regular_interface : (t i : ℕ) → t ≡ suc i → i < count_of s interfaces → InterfaceIs s i → RegularInterface (program_of s) t (interface_at s i)
    unfolding interface_at signature_at
    regular_interface t i e h (a_list form unused) =
        rw form
        (owned (signature_at s) (own_signatures s) _ _ w.owners_are.of_signatures i h
        (TypedSignature (program_of s)) (λ j k. typed (signature_at s j) (w.types_are.0 j k))
        (λ g. g.name) w.names_are.0)
    regular_interface t i e h (a_join form a b) = rw form (omega arith)

    -- What class record c is read as is regular: the same of its fields and methods, and bodies are formed.
    regular_class : (c : ℕ) → c < count_of s classes → RegularClass (program_of s) (class_at s c)
    unfolding class_at field_at method_at
    regular_class c h =
        let i = w.types_are.1.0 c h in
        let fs = owned (field_at s) (own_fields s) _ _ w.owners_are.of_fields c h
        (λ f. IsType (program_of s) f.type) (λ j k. word_type (record_word s fields j 1) (w.types_are.1.1.0 j k))
        (λ f. f.name) w.names_are.1.1.0 in
        let ms = owned (method_at s) (own_methods s) _ _ w.owners_are.of_methods c h
        (λ m. TypedSignature (program_of s) m.signature × Formed (program_of s) m.body)
        (λ j k. (typed (method_at s j).signature (w.types_are.1.1.1.0 j k), formed (record_word s methods j 3) (w.nodes_are.0 j k)))
        (λ m. m.signature.name) w.names_are.1.1.1.0 in
        record {
          interface = record { first = i.first; last = rw (length_interfaces s) i.last };
          field_types = fs.0;
          field_names = fs.1;
          method_types = λ m k. (ms.0 m k).0;
          method_names = ms.1;
          bodies = λ m k. (ms.0 m k).1;
        }

    -- Questions 1 to 8 settle that the script's program is regular.
    pub regular : Regular (program_of s)
    unfolding program_of
    regular =
        record {
          interfaces = λ t j e. let x = interface_from s t j e in rw x.3 (regular_interface t x.0 x.2 x.1 (w.interfaces_are.0 x.0 x.1));
          classes = λ t c e. let x = class_from s t c e in rw x.3 (regular_class x.0 x.1);
          start = formed 0 w.counts_are.a_node;
        }
