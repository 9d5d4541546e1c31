-- A script that Check accepts gives the machine what it builds on.
use Prim.Native.Nat.{ℕ, ◌+◌, ◌*◌, ◌<◌}
use mathlib.Core.Path.{◌≡◌, refl, ap}
use mathlib.Core.List.{List}
use native.Mathlib.Omega.{arith}
use lib.ListN.{get_or}
use lib.IntN.{ℤ}
use Rattle.words.specs.Word.{WORD, word_at}
use Rattle.words.specs.Integer.{InRange, integer}
use Rattle.words.proofs.Integers.{integer_words}
use Rattle.script.specs.declared.Section.TheVariants.{Classes as classes, Methods as methods, Nodes as nodes}
use Rattle.script.specs.Lists.{◌∈◌, sum_below}
use Rattle.script.specs.Section.{count_of, record_at, record_word}
use Rattle.script.specs.Syntax.{Point, n_bind, n_constant, Method, Class, declaration_at, a_class}
use Rattle.script.specs.declared.Kind.{Kind}
use Rattle.script.specs.declared.Kind.TheVariants.{Null as null_kind, Variable as var_kind, Select as select_kind, Update as update_kind, Call as call_kind}
use Rattle.script.specs.declared.Kind.TheVariants.{Let as bind_kind, New as new_kind, Cast as cast_kind, Fork as fork_kind, Lock as lock_kind}
use Rattle.script.specs.declared.Kind.TheVariants.{Constant as constant_kind, Sum as add_kind, Unknown as unknown_kind}
use Rattle.script.specs.Reading.{node_of, kind_of, view_at, own_methods, method_at, class_at, program_of}
use Rattle.script.specs.Statements.{WithinLayout}
use Rattle.script.proofs.Lists.{in_run, sum_more}
use Rattle.script.proofs.Declarations.{class_from}
use Rattle.script.proofs.Reading.{expr_at_lem, in_order}
use Rattle.script.proofs.Regular.{formed, regular}
use Rattle.std.specs.declared.result.Result.TheVariants.{Ok}
use Rattle.typing.specs.Check.{check_of}
use Rattle.typing.proofs.Exact.{exact, outside_refused}
use Rattle.machine.specs.Config.{code_of}
use Rattle.machine.specs.Accepted.{BodyAt, AcceptedCode}

-- a let's variable is a word of its node, and a constant is the number of two
node_words_lem : (k : Kind) (a b c : ℕ)
    → ((x : ℕ) (p q : Point) → node_of k a b c ≡ n_bind x p q → x ≡ a) × ((z : ℤ) → node_of k a b c ≡ n_constant z → z ≡ integer a b)
node_words_lem null_kind a b c = (λ x p q e. cc, λ z e. cc)
node_words_lem var_kind a b c = (λ x p q e. cc, λ z e. cc)
node_words_lem select_kind a b c = (λ x p q e. cc, λ z e. cc)
node_words_lem update_kind a b c = (λ x p q e. cc, λ z e. cc)
node_words_lem call_kind a b c = (λ x p q e. cc, λ z e. cc)
node_words_lem bind_kind a b c = (λ x p q e. cc, λ z e. cc)
node_words_lem new_kind a b c = (λ x p q e. cc, λ z e. cc)
node_words_lem cast_kind a b c = (λ x p q e. cc, λ z e. cc)
node_words_lem fork_kind a b c = (λ x p q e. cc, λ z e. cc)
node_words_lem lock_kind a b c = (λ x p q e. cc, λ z e. cc)
node_words_lem constant_kind a b c = (λ x p q e. cc, λ z e. cc)
node_words_lem add_kind a b c = (λ x p q e. cc, λ z e. cc)
node_words_lem unknown_kind a b c = (λ x p q e. cc, λ z e. cc)

module _ (s : List ℕ) where
  word_small : ((i : ℕ) → get_or s i 0 < 256) → (k j : ℕ) → record_word s nodes k j < WORD
  unfolding record_word word_at
  word_small bytes k j =
      let i = record_at s nodes k + 2 * j in
      omega (arith, bytes i, bytes (i + 1))

  small : ((i : ℕ) → get_or s i 0 < 256) → (n : Point) (x : ℕ) (a b : Point) → view_at s n ≡ n_bind x a b → x < WORD
  unfolding view_at
  small bytes n x a b e = rw ((node_words_lem (kind_of (record_word s nodes n 0)) _ _ _).0 x a b e) (word_small bytes n 1)

  constant_small : ((i : ℕ) → get_or s i 0 < 256) → (n : Point) (z : ℤ) → view_at s n ≡ n_constant z → InRange z
  unfolding view_at
  constant_small bytes n z e =
      rw ((node_words_lem (kind_of (record_word s nodes n 0)) _ _ _).1 z e) (integer_words (word_small bytes n 1) (word_small bytes n 2)).in_range

  module _ (w : WithinLayout s) where
    -- a body is the expression at a node
    body_at_lem : (m : Method) (c : ℕ) → c < count_of s classes → m ∈ (class_at s c).methods → BodyAt (code_of s) m
    unfolding class_at method_at
    body_at_lem m c h k =
        let x = in_run (method_at s) (sum_below (own_methods s) c) (own_methods s c) m k in
        let l : x.index < count_of s methods = omega (arith, sum_more (own_methods s) c (count_of s classes) h, w.owners_are.of_methods, x.upto) in
        record { point = record_word s methods x.index 3; there = w.nodes_are.0 x.index l; is = ap (λ (d : Method). d.body) x.is }

    bodies : (u : ℕ) (c : Class) (m : Method) → declaration_at (program_of s) u ≡ a_class c → m ∈ c.methods → BodyAt (code_of s) m
    bodies u c m d k = let x = class_from s u c d in body_at_lem m x.0 x.1 (rw x.3 at k)

-- Every byte is below 256 in what a slice lends.
pub accepted : (s : List ℕ) (t : ℕ) → ((i : ℕ) → get_or s i 0 < 256) → check_of s ≡ Ok t → AcceptedCode (code_of s) t
unfolding program_of
accepted s t bytes e =
    let w = outside_refused s t e in
    record {
      regular = regular s w;
      typed = (exact s w t).0 e;
      most = w.counts_are.within nodes;
      a_node = w.counts_are.a_node;
      built = λ n h. expr_at_lem s n h (in_order s w n h);
      formed = formed s w;
      in_order = λ n h p m. let q = in_order s w n h p m in record { after = q.later; there = q.there };
      words = small s bytes;
      constants = constant_small s bytes;
      bodies = bodies s w;
      start = refl;
    }
