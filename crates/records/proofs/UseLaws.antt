-- The table of uses: what counting one more use does, and what has been counted after each loop.
use mathlib.Core.Path.{◌≡◌, refl, sym, ap, ◌∙◌}
use mathlib.Core.Bool.{Bool, true, false, cond}
use mathlib.Core.List.{List, [], ◌∷◌, ◌++◌, append-nil, append_assoc}
use Prim.Native.Nat.{ℕ, zero, suc, ◌+◌, ◌<◌, ◌≤◌, min}
use native.Mathlib.Omega.{arith}
use native.Mathlib.Numerals.{add-one}
use lib.Dec.{eqb}
use lib.ListN.{get_or, set, replicate, length-set, length-replicate, get_or-replicate}
use lib.Seq.{get_or-set_same, get_or-set_other}
use borrow.Author.Tests.{eqb-true, eqb-false, eq-eqb, ne_eqb}
use Rattle.limits.specs.Limits.{NODES}
use Rattle.script.specs.declared.Role.{Role}
use Rattle.script.specs.declared.Shape.{Shape}
use Rattle.script.specs.Lists.{run, count_in}
use Rattle.script.specs.declared.Section.TheVariants.{Methods as methods, Nodes as nodes}
use Rattle.script.specs.Section.{count_of, record_word, node_word}
use Rattle.script.specs.Syntax.{Point, parts}
use Rattle.script.specs.declared.Kind.{Kind}
use Rattle.script.specs.declared.Kind.TheVariants.{Null as null_kind, Variable as var_kind, Select as select_kind, Update as update_kind, Call as call_kind}
use Rattle.script.specs.declared.Kind.TheVariants.{Let as bind_kind, New as new_kind, Cast as cast_kind, Fork as fork_kind, Lock as lock_kind}
use Rattle.script.specs.declared.Kind.TheVariants.{Constant as constant_kind, Sum as add_kind, Unknown as unknown_kind}
use Rattle.script.specs.Reading.{kind_of, shape_of, shape_at, node_of, view_at}
use Rattle.script.specs.Questions.{parts_from, uses_in}
use Rattle.records.specs.Uses.{part_in, Counted, Adds, body_words}

-- How often a number stands in a list with one more at its end.
module _ (m p : ℕ) where
  count_same : (l : List ℕ) → p ≡ m → count_in m (l ++ (p ∷ [])) ≡ suc (count_in m l)
  unfolding count_in
  count_same [] e = rw (eq-eqb p m e)
  count_same (x ∷ l) e = rw (count_same l e) (go (eqb x m))
    where
      go : (b : Bool) → cond b (suc (suc (count_in m l))) (suc (count_in m l)) ≡ suc (cond b (suc (count_in m l)) (count_in m l))
      go true = refl
      go false = refl

  count_other : (l : List ℕ) → (p ≡ m → ⊥) → count_in m (l ++ (p ∷ [])) ≡ count_in m l
  unfolding count_in
  count_other [] n = rw (ne_eqb p m n)
  count_other (x ∷ l) n = rw (count_other l n)

-- One use more, of a node that was counted, that was used twice already, or that is none.
module _ (uses : List ℕ) (p : Point) where
  pub use_past : NODES ≤ p → Adds uses uses (p ∷ [])
  use_past h l t = record { room = t.room; right = λ m i. t.right m i ∙ ap (min 2) (sym (count_other m p l (λ e. omega arith))) }

  pub use_full : 2 ≤ get_or uses p 0 → Adds uses uses (p ∷ [])
  use_full h l t = record { room = t.room; right = λ m i. go m i (eqb p m) refl }
    where
      go : (m : Point) → m < NODES → (b : Bool) → eqb p m ≡ b → get_or uses m 0 ≡ min 2 (count_in m (l ++ (p ∷ [])))
      go m i true e =
          let q = eqb-true p m e in
          let f : 2 ≤ get_or uses m 0 = rw q at h in
          rw (count_same m p l q) (omega (arith, t.right m i))
      go m i false e = rw (count_other m p l (eqb-false p m e)) (t.right m i)

  pub use_more : p < NODES → get_or uses p 0 < 2 → Adds uses (set uses p (get_or uses p 0 + 1)) (p ∷ [])
  use_more j h l t = record { room = length-set uses p (get_or uses p 0 + 1) ∙ t.room; right = λ m i. go m i (eqb p m) refl }
    where
      go : (m : Point) → m < NODES → (b : Bool) → eqb p m ≡ b → get_or (set uses p (get_or uses p 0 + 1)) m 0 ≡ min 2 (count_in m (l ++ (p ∷ [])))
      go m i true e =
          let q = eqb-true p m e in
          rw (count_same m p l q, ← q, get_or-set_same uses p (get_or uses p 0 + 1) 0 (omega (arith, t.room))) (omega (arith, t.right p j))
      go m i false e =
          let n = eqb-false p m e in
          rw (count_other m p l n, get_or-set_other uses p m (get_or uses p 0 + 1) 0 (λ f. n (sym f))) (t.right m i)

-- Nothing more, and more after more.
pub adds_none : (uses : List ℕ) → Adds uses uses []
adds_none uses l t = rw (append-nil l) t

adds_more : (a b c : List ℕ) (l m : List Point) → Adds a b l → Adds b c m → Adds a c (l ++ m)
adds_more a b c l m f g k t = rw (← append_assoc k l m) (g (k ++ l) (f k t))

-- A word of a role that is known.
pub adds_word : (a b : List ℕ) (role known : Role) (w : ℕ) → role ≡ known → Adds a b (part_in known w) → Adds a b (part_in role w)
adds_word a b role known w e f = rw e f

-- The parts of a node are those of its words.
parts_kind : (k : Kind) (a b c : ℕ) → part_in (shape_of k).0 a ++ (part_in (shape_of k).1 b ++ part_in (shape_of k).2 c) ≡ parts (node_of k a b c)
parts_kind null_kind a b c = refl
parts_kind var_kind a b c = refl
parts_kind select_kind a b c = refl
parts_kind update_kind a b c = refl
parts_kind call_kind a b c = refl
parts_kind bind_kind a b c = refl
parts_kind new_kind a b c = refl
parts_kind cast_kind a b c = refl
parts_kind fork_kind a b c = refl
parts_kind lock_kind a b c = refl
parts_kind constant_kind a b c = refl
parts_kind add_kind a b c = refl
parts_kind unknown_kind a b c = refl

pub adds_parts :
    (s t u v w : List ℕ) (n a b c : ℕ) (shape : Shape)
    → shape ≡ shape_at s n → a ≡ node_word s n 1 → b ≡ node_word s n 2 → c ≡ node_word s n 3
    → Adds t u (part_in shape.0 a) → Adds u v (part_in shape.1 b) → Adds v w (part_in shape.2 c)
    → Adds t w (parts (view_at s n))
unfolding view_at
adds_parts s t u v w n a b c shape e x y z f g h =
    let q : part_in shape.0 a ++ (part_in shape.1 b ++ part_in shape.2 c) ≡ parts (node_of (kind_of (node_word s n 0)) (node_word s n 1) (node_word s n 2) (node_word s n 3)) =
    rw (e, x, y, z) (parts_kind (kind_of (node_word s n 0)) (node_word s n 1) (node_word s n 2) (node_word s n 3)) in
    rw (← q) (adds_more t u w _ _ f (adds_more u v w _ _ g h))

-- A loop over methods, and one over nodes: one more record at the end.
run_end : (f : ℕ → ℕ) (i k : ℕ) → run f i (suc k) ≡ run f i k ++ (f (i + k) ∷ [])
unfolding run
run_end f i zero = let e : i + 0 ≡ i = omega arith in rw e
run_end f i (suc k) = let e : i + suc k ≡ i + 1 + k = omega arith in rw e (ap (λ (l : List ℕ). f i ∷ l) (run_end f (i + 1) k))

parts_end : (s : List ℕ) (i k : ℕ) → parts_from s i (suc k) ≡ parts_from s i k ++ parts (view_at s (i + k))
unfolding parts_from
parts_end s i zero = let e : i + 0 ≡ i = omega arith in rw (e, append-nil)
parts_end s i (suc k) =
    let e : i + suc k ≡ i + 1 + k = omega arith in
    rw (e, append_assoc) (ap (λ (l : List ℕ). parts (view_at s i) ++ l) (parts_end s (i + 1) k))

module _ (s a : List ℕ) where
  pub bodies_start : Adds a a (body_words s 0)
  unfolding body_words run
  bodies_start = adds_none a

  pub parts_start : Adds a a (parts_from s 0 0)
  unfolding parts_from
  parts_start = adds_none a

  module _ (b c : List ℕ) (i : ℕ) where
    pub bodies_next : (w : ℕ) → w ≡ record_word s methods i 3 → Adds a b (body_words s i) → Adds b c (w ∷ []) → Adds a c (body_words s (i + 1))
    unfolding body_words
    bodies_next w e f g = let z : 0 + i ≡ i = omega arith in rw (add-one i, run_end, z, ← e) (adds_more a b c _ _ f g)

    pub parts_next : Adds a b (parts_from s 0 i) → Adds b c (parts (view_at s i)) → Adds a c (parts_from s 0 (i + 1))
    parts_next f g = let z : 0 + i ≡ i = omega arith in rw (add-one i, parts_end, z) (adds_more a b c _ _ f g)

  module _ (b : List ℕ) (i n : ℕ) (upto : i ≤ n) (all : n ≤ i) where
    pub bodies_all : n ≡ count_of s methods → Adds a b (body_words s i) → Adds a b (body_words s (count_of s methods))
    bodies_all e f = let z : i ≡ count_of s methods = omega arith in rw z at f

    pub parts_all : n ≡ count_of s nodes → Adds a b (parts_from s 0 i) → Adds a b (parts_from s 0 (count_of s nodes))
    parts_all e f = let z : i ≡ count_of s nodes = omega arith in rw z at f

-- An empty table, and what it holds in the end.
pub table_empty : Counted (replicate NODES 0) []
unfolding count_in
table_empty = record { room = length-replicate {A = ℕ} NODES 0; right = λ m i. get_or-replicate NODES m 0 0 i }

pub table_full :
    (s z a b : List ℕ)
    → Counted z [] → Adds z a (body_words s (count_of s methods)) → Adds a b (parts_from s 0 (count_of s nodes))
    → Counted b (uses_in s)
unfolding uses_in body_words
table_full s z a b e f g = adds_more _ a b _ _ f g [] e
