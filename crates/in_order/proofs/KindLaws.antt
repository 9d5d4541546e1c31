-- Single records: what the code of `records` answers of an object, a position and a frame, a law for each return.
use mathlib.Core.Path.{◌≡◌, refl, sym, ap, ◌∙◌}
use mathlib.Core.Bool.{Bool, true, false, not}
use mathlib.Core.List.{List}
use Prim.Native.Nat.{ℕ, ◌<◌, ◌≤◌}
use native.Mathlib.Omega.{arith}
use native.Mathlib.Decide.{ℕ_discrete}
use lib.ListN.{length}
use Rattle.limits.specs.Limits.{CLASS_FIELDS}
use Rattle.script.specs.Lists.{sum_below}
use Rattle.script.specs.Reading.{own_fields, field_at, class_at}
use Rattle.script.specs.Asking.{Decides, holds, fails}
use Rattle.script.specs.Statements.{WithinLayout}
use Rattle.script.proofs.Lists.{length_run}
use Rattle.script.proofs.Tests.{decides_as}
use Rattle.subtypes.specs.declared.Declared.{Declared}
use Rattle.subtypes.specs.declared.Declared.TheVariants.{Class as is_class}
use Rattle.subtypes.specs.Subtypes.{DeclaredAs}
use Rattle.subtypes.proofs.SubtypeLaws.{class_there, type_class, but_class}
use Rattle.typing.specs.Members.{fields_from}
use Rattle.machine.specs.Machine.{field_count}
use Rattle.block.specs.declared.Area.TheVariants.{Objects, Positions, Frames}
use Rattle.block.specs.Layout.{width, word_in, CLASS, SHUT, field_word, KIND, NODE, ENV, RESULT, WAITING, RUNNING, RETURNING, FAILED, JOIN, AWAITS, CASTS, LOCKS}
use Rattle.block.specs.Values.{ValueOk}
use Rattle.representation.specs.InOrder.{Unused, FieldsInOrder, ObjectOk, PositionOk, is_running, is_returning, is_failed, is_join, FrameOk, is_awaits, is_casts, is_locks}
use Rattle.in_order.proofs.Answers.{after_yes, refused}

-- The fields of a type: only a class has some.
module _ {s : List ℕ} {t : ℕ} {d : Declared} (h : DeclaredAs s t d) where
  pub class_fields : {c : ℕ} (n : ℕ) → WithinLayout s → d ≡ is_class c → n ≡ own_fields s c → (n ≡ field_count s t) × (n ≤ CLASS_FIELDS)
  unfolding class_at
  class_fields {c} n w e q =
      (rw (type_class h e) (q ∙ sym (length_run (field_at s) (sum_below (own_fields s) c) (own_fields s c))), omega (arith, w.names_are.1.0 c (class_there h e).0))

  pub no_fields : ((c : ℕ) → d ≡ is_class c → ⊥) → (0 ≡ field_count s t) × (0 ≤ CLASS_FIELDS)
  no_fields n = (sym (but_class (λ x. length (fields_from x)) 0 refl (λ i. refl) refl refl h n), omega arith)

-- An object.
module _ (fields : ℕ → ℕ) (b : List ℕ) (i shut : ℕ) (p : shut ≡ word_in b Objects i SHUT) where
  pub neither_open_nor_shut : 1 < shut → Decides (ObjectOk fields (word_in b Objects i)) false
  neither_open_nor_shut h = fails (λ o. omega (arith, o.shut))

  pub object_asked :
      (class n : ℕ) {v r : Bool} → shut ≤ 1 → class ≡ word_in b Objects i CLASS → n ≡ fields class → n ≤ CLASS_FIELDS
      → Decides (FieldsInOrder (word_in b Objects i) n) v
      → not v ≡ false
      → Decides (Unused (word_in b Objects i) (field_word n) (width Objects)) r
      → Decides (ObjectOk fields (word_in b Objects i)) r
  object_asked class n k q c few d e =
      let has : n ≡ fields (word_in b Objects i CLASS) = c ∙ ap fields q in
      let values : FieldsInOrder (word_in b Objects i) (fields (word_in b Objects i CLASS)) = rw has at (after_yes d e) in
      decides_as (λ u. record { shut = omega (arith, p, k); few = omega (arith, has, few); values = values; unused = rw has at u }) (λ o. rw has o.unused)

  pub field_refused :
      (class n : ℕ) {v : Bool} → class ≡ word_in b Objects i CLASS → n ≡ fields class → Decides (FieldsInOrder (word_in b Objects i) n) v → not v ≡ true
      → Decides (ObjectOk fields (word_in b Objects i)) false
  field_refused class n q c = let has : n ≡ fields (word_in b Objects i CLASS) = c ∙ ap fields q in refused (λ o. rw has o.values)

-- What the kind of a record says of its words.
module _ {w : ℕ → ℕ} where
  no_value : PositionOk w → (w KIND ≡ RETURNING → ⊥) → (w KIND ≡ FAILED → ⊥) → Unused w RESULT WAITING
  no_value (is_running k u) n m = u
  no_value (is_returning k u v) n m = absurd (n k)
  no_value (is_failed k u) n m = absurd (m k)
  no_value (is_join k u) n m = u

  no_node : PositionOk w → w KIND ≡ RETURNING → Unused w NODE RESULT
  no_node (is_running k u) e = absurd (omega arith)
  no_node (is_returning k u v) e = u
  no_node (is_failed k u) e = absurd (omega arith)
  no_node (is_join k u) e = absurd (omega arith)

  its_value : PositionOk w → w KIND ≡ RETURNING → ValueOk w RESULT
  its_value (is_running k u) e = absurd (omega arith)
  its_value (is_returning k u v) e = v
  its_value (is_failed k u) e = absurd (omega arith)
  its_value (is_join k u) e = absurd (omega arith)

  nothing : PositionOk w → w KIND ≡ FAILED → Unused w NODE (width Positions)
  nothing (is_running k u) e = absurd (omega arith)
  nothing (is_returning k u v) e = absurd (omega arith)
  nothing (is_failed k u) e = u
  nothing (is_join k u) e = absurd (omega arith)

  known_position : PositionOk w → (w KIND ≡ RUNNING → ⊥) → (w KIND ≡ RETURNING → ⊥) → (w KIND ≡ FAILED → ⊥) → w KIND ≡ JOIN
  known_position (is_running k u) n m o = absurd (n k)
  known_position (is_returning k u v) n m o = absurd (m k)
  known_position (is_failed k u) n m o = absurd (o k)
  known_position (is_join k u) n m o = k

  no_env : FrameOk w → (w KIND ≡ AWAITS → ⊥) → Unused w ENV (width Frames)
  no_env (is_awaits k) n = absurd (n k)
  no_env (is_casts k u) n = u
  no_env (is_locks k u) n = u

  known_frame : FrameOk w → (w KIND ≡ AWAITS → ⊥) → (w KIND ≡ CASTS → ⊥) → w KIND ≡ LOCKS
  known_frame (is_awaits k) n m = absurd (n k)
  known_frame (is_casts k u) n m = absurd (m k)
  known_frame (is_locks k u) n m = k

-- A position, by its kind.
module _ (b : List ℕ) (i kind : ℕ) (p : kind ≡ word_in b Positions i KIND) where
  module _ {r : Bool} where
    pub running_asked : kind ≡ RUNNING → Decides (Unused (word_in b Positions i) RESULT WAITING) r → Decides (PositionOk (word_in b Positions i)) r
    running_asked k = decides_as (is_running (sym p ∙ k)) (λ o. no_value o (λ e. omega (arith, p, k, e)) (λ e. omega (arith, p, k, e)))

    pub join_asked : kind ≡ JOIN → Decides (Unused (word_in b Positions i) RESULT WAITING) r → Decides (PositionOk (word_in b Positions i)) r
    join_asked k = decides_as (is_join (sym p ∙ k)) (λ o. no_value o (λ e. omega (arith, p, k, e)) (λ e. omega (arith, p, k, e)))

    pub returning_asked :
        {v : Bool} → kind ≡ RETURNING → Decides (ValueOk (word_in b Positions i) RESULT) v → not v ≡ false
        → Decides (Unused (word_in b Positions i) NODE RESULT) r → Decides (PositionOk (word_in b Positions i)) r
    returning_asked k d e = decides_as (λ u. is_returning (sym p ∙ k) u (after_yes d e)) (λ o. no_node o (sym p ∙ k))

    pub failed_asked : kind ≡ FAILED → Decides (Unused (word_in b Positions i) NODE (width Positions)) r → Decides (PositionOk (word_in b Positions i)) r
    failed_asked k = decides_as (is_failed (sym p ∙ k)) (λ o. nothing o (sym p ∙ k))

  pub value_refused : {v : Bool} → kind ≡ RETURNING → Decides (ValueOk (word_in b Positions i) RESULT) v → not v ≡ true → Decides (PositionOk (word_in b Positions i)) false
  value_refused k = refused (λ o. its_value o (sym p ∙ k))

  pub unknown_position :
      (kind ≡ RUNNING → ⊥) → (kind ≡ RETURNING → ⊥) → (kind ≡ FAILED → ⊥) → (kind ≡ JOIN → ⊥)
      → Decides (PositionOk (word_in b Positions i)) false
  unknown_position n m o q = fails (λ ok. q (p ∙ known_position ok (λ e. n (p ∙ e)) (λ e. m (p ∙ e)) (λ e. o (p ∙ e))))

-- A frame, by its kind.
module _ (b : List ℕ) (i kind : ℕ) (p : kind ≡ word_in b Frames i KIND) where
  pub awaits_known : kind ≡ AWAITS → Decides (FrameOk (word_in b Frames i)) true
  awaits_known k = holds (is_awaits (sym p ∙ k))

  module _ {r : Bool} where
    pub opens_or_casts : CASTS ≤ kind → kind ≤ LOCKS → Decides (Unused (word_in b Frames i) ENV (width Frames)) r → Decides (FrameOk (word_in b Frames i)) r
    opens_or_casts l h = decides_as (λ u. elim (ℕ_discrete kind CASTS) [ yes k ↦ is_casts (sym p ∙ k) u | no n ↦ is_locks (omega (arith, p, n)) u ]) (λ o. no_env o (λ e. omega (arith, p, l, e)))

  pub unknown_frame : (kind ≡ AWAITS → ⊥) → (kind ≡ CASTS → ⊥) → (kind ≡ LOCKS → ⊥) → Decides (FrameOk (word_in b Frames i)) false
  unknown_frame n m o = fails (λ ok. o (p ∙ known_frame ok (λ e. n (p ∙ e)) (λ e. m (p ∙ e))))
