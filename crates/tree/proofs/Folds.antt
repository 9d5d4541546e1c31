-- Laws of a join's move: where its sides stand, and what the machine says of them.
use mathlib.Core.Path.{◌≡◌, refl, sym, ap, ◌∙◌}
use mathlib.Core.Logic.{◌≢◌}
use mathlib.Core.List.{List}
use Prim.Native.Nat.{ℕ, ◌+◌, ◌<◌}
use native.Mathlib.Omega.{arith}
use lib.ListN.{length, get_or}
use Rattle.machine.specs.declared.Frame.{Frame}
use Rattle.machine.specs.Config as machine
use Rattle.machine.specs.Config.{Stores, running, returning, failed, join}
use Rattle.machine.specs.Machine.{size, phase, fold}
use Rattle.machine.proofs.Positions.{size_some}
use Rattle.tree.specs.declared.Entry.{Entry}
use Rattle.tree.specs.declared.Phase.{Phase}
use Rattle.tree.specs.declared.Fold.{Fold}
use Rattle.tree.specs.declared.Fold.TheVariants.{Still}
use Rattle.tree.specs.Entries.{cell_of, root_entry, beneath_cell, blank}
use Rattle.tree.specs.Parts.{PartAt, HasPart, Ends}
use Rattle.tree.specs.Phases.{phase_in, outcome_of, PhaseIs, FoldIs, FoldAt}
use Rattle.tree.proofs.Parts.{part_inside, part_root, part_left, part_right}

thread_beneath : (u : machine.Tree) → size u ≡ 1 → beneath_cell (cell_of u) ≡ 0
thread_beneath (running a e fs) h = refl
thread_beneath (returning v fs) h = refl
thread_beneath failed h = refl
thread_beneath (join fs a e l r) h = absurd (omega (arith, size_some l))

module _ (es : List Entry) (i : ℕ) where
  beneath_part : {before after : List Entry} {u : machine.Tree} → PartAt es i before u after → beneath_cell (get_or es i blank).cell ≡ beneath_cell (cell_of u)
  beneath_part p = ap (λ (x : Entry). beneath_cell x.cell) (part_root p)

  -- no tree beneath: the part is a thread
  pub fold_thread : (b : ℕ) → b ≡ beneath_cell (get_or es i blank).cell → b ≡ 0 → FoldAt es i Still
  fold_thread b e z = record { joins = λ p st. absurd (no_join (sym z ∙ e ∙ beneath_part p)); threads = λ one p. refl }
    where
      no_join : ◌≡◌ {A = ℕ} 0 2 → ⊥
      no_join h = omega arith

record JoinAt (es : List Entry) (i : ℕ) : Type 0 where
  before : List Entry
  after : List Entry
  frames : List Frame
  last : ℕ
  env : ℕ
  left : machine.Tree
  right : machine.Tree
  there : PartAt es i before (join frames last env left right) after

module _ (es : List Entry) (i : ℕ) (s : HasPart es i) (b : ℕ) (e : b ≡ beneath_cell (get_or es i blank).cell) (some : b ≢ 0) where
  -- a tree beneath: the part is a join
  join_of_lem : {before after : List Entry} (u : machine.Tree) → PartAt es i before u after → JoinAt es i
  join_of_lem (running a env fs) p = absurd (some (e ∙ beneath_part es i p))
  join_of_lem (returning v fs) p = absurd (some (e ∙ beneath_part es i p))
  join_of_lem failed p = absurd (some (e ∙ beneath_part es i p))
  join_of_lem {before} {after} (join fs a env l r) p = record { before = before; after = after; frames = fs; last = a; env = env; left = l; right = r; there = p }

  pub left_inside : i + 1 < length es
  left_inside = let j = join_of_lem s.part s.there in omega (arith, part_inside j.there, size_some j.left, size_some j.right)

  pub right_inside : {right : ℕ} → Ends es (i + 1) right → right < length es
  right_inside h = let j = join_of_lem s.part s.there in omega (arith, part_inside j.there, h.part (part_left j.there), size_some j.right)

  -- the phases of the sides are those of the entries there
  pub fold_join : (right : ℕ) (x y : Phase) (r : Fold) → Ends es (i + 1) right
      → PhaseIs (get_or es (i + 1) blank) x → PhaseIs (get_or es right blank) y → FoldIs x y r → FoldAt es i r
  fold_join right x y r h px py f = record { joins = λ p st. says p st; threads = λ {before} {after} {u} one p. absurd (some (e ∙ beneath_part es i p ∙ thread_beneath u one)) }
    where
      says : {before after : List Entry} {fs : List Frame} {a env : ℕ} {l m : machine.Tree} → PartAt es i before (join fs a env l m) after
          → (st : Stores) → fold st fs a env (phase l) (phase m) ≡ outcome_of r st fs a env
      says {fs = fs} {a = a} {env = env} {l = l} {m = m} p st =
          let on_left : phase_in x ≡ phase l = px l (part_root (part_left p)) in
          let there : get_or es right blank ≡ root_entry m = ap (λ (n : ℕ). get_or es n blank) (h.part (part_left p)) ∙ part_root (part_right p) in
          let on_right : phase_in y ≡ phase m = py m there in
          rw (← on_left, ← on_right) (f st fs a env)
