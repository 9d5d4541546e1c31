-- The phase of a tree by the entry of its root.
use mathlib.Core.Path.{◌≡◌, refl, sym, ap, ◌∙◌}
use mathlib.Core.Logic.{◌≢◌}
use mathlib.Core.List.{[], ◌∷◌}
use Prim.Native.Nat.{ℕ, zero, suc}
use Rattle.machine.specs.Config as machine
use Rattle.machine.specs.Config.{running, returning, failed, join}
use Rattle.machine.specs.declared.Value.{Value}
use Rattle.machine.specs.Machine.{Phase, finished, broken, busy, phase}
use Rattle.tree.specs.declared.Cell.{Cell}
use Rattle.tree.specs.declared.Cell.TheVariants.{Failed, Running, Returning, Join}
use Rattle.tree.specs.declared.Entry.{Entry}
use Rattle.tree.specs.Entries.{root_entry}

abbrev pub phase_by : Cell → ℕ → Phase
phase_by Failed n = broken
phase_by (Running a e) n = busy
phase_by (Returning v) zero = finished
phase_by (Returning v) (suc n) = busy
phase_by (Join a e) n = busy

phase_entry : (u : machine.Tree) → phase_by (root_entry u).cell (root_entry u).frames ≡ phase u
phase_entry (running a e fs) = refl
phase_entry (returning v []) = refl
phase_entry (returning v (f ∷ fs)) = refl
phase_entry failed = refl
phase_entry (join fs a e l r) = refl

pub phase_by_lem : (x : Entry) (u : machine.Tree) {c : Cell} → x ≡ root_entry u → x.cell ≡ c → phase_by c x.frames ≡ phase u
phase_by_lem x u e h = ap (λ (k : Cell). phase_by k x.frames) (sym h) ∙ ap (λ (y : Entry). phase_by y.cell y.frames) e ∙ phase_entry u

-- "A finished thread has a value and no frame."
pub phase_finished : (x : Entry) (u : machine.Tree) {v : Value} → x ≡ root_entry u → x.cell ≡ Returning v → x.frames ≡ 0 → finished ≡ phase u
phase_finished x u {v} e h z = ap (λ (n : ℕ). phase_by (Returning v) n) (sym z) ∙ phase_by_lem x u e h

pub phase_waits : (x : Entry) (u : machine.Tree) {v : Value} → x ≡ root_entry u → x.cell ≡ Returning v → x.frames ≢ 0 → busy ≡ phase u
phase_waits x u {v} e h z = go x.frames z ∙ phase_by_lem x u e h
  where
    go : (n : ℕ) → n ≢ 0 → busy ≡ phase_by (Returning v) n
    go zero z = absurd (z refl)
    go (suc n) z = refl
