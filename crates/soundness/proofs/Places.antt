-- The part of a tree at a place.
use Prim.Native.Nat.{ℕ}
use native.Mathlib.Omega.{arith}
use mathlib.Core.Path.{◌≡◌}
use mathlib.Core.List.{List, [], ◌++◌}
use mathlib.Core.Option.{some}
use Rattle.machine.specs.declared.Want.{Want}
use Rattle.machine.specs.declared.Frame.{Frame}
use Rattle.machine.specs.Config.{Code, Stores, Tree, running, returning, failed, join}
use Rattle.machine.specs.Machine.{Path, here, left, right, part, At, at_root, at_left, at_right}
use Rattle.machine.specs.WellFormed.{TreeOk, join_ok}

pub part_at : (above : List Frame) (t : Tree) (p : Path) {u : Tree} → part t p ≡ some u → (handed : List Frame) × At above t p handed u
part_at above t here {u} h = let e : u ≡ t = cc in (above, rw e at_root)
part_at above (running a e fs) (left p) h = absurd (let z : ◌≡◌ {A = ℕ} 0 1 = cc in omega arith)
part_at above (running a e fs) (right p) h = absurd (let z : ◌≡◌ {A = ℕ} 0 1 = cc in omega arith)
part_at above (returning v fs) (left p) h = absurd (let z : ◌≡◌ {A = ℕ} 0 1 = cc in omega arith)
part_at above (returning v fs) (right p) h = absurd (let z : ◌≡◌ {A = ℕ} 0 1 = cc in omega arith)
part_at above failed (left p) h = absurd (let z : ◌≡◌ {A = ℕ} 0 1 = cc in omega arith)
part_at above failed (right p) h = absurd (let z : ◌≡◌ {A = ℕ} 0 1 = cc in omega arith)
part_at above (join fs a e l r) (left p) h = let x = part_at (fs ++ above) l p h in (x.0, at_left x.1)
part_at above (join fs a e l r) (right p) h = let x = part_at [] r p h in (x.0, at_right x.1)

-- A part of a well-formed tree is well formed.
at_ok : {s : Code} {st : Stores} {w : Want} {above handed : List Frame} {t u : Tree} {p : Path} → At above t p handed u → TreeOk s st w t → (v : Want) × TreeOk s st v u
at_ok {w = w} at_root x = (w, x)
at_ok (at_left k) (join_ok le g f x y) = at_ok k x
at_ok (at_right k) (join_ok le g f x y) = at_ok k y

pub part_ok : {s : Code} {st : Stores} {w : Want} (t : Tree) (p : Path) {u : Tree} → TreeOk s st w t → part t p ≡ some u → (v : Want) × TreeOk s st v u
part_ok t p x h = at_ok (part_at [] t p h).1 x
