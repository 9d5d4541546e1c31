use mathlib.Core.Path.{◌≡◌, refl, ◌∙◌}
use Prim.Native.Nat.{◌+◌, ◌-◌}
use native.Mathlib.Omega.{arith}
use lib.ListN.{length-set}
use Rattle.tree.proofs.Parts.{used_length}
use Rattle.tree.proofs.Changes.{stored_first, replaced_all}
use mathlib.Core.List.{[]}
use Rattle.tree.proofs.Tree.replaced.Goals as goal

pub offset_bounds-self-i : goal.offset_bounds-self-i
offset_bounds-self-i c =
    omega (arith, used_length _ c.requires.0, c.requires.0.small, c.requires.1.some, c.requires.1.inside)

pub bounds-self-i : goal.bounds-self-i
bounds-self-i c =
    omega (arith, used_length _ c.requires.0, c.requires.0.small, c.requires.1.some, c.requires.1.inside)

pub removed-requires : goal.removed-requires
removed-requires c = (
  record { small = c.requires.0.small; whole = length-set c.args.self.entries c.args.i c.args.x ∙ c.requires.0.whole },
  omega (arith, used_length _ c.requires.0, c.requires.1.some, c.requires.1.inside),
)

pub returns : goal.returns
returns c =
    let a = c.args in
    let pre = c.requires in
    let n : a.end - a.i - 1 + 1 ≡ a.end - a.i = omega (arith, pre.1.some) in
    let s = stored_first a.self _ _ a.i _ a.x [] pre.0 (omega (arith, used_length _ pre.0, pre.1.some, pre.1.inside)) refl refl c.removed.ensures in
    replaced_all _ _ _ _ _ pre.1 (rw n at s)
