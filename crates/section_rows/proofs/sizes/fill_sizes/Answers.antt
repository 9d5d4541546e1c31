use mathlib.Core.Path.{◌≡◌, sym, ◌∙◌}
use Prim.Native.Nat.{◌+◌, ◌-◌, ◌≤◌}
use native.Mathlib.Omega.{arith}
use lib.ListN.{length, drop_of_length-le}
use Rattle.script.specs.declared.Section.TheVariants.{Nodes as nodes}
use Rattle.rows.specs.Rows.{sizes_of}
use Rattle.section_rows.proofs.PlaceLaws.{place_at_lem, places_count}
use Rattle.section_rows.proofs.SizeLaws.{sizes_long, size_put, hop_fits}
use Rattle.section_rows.proofs.sizes.fill_sizes.Goals as goal

pub loop-k-init : goal.loop-k-init
loop-k-init c es e =
    let n : length (sizes_of es) ≤ length c.args.places.now = omega (arith, sizes_long e, places_count nodes c.args.roles.now c.requires.0) in drop_of_length-le c.args.sizes.now {i = length c.args.places.now} (omega arith) ∙ sym (drop_of_length-le (sizes_of es) {i = length c.args.places.now} n)

pub bounds-roles-places : goal.bounds-roles-places
bounds-roles-places c =
    (place_at_lem nodes c.args.roles.now c.requires.0 (c.loop-k.k - 1) (omega arith)).inside

pub overflow_cast-sizes : goal.overflow_cast-sizes
overflow_cast-sizes c =
    let l = c.loop-k in
    let n : l.k - 1 + 1 ≡ l.k = omega arith in
    omega (arith, c.hop-size.ensures, hop_fits c.args.roles.now l.sizes (l.k - 1 + 1) c.arity.result (λ es e. rw n (l.invariant es e)))

pub overflow_add-size : goal.overflow_add-size
overflow_add-size c =
    omega (arith, overflow_cast-sizes c)

pub loop-k-preserved : goal.loop-k-preserved
loop-k-preserved c es e =
    let l = c.loop-k in
    let n : l.k - 1 + 1 ≡ l.k = omega arith in
    let z = place_at_lem nodes c.args.roles.now c.requires.0 (l.k - 1) (omega arith) in
    size_put e z l.sizes (omega arith) (rw n (l.invariant es e)) c.arity.ensures.0 c.hop-size.ensures

pub returns : goal.returns
returns c es e =
    let z : c.loop-k.k ≡ 0 = omega arith in rw z at (c.loop-k.invariant es e)
