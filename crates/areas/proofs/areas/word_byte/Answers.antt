use Prim.Native.Nat.{◌+◌, ◌*◌, ◌<◌}
use native.Mathlib.Omega.{arith}
use Rattle.block.specs.Layout.{END}
use Rattle.areas.proofs.Laws.{inside}
use Rattle.areas.proofs.areas.word_byte.Goals as goal

pub overflow_mul-result : goal.overflow_mul-result
overflow_mul-result c =
    let place : c.begins_of-at.result + (c.width_of-wide.result * c.args.i + c.args.j) < END = inside c.args.a _ _ _ _ c.begins_of-at.ensures c.width_of-wide.ensures c.requires.0 c.requires.1 in
    omega (arith, place)

pub overflow_add-result : goal.overflow_add-result
overflow_add-result c =
    let place : c.begins_of-at.result + (c.width_of-wide.result * c.args.i + c.args.j) < END = inside c.args.a _ _ _ _ c.begins_of-at.ensures c.width_of-wide.ensures c.requires.0 c.requires.1 in
    omega (arith, place)

pub overflow_add-result-2 : goal.overflow_add-result-2
overflow_add-result-2 c =
    let place : c.begins_of-at.result + (c.width_of-wide.result * c.args.i + c.args.j) < END = inside c.args.a _ _ _ _ c.begins_of-at.ensures c.width_of-wide.ensures c.requires.0 c.requires.1 in
    omega (arith, place)

pub overflow_mul-result-2 : goal.overflow_mul-result-2
overflow_mul-result-2 c =
    let place : c.begins_of-at.result + (c.width_of-wide.result * c.args.i + c.args.j) < END = inside c.args.a _ _ _ _ c.begins_of-at.ensures c.width_of-wide.ensures c.requires.0 c.requires.1 in
    omega (arith, place)

pub returns : goal.returns
returns c =
    let place : c.begins_of-at.result + (c.width_of-wide.result * c.args.i + c.args.j) < END = inside c.args.a _ _ _ _ c.begins_of-at.ensures c.width_of-wide.ensures c.requires.0 c.requires.1 in
    (rw (c.begins_of-at.ensures, c.width_of-wide.ensures), omega (arith, place))
