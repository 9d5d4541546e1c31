use mathlib.Core.Path.{◌≡◌}
use Prim.Native.Nat.{◌-◌}
use native.Mathlib.Omega.{arith}
use lib.ListN.{get_or, drop}
use Rattle.std.proofs.Common.{rules}
use Rattle.token_words.proofs.TokenLaws.{hop_done, hop_part}
use Rattle.token_words.proofs.node.hop.Goals as goal

pub loop-j-init : goal.loop-j-init
loop-j-init c =
    let z : c.args.parts - 0 ≡ c.args.parts = omega arith in (omega arith, omega arith, rw z)

pub loop-j-preserved : goal.loop-j-preserved
loop-j-preserved c =
    let s : c.unwrap_or.result ≡ get_or c.args.sizes.now c.loop-j.at 0 = search rules in
    (omega arith, omega arith, omega (arith, hop_part c.args.sizes.now c.loop-j.at c.unwrap_or.result c.args.parts c.loop-j._j s (omega arith)))

pub returns : goal.returns
returns c =
    omega (arith, hop_done (drop c.loop-j.at c.args.sizes.now) c.args.parts c.loop-j._j (omega arith))
