use Prim.Native.Nat.{◌+◌, ◌<◌, ◌≤◌}
use mathlib.Core.Path.{◌≡◌}
use native.Mathlib.Omega.{arith}
use lib.ListN.{get_or, length}
use Rattle.std.proofs.Common.{rules}
use Rattle.bounds.proofs.Outside.{digits, neither, unfollowed, minus}
use Rattle.bounds.proofs.records.is_outside.Goals as goal

pub returns-in-26 : goal.returns-in-26
returns-in-26 c ls s =
    digits _ _ _ ls s _ c.requires _ c.in-26.is c.magnitude_at.ensures

pub returns-in-Some : goal.returns-in-Some
returns-in-Some c ls s =
    let l : c.args.i + 1 < length c.args.tokens.now.offsets.now = search rules in
    let o : c.in-Some.at.now ≡ get_or c.args.tokens.now.offsets.now (c.args.i + 1) 0 = search rules in
    minus _ _ _ ls s _ c.requires _ c.in-29.is (omega arith) (rw o at c.magnitude_at-in-Some.ensures)

pub returns-in-None : goal.returns-in-None
returns-in-None c ls s =
    let l : length c.args.tokens.now.offsets.now ≤ c.args.i + 1 = search rules in
    unfollowed _ _ _ ls s _ c.requires c.in-29.is (omega arith)

pub returns-in_default : goal.returns-in_default
returns-in_default c ls s =
    neither _ _ _ ls s _ c.requires (λ e. omega arith) (λ e. omega arith)
