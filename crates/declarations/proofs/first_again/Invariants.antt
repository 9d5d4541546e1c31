use Rattle.std.proofs.Common.{◌≡◌, ◌-◌, ◌<◌, true, length, get_or}
use Rattle.grammar.specs.Files.{declared_role}
use Rattle.declarations.proofs.Asking.{Counting}
use Rattle.declarations.proofs.first_again.Given as goal

abbrev pub invariant-loop-i : goal.invariant-loop-i
invariant-loop-i l =
    let roles = l.linked.tokens.roles.now in
    Counting roles l.values (length roles) l.seen l.i × (l.i < length roles → declared_role (get_or roles l.i 0) ≡ true)

abbrev pub decreases-loop-i : goal.decreases-loop-i
decreases-loop-i l = length l.linked.tokens.roles.now - l.i
