use Rattle.std.proofs.Common.{◌≡◌, ◌-◌, ◌<◌, true, length, get_or}
use Rattle.declarations.specs.Declaring.{type_named}
use Rattle.declarations.proofs.Asking.{Asking}
use Rattle.declarations.proofs.first_nowhere.Given as goal

abbrev pub invariant-loop-i : goal.invariant-loop-i
invariant-loop-i g l =
    let k = l.linked.tokens in
    Asking k.text.bytes.now k.roles.now k.offsets.now l.table (length k.roles.now) l.initial.values l.values l.i
    × (l.i < length k.roles.now → type_named (get_or k.roles.now l.i 0) ≡ true)

abbrev pub decreases-loop-i : goal.decreases-loop-i
decreases-loop-i g l = length l.linked.tokens.roles.now - l.i
