use Rattle.std.proofs.Common.{◌-◌, length}
use Rattle.numbering.specs.Numbers.{role_test}
use Rattle.numbering.proofs.NumberLaws.{Going}
use Rattle.numbering.proofs.number_names.Given as goal

abbrev pub invariant-loop-i : goal.invariant-loop-i
invariant-loop-i g l =
    let k = l.linked.tokens in Going (role_test l.sort) k.text.bytes.now k.roles.now k.offsets.now l.initial.values (length k.roles.now) l.values l.table l.i

abbrev pub decreases-loop-i : goal.decreases-loop-i
decreases-loop-i g l = length l.linked.tokens.roles.now - l.i
