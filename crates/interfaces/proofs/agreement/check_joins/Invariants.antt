use Rattle.script.specs.declared.Section.TheVariants.{Interfaces as interfaces, Signatures as signatures}
use Rattle.script.specs.Section.{count_of, record_word}
use Rattle.members.specs.Lookup.{join_by}
use Rattle.interfaces.proofs.AgreementLaws.{LowestOf}
use Rattle.interfaces.proofs.agreement.check_joins.Given as goal

abbrev pub invariant-loop-k : goal.invariant-loop-k
invariant-loop-k l =
    let s = l.script.bytes.now in
    LowestOf (λ j. join_by s (record_word s signatures j 0)) l.k (count_of s interfaces) l.fault
