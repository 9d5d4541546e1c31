use Rattle.interfaces.proofs.AgreementLaws.{all_meanings}
use Rattle.interfaces.proofs.agreement.lowest_for.Goals as goal

pub lowest_join-requires : goal.lowest_join-requires
lowest_join-requires c =
    let h = all_meanings _ _ _ _ c.count_of-n.ensures.0 c.meanings.ensures in (record { name = c.args.m; meanings = h }, c.requires)

pub returns : goal.returns
returns c =
    c.lowest_join.ensures _ (all_meanings _ _ _ _ c.count_of-n.ensures.0 c.meanings.ensures)
