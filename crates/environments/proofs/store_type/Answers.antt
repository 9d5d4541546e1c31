use Rattle.environments.proofs.TableLaws as laws
use Rattle.environments.proofs.store_type.Goals as goal

pub returns-in_default : goal.returns-in_default
returns-in_default c =
    laws.noted_absent _ _ _ _ c.rank_of.ensures c.in_default.is

pub returns-else-table-i-eq0 : goal.returns-else-table-i-eq0
returns-else-table-i-eq0 c =
    laws.noted_before c.requires.1 _ _ _ _ (laws.ranked_at _ _ _ c.rank_of.ensures c.in-Some.is) c.if-table-i-eq0.false
