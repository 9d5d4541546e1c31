use Rattle.row_bytes.proofs.WrittenLaws.{pair_put}
use Rattle.row_bytes.proofs.put_pair.Goals as goal

pub returns : goal.returns
returns c =
    pair_put _ _ _ _ c.requires c.put_word.ensures c.put_word-2.ensures
