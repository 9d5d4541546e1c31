use Rattle.names.proofs.ranks.link_slot.Goals as goal

pub returns : goal.returns
returns c =
    rw c.bucket_of-bucket.ensures.0
