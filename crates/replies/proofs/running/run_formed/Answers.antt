use Rattle.replies.proofs.RunBlockLaws as laws
use Rattle.replies.proofs.running.run_formed.Goals as goal

pub run_choices-ran-requires : goal.run_choices-ran-requires
run_choices-ran-requires c =
    record { blank = (c.requires.0, laws.run_block_standing c.requires.1); choices_len_bound = c.requires.2 }

pub returns : goal.returns
returns c =
    λ x. laws.replied x _ (c.run_choices-ran.ensures.ran_as (laws.run_block_standing x)) _ c.stop_number.ensures
