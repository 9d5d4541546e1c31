use Rattle.check_call.proofs.CheckReplies.{lent}
use Rattle.check_call.proofs.ask_script.Goals as goal

pub verdict_of-requires : goal.verdict_of-requires
verdict_of-requires c =
    lent
