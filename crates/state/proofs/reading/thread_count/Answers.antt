use native.Mathlib.Omega.{arith}
use Rattle.state.proofs.Glue.{positions_threads}
use Rattle.state.proofs.reading.thread_count.Goals as goal

pub returns : goal.returns
returns c =
    record { exact = λ x h. omega (arith, c.count.ensures.0, positions_threads h); room = omega (arith, c.count.ensures.0) }
