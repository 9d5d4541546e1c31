use native.Mathlib.Omega.{arith}
use Rattle.start_call.proofs.Initial.{started}
use Rattle.start_call.proofs.write_initial.Goals as goal

pub returns : goal.returns
returns c =
    let put_count = c.put_count in
    let put = c.put in
    let clear = c.clear in
    rw (put_count.ensures, put.ensures) (started c.args.block.now _ (omega arith) clear.ensures)
