-- The promise holds of every script of bytes.
use Prim.Native.Nat.{ℕ, ◌<◌}
use mathlib.Core.List.{List}
use lib.ListN.{get_or}
use Rattle.typing.proofs.Exact.{exact, outside_refused, refused_exact}
use Rattle.machine.specs.Machine.{limits}
use Rattle.published.proofs.Traces.{silent_bound, initial_reads}
use Rattle.parts.proofs.ByBytes.{by_bytes}
use Rattle.calls.specs.Promise.{Promise}
use Rattle.calls.proofs.Answers.{accepts, check_answers, start_answers, offer_answers, run_answers}
use Rattle.calls.proofs.Parts.{parts_stand}
use Rattle.calls.proofs.Which.{which_part_offer, which_part_run}
use Rattle.calls.proofs.Replies.{start_writes}
use Rattle.calls.proofs.Runs.{run_left, run_trace_bytes}
use Rattle.calls.proofs.Reached.{steps_reached_bytes}
use Rattle.calls.proofs.Counts.{silent_answers, largest_count, counts_row, counted_run}
use Rattle.calls.proofs.Lists.{demand_three_bytes}

pub promise : (s : List ℕ) → ((i : ℕ) → get_or s i 0 < 256) → Promise s
promise s bytes =
    record {
      one =
          record {
            refused = refused_exact s;
            check = check_answers s;
            silent = silent_answers s;
            most = λ acc. largest_count s bytes acc;
            start = start_answers s;
            offer = offer_answers s bytes;
            run = run_answers s bytes;
            parts = λ acc. parts_stand acc;
            offer_part = λ acc b fl. which_part_offer s bytes acc b fl;
            run_part = λ acc b ns. which_part_run s bytes acc b ns;
            bytes = by_bytes s;
          };
      two =
          record {
            accepted = exact s;
            within = outside_refused s;
            begins = λ t acc b l. (start_writes s bytes t acc b l, initial_reads (accepts s bytes t acc));
            runs = run_left s bytes;
            moves = run_trace_bytes s bytes;
            silent = λ acc h r p o. silent_bound (accepts s bytes _ acc) limits p h.well.formed r o;
            counts = λ acc h r p o i. counts_row s bytes acc h p i r o;
            counted = λ acc h k p l i. counted_run s bytes acc h p i k l;
            reached = λ acc h k. steps_reached_bytes s bytes _ acc h k;
          };
      three = λ acc x calls. demand_three_bytes s bytes _ acc calls x.holds;
    }
