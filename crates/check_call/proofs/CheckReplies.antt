-- The tables that a call lends to Check.
use lib.ListN.{length-replicate}
use Prim.Native.Nat.{ℕ}
use lib.ListN.{replicate}
use Rattle.subtypes.specs.Tables.{STARTS}
use Rattle.names.specs.Ranks.{FACTS}
use Rattle.checker.specs.Lent.{TablesLent}
use Rattle.checker.proofs.CheckLaws.{new_zeros}

-- New tables can be lent.
pub lent : TablesLent (replicate STARTS 0) (replicate FACTS 0)
lent =
    record {
      runs = length-replicate {A = ℕ} STARTS 0;
      zeros = new_zeros STARTS;
      facts_lent = record { size = length-replicate {A = ℕ} FACTS 0; zeros = new_zeros FACTS };
    }
