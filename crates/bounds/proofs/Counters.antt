-- Six counters in a list: room for one more, and one more.
use mathlib.Core.Path.{◌≡◌, sym}
use mathlib.Core.Bool.{false}
use mathlib.Core.List.{List}
use Prim.Native.Nat.{ℕ, ◌+◌, ◌≤◌, ◌<◌}
use native.Mathlib.Omega.{arith}
use lib.Dec.{leb}
use lib.ListN.{length, get_or, set}
use lib.Seq.{set_out}
use borrow.Author.Tests.{lt-ltb, le-ltb}
use Rattle.std.proofs.Common.{Option, Some, None}
use Rattle.script.specs.declared.Section.{Section}
use Rattle.bounds.specs.Counting.{SECTIONS, mosts, full_test, entry_begun}
use Rattle.bounds.proofs.Pass.{entry_below}

module _ (counts : List ℕ) (entry : ℕ) where
  pub no_section : entry ≡ SECTIONS → false ≡ full_test counts entry
  unfolding full_test
  no_section h = rw (le-ltb entry SECTIONS (omega arith))

  pub a_section : entry < SECTIONS → leb (get_or mosts entry 0) (get_or counts entry 0) ≡ full_test counts entry
  unfolding full_test
  a_section l = rw (lt-ltb entry SECTIONS l)

  pub none_counted : length counts ≡ SECTIONS → SECTIONS ≤ entry → counts ≡ set counts entry (get_or counts entry 0 + 1)
  none_counted l h = sym (set_out counts entry (get_or counts entry 0 + 1) (omega arith))

pub entry_upto : (o : Option Section) → entry_begun o ≤ SECTIONS
entry_upto (Some k) = omega (arith, entry_below k)
entry_upto None = omega arith
