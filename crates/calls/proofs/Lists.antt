-- Demand 3, one claim about a list of calls on bytes.
use mathlib.Core.Path.{◌≡◌, refl}
use mathlib.Core.List.{List}
use Prim.Native.Nat.{ℕ, suc, ◌<◌, ◌≤◌}
use native.Mathlib.Omega.{arith}
use native.Mathlib.Decide.{dec_le}
use mathlib.Core.Option.{Option}
use lib.ListN.{length, get_or, take}
use lib.Seq.{length-take-le, take-length}
use Rattle.limits.specs.Limits.{CHOICES}
use Rattle.std.specs.declared.result.Result.TheVariants.{Ok}
use Rattle.typing.specs.Check.{check_of}
use Rattle.machine.specs.declared.Store.{Store}
use Rattle.machine.specs.declared.Store.TheVariants.{Objects, Bindings, Frames, Threads}
use Rattle.machine.specs.declared.Ending.TheVariants.{Finished, Failed, Deadlocked}
use Rattle.machine.specs.declared.Stop.{Stop}
use Rattle.machine.specs.Stops.{store_number, stop_number}
use Rattle.machine.specs.Config.{Code, Config, code_of}
use Rattle.machine.specs.Machine.{field_count, limits, initial}
use Rattle.machine.specs.Promise.{Kept, FailsOnNull}
use Rattle.machine.specs.Runs.{report, StopMeans, spent, at_end, no_places}
use Rattle.soundness.proofs.Run.{run_read, run_leaves}
use Rattle.soundness.proofs.Promise.{promised, run_keeps, kept_same, kept_then}
use Rattle.soundness.proofs.Between.{next_fails, start_fails, more_keeps}
use Rattle.block.proofs.Decode.{one_config}
use Rattle.calls.specs.Calls.{run_of}
use Rattle.calls.specs.Answers.{Holds}
use Rattle.calls.specs.Lists.{Lent, to_start, to_offer, to_run, block_after, NotToStart, Comes, at_first, after_call, Has, before_call, between_moves, Later, past_block, in_one_run, past_run, Next, one_choice, one_start, ClaimedOf, OfBoth, StopSays, says_spent, says_finished, says_failed, says_deadlocked, says_full, StopOf, DemandThreeOf}
use Rattle.calls.proofs.Answers.{accepts, holds_fits}
use Rattle.calls.proofs.Replies.{offer_keeps, holds_long, holds_small, start_writes, run_reply, run_holds, run_too_long}

-- what the number of a stop says
store_numbers : (k : Store) → (4 ≤ store_number k) × (store_number k ≤ 7)
store_numbers Objects = (omega arith, omega arith)
store_numbers Bindings = (omega arith, omega arith)
store_numbers Frames = (omega arith, omega arith)
store_numbers Threads = (omega arith, omega arith)

says : {s : Code} {c : Config} {j : Stop} → StopMeans s limits c j → StopSays s c (stop_number j)
says (spent m) = says_spent m
says (at_end {k = Finished} e n) = says_finished n e
says (at_end {k = Failed} e n) = says_failed n e
says (at_end {k = Deadlocked} e n) = says_deadlocked n e
says (no_places {k = k} n e) = says_full (store_numbers k).0 (store_numbers k).1 (record { position = n; can = λ i. let z : ◌≡◌ {A = ℕ} 0 1 = cc in omega arith })

module _ (s : List ℕ) (bytes : (i : ℕ) → get_or s i 0 < 256) (t : ℕ) (acc : check_of s ≡ Ok t) where
  -- A Run reads none of too many choices, so there is one point between its moves, the block itself.
  few_read : {b : List ℕ} {c : Config} → Holds s t b c → (ns : List ℕ) (n : ℕ) → n ≤ (run_of s b ns).read → length (take n ns) ≤ CHOICES
  few_read {b} {c} h ns n l = go (dec_le (length ns) CHOICES)
    where
      go : Dec (length ns ≤ CHOICES) → length (take n ns) ≤ CHOICES
      go (yes k) =
          let z : n ≤ length ns = omega (arith, run_read (code_of s) limits ns c, rw (run_reply s bytes t acc h ns k) at l) in
          omega (arith, length-take-le n ns z)
      go (no k) =
          let z : n ≤ 0 = rw (run_too_long s bytes t acc b ns (holds_long s bytes t acc h) (omega arith)) at l in
          omega (arith, length-take-le n ns (omega arith))

  point_holds : {b : List ℕ} {c : Config} → Holds s t b c → (ns : List ℕ) (n : ℕ) → n ≤ (run_of s b ns).read
      → Holds s t (run_of s b (take n ns)).block (report (code_of s) limits c (take n ns)).config
  point_holds h ns n l = run_holds s bytes t acc h (take n ns) (few_read h ns n l)

  -- And what it leaves is what it leaves with as many choices as it has read, or more.
  run_whole : {b : List ℕ} {c : Config} → Holds s t b c → (ns : List ℕ)
      → (n : ℕ) × ((run_of s b ns).read ≤ n) × Holds s t (run_of s b ns).block (report (code_of s) limits c (take n ns)).config
  unfolding report
  run_whole {b} {c} h ns = go (dec_le (length ns) CHOICES)
    where
      go : Dec (length ns ≤ CHOICES) → (n : ℕ) × ((run_of s b ns).read ≤ n) × Holds s t (run_of s b ns).block (report (code_of s) limits c (take n ns)).config
      go (yes k) = (length ns, rw (run_reply s bytes t acc h ns k) (run_read (code_of s) limits ns c), rw (take-length ns) (run_holds s bytes t acc h ns k))
      go (no k) = rw (run_too_long s bytes t acc b ns (holds_long s bytes t acc h) (omega arith)) (0, omega arith, h)

  call_holds : {b : List ℕ} {c : Config} → Holds s t b c → (call : Lent) → (d : Config) × Holds s t (block_after s b call) d × (NotToStart call → Kept c d)
  call_holds {b} h to_start = (initial, start_writes s bytes t acc b (holds_long s bytes t acc h), λ u. absurd u)
  call_holds {b} {c} h (to_offer fl) = (c, rw (offer_keeps s b fl) h, λ u. kept_same c)
  call_holds {c = c} h (to_run ns) =
      let r = run_whole h ns in
      ((report (code_of s) limits c (take r.0 ns)).config, r.2, λ u. run_keeps (accepts s bytes t acc) limits (take r.0 ns) c h.well)

  -- A block that the list comes to holds a configuration, with the objects and bindings of the first if no Start is gone past; and so does each point between moves.
  comes_holds : {Past : Lent → Type 0} {b d : List ℕ} {c : Config} {calls rest : List Lent} → Holds s t b c → Comes s Past b calls d rest
      → (x : Config) × Holds s t d x × (((call : Lent) → Past call → NotToStart call) → Kept c x)
  comes_holds {c = c} h at_first = (c, h, λ f. kept_same c)
  comes_holds h (after_call call u k) =
      let q = call_holds h call in
      let r = comes_holds q.1 k in
      (r.0, r.1, λ f. kept_then (q.2 (f call u)) (r.2 f))

  has_holds : {b e : List ℕ} {c : Config} {calls : List Lent} → Holds s t b c → Has s b calls e → (d : Config) × Holds s t e d × Kept c d
  has_holds {c = c} h before_call = (c, h, kept_same c)
  has_holds {c = c} h (between_moves ns n l) =
      ((report (code_of s) limits c (take n ns)).config, point_holds h ns n l, run_keeps (accepts s bytes t acc) limits (take n ns) c h.well)

  -- and no object or binding is lost up to there
  past_holds : {b x e : List ℕ} {c : Config} {calls rest : List Lent} → Holds s t b c → Comes s NotToStart b calls x rest → Has s x rest e
      → (d : Config) × Holds s t e d × Kept c d
  past_holds h k i =
      let q = comes_holds h k in
      let r = has_holds q.1 i in
      (r.0, r.1, kept_then (q.2 (λ call u. u)) r.2)

  claimed : {d : Config} {e : List ℕ} → Holds s t e d → ClaimedOf s t e
  claimed {d} h =
      record {
        config = d;
        holds = h;
        promised = promised (accepts s bytes t acc) limits h.well;
        stops = λ ns. run_leaves (accepts s bytes t acc) limits ns d h.well;
        long = holds_long s bytes t acc h;
        small = holds_small s bytes t acc h;
      }

  same_config : {b : List ℕ} {x y : Config} → Holds s t b x → Holds s t b y → x ≡ y
  same_config {x = x} {y = y} h k = one_config (field_count s) x y (holds_fits s bytes t acc h) (holds_fits s bytes t acc k) (cc (h.is, k.is))

  of_both : {Said : Config → Config → Type 0} {d e : List ℕ} {x y : Config} → Holds s t d x → Holds s t e y → Said x y → OfBoth s t Said d e
  of_both {x = x} {y = y} h k r =
      record {
        earlier = record { config = x; holds = h };
        later = record { config = y; holds = k };
        said = λ i j. rw (same_config h i, same_config k j) at r;
      }

  later_keeps : {b d e : List ℕ} {c : Config} {calls : List Lent} → Holds s t b c → Later s b calls d e → OfBoth s t Kept d e
  later_keeps h (past_block k i) = let r = past_holds h k i in of_both h r.1 r.2
  later_keeps {c = c} h (in_one_run ns m n k l) =
      of_both (point_holds h ns m (omega arith)) (point_holds h ns n l) (more_keeps (accepts s bytes t acc) m n ns c k h.well)
  later_keeps {c = c} h (past_run ns m l k i) =
      let q = run_whole h ns in
      let r = past_holds q.2 k i in
      of_both (point_holds h ns m l) r.1 (kept_then (more_keeps (accepts s bytes t acc) m q.0 ns c (omega (arith, q.1)) h.well) r.2)

  next_on_null : {b d e : List ℕ} {o : Option ℕ} {c : Config} {calls : List Lent} → Holds s t b c → Next s b calls d o e → OfBoth s t (FailsOnNull (code_of s) o) d e
  next_on_null {c = c} h (one_choice ns n l) = of_both (point_holds h ns n (omega arith)) (point_holds h ns (suc n) l) (next_fails (code_of s) n ns c)
  next_on_null {b} {c = c} h one_start = of_both h (start_writes s bytes t acc b (holds_long s bytes t acc h)) (start_fails (code_of s) c)

  -- A Run that is not refused stops as the machine does.
  run_stops : {b : List ℕ} {c : Config} → Holds s t b c → (ns : List ℕ) → (run_of s b ns).number ≡ 0 → StopOf s t (run_of s b ns)
  run_stops {b} {c} h ns z = go (dec_le (length ns) CHOICES)
    where
      go : Dec (length ns ≤ CHOICES) → StopOf s t (run_of s b ns)
      go (yes e) =
          let k = run_leaves (accepts s bytes t acc) limits ns c h.well in
          rw (run_reply s bytes t acc h ns e) (record { config = (report (code_of s) limits c ns).config; holds = record { is = refl; well = k.formed }; says = says k.means })
      go (no e) = absurd (omega (arith, rw (run_too_long s bytes t acc b ns (holds_long s bytes t acc h) (omega arith)) at z))

  -- For every script that Check accepts, every block well formed for it, every list of Start, Offer and Run calls with that script on that block: the claim holds at the
  -- first block, at every point between moves, and after every call; of every two such points with no Start between; of every two that are neighbours; and of every Run.
  pub demand_three_bytes : {b : List ℕ} {c : Config} (calls : List Lent) → Holds s t b c → DemandThreeOf s t b calls
  demand_three_bytes calls h =
      record {
        claimed = λ k i. claimed (has_holds (comes_holds h k).1 i).1;
        kept = λ k i. later_keeps (comes_holds h k).1 i;
        fails = λ k i. next_on_null (comes_holds h k).1 i;
        stops = λ k z. run_stops (comes_holds h k).1 _ z;
      }
