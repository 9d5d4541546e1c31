-- Published steps are reached, on bytes.
use mathlib.Core.Path.{◌≡◌, refl, ap}
use mathlib.Core.Bool.{false}
use mathlib.Core.List.{List, [], ◌∷◌, ◌++◌}
use mathlib.Core.Logic.{◌⊎◌, inl, inr, ⊎_elim}
use Prim.Native.Nat.{ℕ, suc, ◌<◌, ◌≤◌}
use native.Mathlib.Omega.{arith}
use lib.ListN.{length, get_or, length-append}
use Rattle.limits.specs.Limits.{CHOICES}
use Rattle.std.specs.declared.result.Result.TheVariants.{Ok}
use Rattle.typing.specs.Check.{check_of}
use Rattle.machine.specs.declared.Store.{Store}
use Rattle.machine.specs.declared.Stop.TheVariants.{Full}
use Rattle.machine.specs.Stops.{stop_number}
use Rattle.machine.specs.Config.{Config, code_of}
use Rattle.machine.specs.Machine.{limits, full, Path, move, part}
use Rattle.published.specs.ReadAs.{Reading, reading, Steps}
use Rattle.machine.specs.Silent.{quiet_in}
use Rattle.machine.specs.Runs.{report}
use Rattle.published.specs.Reach.{site, OneRun}
use Rattle.published.proofs.Reached.{steps_reached}
use Rattle.calls.specs.Answers.{Holds, ReachedBy}
use Rattle.calls.proofs.Answers.{accepts}
use Rattle.calls.proofs.Replies.{run_reply, run_holds}

module _ (s : List ℕ) (bytes : (i : ℕ) → get_or s i 0 < 256) (t : ℕ) (acc : check_of s ≡ Ok t) where
  reached_by : {b : List ℕ} {c : Config} {q : Reading} {p : Path} → Holds s t b c → OneRun (code_of s) limits c q p → ReachedBy s t b c q p
  reached_by {b} {c} {q} {p} h r =
      let ns = r.silent ++ (r.last ∷ []) in
      record {
        by = r;
        choices = r.silent ++ (r.last ∷ []);
        are = refl;
        few = few;
        positions = λ n m. omega (arith, r.bytes n m);
        config = (report (code_of s) limits c ns).config;
        holds = run_holds s bytes t acc h ns few;
        ends =
            rw (run_reply s bytes t acc h ns few)
            (⊎_elim (λ (z : (k : Store) × ((report (code_of s) limits c ns).stop ≡ Full k) × (move (code_of s) limits r.middle p ≡ full k)). inl (z.0, ap stop_number z.1, z.2))
            (λ (z : ((report (code_of s) limits c ns).moves ≡ suc (length r.silent)) × (reading (code_of s) (report (code_of s) limits c ns).config ≡ q) × (quiet_in (code_of s) (part r.middle.tree p) ≡ false)).
            inr (omega (arith, z.0, many), z.1))
            r.ends);
      }
    where
      many : length (r.silent ++ (r.last ∷ [])) ≡ suc (length r.silent)
      many = omega (arith, length-append r.silent (r.last ∷ []))

      few : length (r.silent ++ (r.last ∷ [])) ≤ CHOICES
      few = omega (arith, many, r.short)

  -- For each published step open from the reading of a well-formed block, one Run makes silent moves and then that step, all where the step is made, unless a store has too few places left for one of them.
  pub steps_reached_bytes : {b : List ℕ} {c : Config} {q : Reading} → Holds s t b c → (k : Steps (code_of s).program (reading (code_of s) c) q) → ReachedBy s t b c q (site k)
  steps_reached_bytes h k = reached_by h (steps_reached (accepts s bytes t acc) limits h.well k)
