-- A Run has ended exactly when Offer, on the block that it leaves, marks nothing.
use mathlib.Core.Path.{◌≡◌, refl, sym, ap, ◌∙◌}
use mathlib.Core.Bool.{false}
use mathlib.Core.List.{List}
use Prim.Native.Nat.{ℕ, ◌-◌, ◌<◌}
use native.Mathlib.Omega.{arith}
use lib.ListN.{length, get_or}
use Rattle.limits.specs.Limits.{FLAGS}
use Rattle.std.specs.declared.result.Result.TheVariants.{Ok}
use Rattle.typing.specs.Check.{check_of}
use Rattle.machine.specs.declared.Ending.{Ending}
use Rattle.machine.specs.Stops.{ending_number}
use Rattle.machine.specs.Config.{code_of, Config}
use Rattle.machine.specs.Machine.{one_if, limits, Outcome, still, full, moved, choice, able, can_move}
use Rattle.soundness.proofs.Run.{beyond}
use Rattle.soundness.proofs.Positions.{positions}
use Rattle.calls.specs.Calls.{offer_of, run_of}
use Rattle.calls.specs.Answers.{Holds, NotRefused}
use Rattle.calls.proofs.Replies.{flag_is, offer_reply}
use Rattle.calls.proofs.Runs.{none_true, run_ended, ended_run}

unable : (o : Outcome) → able o ≡ false → o ≡ still
unable still e = refl
unable (full k) e = absurd (let z : ◌≡◌ {A = ℕ} 0 1 = cc in omega arith)
unable (moved st t) e = absurd (let z : ◌≡◌ {A = ℕ} 0 1 = cc in omega arith)

module _ (s : List ℕ) (bytes : (i : ℕ) → get_or s i 0 < 256) where
  flags_are : (t : ℕ) → check_of s ≡ Ok t → {b : List ℕ} {c : Config} → Holds s t b c → (fl : List ℕ) → length fl ≡ FLAGS → (n : ℕ) → n < FLAGS
      → get_or (offer_of s b fl).flags n 0 ≡ one_if (can_move (code_of s) limits c n)
  flags_are t acc {b} {c} h fl l n k = flag_is s c (offer_of s b fl).flags (rw (offer_reply s bytes t acc h fl l) refl) n k

  pub stop_marks : {b ns : List ℕ} → NotRefused s b ns → (fl : List ℕ) → length fl ≡ FLAGS → (k : Ending) → (run_of s b ns).stop ≡ ending_number k
      → (n : ℕ) → n < FLAGS → get_or (offer_of s (run_of s b ns).block fl).flags n 0 ≡ 0
  stop_marks x fl l k e n i = flags_are x.type x.accepted x.holds fl l n i ∙ ap (λ (o : Outcome). one_if (able o)) ((run_ended x k e).1 n)

  pub marks_stop : {b ns : List ℕ} → NotRefused s b ns → (fl : List ℕ) → length fl ≡ FLAGS
      → ((n : ℕ) → n < FLAGS → get_or (offer_of s (run_of s b ns).block fl).flags n 0 ≡ 0) → (k : Ending) × ((run_of s b ns).stop ≡ ending_number k)
  marks_stop x fl l h =
      ended_run x (beyond (code_of s) limits x.outcome.config (λ n i. near n (omega (arith, i, positions x.outcome.config.tree, x.holds.well.within.threads))))
    where
      near : (n : ℕ) → n < FLAGS → choice (code_of s) limits x.outcome.config n ≡ still
      near n i =
          unable (choice (code_of s) limits x.outcome.config n)
          (none_true (can_move (code_of s) limits x.outcome.config n) (sym (flags_are x.type x.accepted x.holds fl l n i) ∙ h n i))
