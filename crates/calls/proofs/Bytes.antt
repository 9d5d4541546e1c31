-- Lengths and bytes are kept by every call.
use mathlib.Core.Path.{◌≡◌, refl, sym, ◌∙◌}
use mathlib.Core.Bool.{Bool, true, false}
use mathlib.Core.List.{List}
use Prim.Native.Nat.{ℕ, ◌<◌}
use native.Mathlib.Omega.{arith}
use lib.ListN.{length, get_or}
use Rattle.limits.specs.Limits.{BLOCK, FLAGS}
use Rattle.script.specs.Lists.{◌∈◌}
use Rattle.script.proofs.Lists.{length_run, in_run}
use Rattle.std.specs.declared.result.Result.TheVariants.{Ok}
use Rattle.typing.specs.Check.{check_of}
use Rattle.machine.specs.Config.{Config, code_of}
use Rattle.machine.specs.Machine.{one_if, limits, can_move}
use Rattle.soundness.proofs.Positions.{initial_well}
use Rattle.soundness.proofs.Run.{run_leaves}
use Rattle.calls.specs.Calls.{Started, Offered, Ran, start_of, flags_of, offer_of, run_of}
use Rattle.calls.specs.Answers.{Holds, StartAnswers, start_refused, started, OfferAnswers, offer_refused, offered, RunAnswers, run_refused, has_run, KeepsBytes}
use Rattle.calls.proofs.Answers.{accepts, start_answers, offer_answers, run_answers}
use Rattle.calls.proofs.Replies.{holds_long, holds_small}

-- Every call, refused or not, leaves each buffer as long as it was and with bytes in it.
module _ (s : List ℕ) (bytes : (i : ℕ) → get_or s i 0 < 256) where
  bytes_same : (b : List ℕ) → KeepsBytes b b
  bytes_same b = record { long = refl; small = λ h. h }

  holds_bytes : (t : ℕ) → check_of s ≡ Ok t → {b e : List ℕ} {c : Config} → length b ≡ BLOCK → Holds s t e c → KeepsBytes b e
  holds_bytes t acc l h = record { long = holds_long s bytes t acc h ∙ sym l; small = λ k. holds_small s bytes t acc h }

  flags_small : (c : Config) (x : ℕ) → x ∈ flags_of s c → x < 256
  unfolding flags_of
  flags_small c x m = let i = in_run (λ n. one_if (can_move (code_of s) limits c n)) 0 FLAGS x m in rw i.is (go (can_move (code_of s) limits c i.index))
    where
      go : (a : Bool) → one_if a < 256
      go true = omega arith
      go false = omega arith

  start_kept : (b : List ℕ) (r : Started) → StartAnswers s b r → KeepsBytes b r.block
  start_kept b _ (start_refused x) = bytes_same b
  start_kept b _ (started {t = t} acc l) = holds_bytes t acc l (record { is = refl; well = initial_well (accepts s bytes t acc) })

  offer_kept : (b fl : List ℕ) (r : Offered) → OfferAnswers s b fl r → KeepsBytes fl r.flags
  unfolding flags_of
  offer_kept b fl _ (offer_refused x) = bytes_same fl
  offer_kept b fl _ (offered {c = c} acc l h) = record { long = length_run _ 0 FLAGS ∙ sym l; small = λ k. flags_small c }

  run_kept : (b ns : List ℕ) (r : Ran) → RunAnswers s b ns r → KeepsBytes b r.block
  run_kept b ns _ (run_refused x) = bytes_same b
  run_kept b ns _ (has_run {t = t} {c = c} acc l h) =
      holds_bytes t acc (holds_long s bytes t acc h) (record { is = refl; well = (run_leaves (accepts s bytes t acc) limits ns c h.well).formed })

  pub start_bytes : (b : List ℕ) → KeepsBytes b (start_of s b).block
  start_bytes b = start_kept b (start_of s b) (start_answers s b)

  pub offer_bytes : (b fl : List ℕ) → KeepsBytes fl (offer_of s b fl).flags
  offer_bytes b fl = offer_kept b fl (offer_of s b fl) (offer_answers s bytes b fl)

  pub run_bytes : (b ns : List ℕ) → KeepsBytes b (run_of s b ns).block
  run_bytes b ns = run_kept b ns (run_of s b ns) (run_answers s bytes b ns)
