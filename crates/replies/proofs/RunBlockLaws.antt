-- The run of a block that holds a configuration.
use mathlib.Core.Path.{◌≡◌, refl, ap, ◌∙◌}
use mathlib.Core.List.{List}
use Prim.Native.Nat.{ℕ, ◌<◌}
use lib.ListN.{get_or}
use Rattle.script.specs.Statements.{WithinLayout}
use Rattle.std.specs.declared.result.Result.TheVariants.{Ok}
use Rattle.typing.specs.Check.{check_of}
use Rattle.machine.specs.Config.{code_of}
use Rattle.machine.specs.Machine.{limits}
use Rattle.machine.specs.Stops.{stop_number}
use Rattle.machine.specs.Runs.{report}
use Rattle.parts.specs.Parts.{config_read}
use Rattle.runs.specs.declared.Ran.{Ran}
use Rattle.enabled.specs.Looks.{Standing}
use Rattle.runs.specs.Reports.{RanAs}
use Rattle.calls.specs.declared.LentQuestion.{LentQuestion}
use Rattle.calls.specs.Calls.{parts_asked, ran, ran_from}
use Rattle.calls.proofs.Fits.{well_fits}
use Rattle.calls.proofs.Answers.{accepts, config_holds}
use Rattle.std.specs.Bool.{⊤}
use Rattle.std.specs.declared.result.Result.{Result}
use Rattle.std.specs.declared.result.Result.TheVariants.{Ok, Err}
use Rattle.wellformed.specs.Examining.{examined_as}
use Rattle.replies.specs.declared.Played.{Played}
use Rattle.replies.specs.RunResults.{Replied, Runnable}
use Rattle.replies.proofs.Standing.{formed}

module _ {s b : List ℕ} (x : Runnable s b) where
  abbrev pub run_block_standing : Standing s b
  run_block_standing =
      record {
        config = x.config;
        type = x.type;
        represents =
            let fit = well_fits s x.within x.holds.well in
            record { block = x.holds.is; few = fit.few; storable = fit.values };
        accepted = x.accepted;
        formed = x.holds.well;
      }

  -- what the run leaves
  pub replied : {after : List ℕ} {q : Ran} (ns : List ℕ) → RanAs (report (code_of s) limits x.config ns) after q → (told : ℕ) → told ≡ stop_number q.stop
      → Replied (ran (report (code_of s) limits x.config ns)) after (Ok (record { stop = told; read = q.read; moves = q.moves }))
  replied ns r told n = record { number = refl; stop = n ∙ ap stop_number r.stop; read = r.read; moves = r.moves; block = r.represents.block }

-- a part is bad, or all are sound
module _ (s b : List ℕ) (t : ℕ) (r : Result ⊤ LentQuestion) (e : parts_asked s t b ≡ examined_as r (config_read s b)) where
  pub result_not : (ns : List ℕ) {q : LentQuestion} → r ≡ Err q → Replied (ran_from s b ns (parts_asked s t b)) b (Err q)
  result_not ns y = rw (e, y) (record { number = refl; stop = refl; read = refl; moves = refl; block = refl })

  pub playable : WithinLayout s → ((i : ℕ) → get_or s i 0 < 256) → check_of s ≡ Ok t → r ≡ (Ok tt) → Runnable s b
  playable w bytes acc y =
      record { within = w; type = t; accepted = accepts s bytes t acc; config = config_read s b; holds = config_holds s bytes t acc b (config_read s b) (formed s t b r e y) }

  pub plays : {after : List ℕ} {p : Played} (ns : List ℕ) → WithinLayout s → ((i : ℕ) → get_or s i 0 < 256) → check_of s ≡ Ok t → r ≡ (Ok tt)
      → ((x : Runnable s b) → Replied (ran (report (code_of s) limits x.config ns)) after (Ok p)) → Replied (ran_from s b ns (parts_asked s t b)) after (Ok p)
  unfolding playable
  plays ns w bytes acc y rep = rw (e, y) (rep (playable w bytes acc y))
