-- What Run replies and leaves, after each of its answers.
use Prim.Native.Nat.{ℕ, ◌<◌, ◌≤◌}
use mathlib.Core.Path.{◌≡◌, refl}
use mathlib.Core.List.{List}
use lib.ListN.{length}
use borrow.Author.Tests.{eq-eqb, ne_eqb, le-leb, lt-leb}
use Rattle.limits.specs.Limits.{BLOCK, CHOICES}
use Rattle.std.specs.declared.result.Result.TheVariants.{Ok, Err}
use Rattle.typing.specs.Answers.{Verdict}
use Rattle.typing.specs.Check.{check_of}
use Rattle.script.specs.declared.Refusal.{Refusal}
use Rattle.script.specs.Asking.{number_of}
use Rattle.calls.specs.declared.LentQuestion.TheVariants.{BlockLength, BufferLength}
use Rattle.calls.specs.Calls.{lent_number, parts_asked, block_asked, ran_from, run_of}
use Rattle.c_replies.specs.declared.run.RunReply.{RunReply}
use Rattle.calls.specs.declared.LentQuestion.{LentQuestion}
use Rattle.std.specs.declared.result.Result.{Result}
use Rattle.replies.specs.declared.Played.{Played}
use Rattle.replies.specs.RunResults.{Replied, refusal_number, numbers_of}
use Rattle.replies.proofs.Standing.{parts_place}

module _ (s b ns : List ℕ) where
  abbrev pub RunSays : RunReply → List ℕ → Type 0
  RunSays r after =
      (r.number ≡ (run_of s b ns).number) × ((r.place ≡ (run_of s b ns).place) × ((r.stop ≡ (run_of s b ns).stop) × ((r.read ≡ (run_of s b ns).read) × ((r.moves ≡ (run_of s b ns).moves) × (after ≡ (run_of s b ns).block)))))

  -- a refusal of these numbers
  abbrev Refused : ℕ → ℕ → RunReply
  Refused number place = record { number = number; place = place; stop = 0; read = 0; moves = 0 }

  pub run_script_refused : (r : RunReply) {no : Refusal} → r ≡ Refused (number_of no.question) no.place → ◌≡◌ {A = Verdict} (Err no) (check_of s) → RunSays r b
  unfolding run_of block_asked
  run_script_refused r e v = rw (e, ← v) (refl, (refl, (refl, (refl, (refl, refl)))))

  module _ (t : ℕ) (acc : check_of s ≡ Ok t) where
    pub run_block_refused : (r : RunReply) → r ≡ Refused (lent_number BlockLength) 0 → (length b ≡ BLOCK → ⊥) → RunSays r b
    unfolding run_of block_asked
    run_block_refused r e ne = rw (e, acc, ne_eqb _ _ ne) (refl, (refl, (refl, (refl, (refl, refl)))))

    module _ (long : length b ≡ BLOCK) where
      pub run_choices_refused : (r : RunReply) → r ≡ Refused (lent_number BufferLength) 0 → CHOICES < length ns → RunSays r b
      unfolding run_of block_asked
      run_choices_refused r e l = rw (e, acc, eq-eqb _ _ long, lt-leb _ _ l) (refl, (refl, (refl, (refl, (refl, refl)))))

      asked : length ns ≤ CHOICES → run_of s b ns ≡ ran_from s b ns (parts_asked s t b)
      unfolding run_of block_asked
      asked few = rw (acc, eq-eqb _ _ long, le-leb _ _ few)

      -- a part is bad, at place 0, or all are sound
      pub run_part : {after : List ℕ} (r : RunReply) (p : Result Played LentQuestion)
          → r ≡ record { number = refusal_number p; place = 0; stop = (numbers_of p).stop; read = (numbers_of p).read; moves = (numbers_of p).moves }
          → length ns ≤ CHOICES → {array : List ℕ} → array ≡ b → Replied (ran_from s array ns (parts_asked s t array)) after p → RunSays r after
      run_part r p e few same told =
          let h = rw same at told in
          rw (e, asked few) (h.number, (parts_place s t b (λ q. (ran_from s b ns q).place) (λ m. refl) (λ c. refl), (h.stop, (h.read, (h.moves, h.block)))))
