-- What Start replies and leaves, after each of its answers: the script is refused, the block is refused, the initial block is written.
use Prim.Native.Nat.{ℕ}
use mathlib.Core.Path.{◌≡◌, refl}
use mathlib.Core.List.{List}
use lib.ListN.{length}
use borrow.Author.Tests.{eq-eqb, ne_eqb}
use Rattle.limits.specs.Limits.{BLOCK}
use Rattle.std.specs.declared.result.Result.TheVariants.{Ok, Err}
use Rattle.script.specs.declared.Refusal.{Refusal}
use Rattle.script.specs.Asking.{number_of}
use Rattle.typing.specs.Answers.{Verdict}
use Rattle.typing.specs.Check.{check_of}
use Rattle.machine.specs.Machine.{initial}
use Rattle.block.specs.Block.{encode}
use Rattle.calls.specs.declared.LentQuestion.TheVariants.{BlockLength}
use Rattle.calls.specs.Calls.{lent_number, start_of, start_asked}
use Rattle.c_replies.specs.declared.start.StartReply.{StartReply}

module _ (s b : List ℕ) where
  abbrev pub StartSays : StartReply → List ℕ → Type 0
  StartSays r after = (r.number ≡ (start_of s b).number) × ((r.place ≡ (start_of s b).place) × (after ≡ (start_of s b).block))

  pub script_refused : (r : StartReply) {no : Refusal} → r ≡ record { number = number_of no.question; place = no.place } → ◌≡◌ {A = Verdict} (Err no) (check_of s) → StartSays r b
  unfolding start_of start_asked
  script_refused r e v = rw (e, ← v) (refl, (refl, refl))

  module _ (t : ℕ) (v : ◌≡◌ {A = Verdict} (Ok t) (check_of s)) where
    pub block_refused : (r : StartReply) → r ≡ record { number = lent_number BlockLength; place = 0 } → (length b ≡ BLOCK → ⊥) → StartSays r b
    unfolding start_of start_asked
    block_refused r e ne = rw (e, ← v, ne_eqb _ _ ne) (refl, (refl, refl))

    pub started : {after : List ℕ} → length b ≡ BLOCK → after ≡ encode initial → StartSays (record { number = 0; place = 0 }) after
    unfolding start_of start_asked
    started l w = rw (← v, eq-eqb _ _ l, w) (refl, (refl, refl))
