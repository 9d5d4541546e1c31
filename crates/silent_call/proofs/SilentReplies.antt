-- What Silent replies, for a script that is refused and for one that is accepted.
use Prim.Native.Nat.{ℕ}
use mathlib.Core.Path.{◌≡◌, refl}
use mathlib.Core.List.{List}
use Rattle.std.specs.declared.result.Result.TheVariants.{Ok, Err}
use Rattle.script.specs.declared.Refusal.{Refusal}
use Rattle.script.specs.Asking.{number_of}
use Rattle.typing.specs.Answers.{Verdict}
use Rattle.typing.specs.Check.{check_of}
use Rattle.machine.specs.Config.{code_of}
use Rattle.machine.specs.Silent.{silent_from}
use Rattle.calls.specs.Calls.{silent_of}
use Rattle.c_replies.specs.declared.silent.SilentReply.{SilentReply}

module _ (s : List ℕ) (node : ℕ) (r : SilentReply) where
  abbrev pub SilentSays : Type 0
  SilentSays = (r.number ≡ (silent_of s node).number) × ((r.place ≡ (silent_of s node).place) × (r.count ≡ (silent_of s node).count))

  pub silent_refused : {no : Refusal} → r ≡ record { number = number_of no.question; place = no.place; count = 0 } → ◌≡◌ {A = Verdict} (Err no) (check_of s) → SilentSays
  unfolding silent_of
  silent_refused e v = rw (e, ← v) (refl, (refl, refl))

  pub silent_accepted : {t count : ℕ} → r ≡ record { number = 0; place = 0; count = count } → ◌≡◌ {A = Verdict} (Ok t) (check_of s) → count ≡ silent_from (code_of s) node → SilentSays
  unfolding silent_of
  silent_accepted e v k = rw (e, ← v) (refl, (refl, k))
