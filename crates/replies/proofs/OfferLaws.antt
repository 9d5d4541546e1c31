-- A law for each return of Offer.
use mathlib.Core.Path.{◌≡◌, refl}
use mathlib.Core.List.{List}
use Prim.Native.Nat.{ℕ}
use Rattle.parts.specs.Parts.{config_read}
use Rattle.calls.specs.declared.LentQuestion.{LentQuestion}
use Rattle.calls.specs.Calls.{parts_asked, flags_of, offered_from}
use Rattle.std.specs.Bool.{⊤}
use Rattle.std.specs.declared.result.Result.{Result}
use Rattle.std.specs.declared.result.Result.TheVariants.{Ok, Err}
use Rattle.replies.specs.RunResults.{refusal_number}
use Rattle.wellformed.specs.Examining.{examined_as}

module _ (s : List ℕ) (t : ℕ) (b fl : List ℕ) (r : Result ⊤ LentQuestion) (e : parts_asked s t b ≡ examined_as r (config_read s b)) where
  -- What Offer answers, and what it leaves in the flags.
  abbrev pub OfferSays : Result ⊤ LentQuestion → List ℕ → Type 0
  OfferSays r after = (refusal_number r ≡ (offered_from s b fl (parts_asked s t b)).number) × (after ≡ (offered_from s b fl (parts_asked s t b)).flags)

  pub left_alone : {q : LentQuestion} → r ≡ Err q → OfferSays (Err q) fl
  left_alone y = rw (e, y) (refl, refl)

  pub offered : {after : List ℕ} → r ≡ (Ok tt) → after ≡ flags_of s (config_read s b) → OfferSays (Ok tt) after
  offered y f = rw (e, y, f) (refl, refl)
