-- What Offer replies and leaves, after each of its answers.
use Prim.Native.Nat.{ℕ}
use mathlib.Core.Path.{◌≡◌, refl}
use mathlib.Core.List.{List}
use lib.ListN.{length}
use borrow.Author.Tests.{eq-eqb, ne_eqb}
use Rattle.limits.specs.Limits.{BLOCK, FLAGS}
use Rattle.std.specs.declared.result.Result.TheVariants.{Ok, Err}
use Rattle.typing.specs.Answers.{Verdict}
use Rattle.typing.specs.Check.{check_of}
use Rattle.script.specs.declared.Refusal.{Refusal}
use Rattle.script.specs.Asking.{number_of}
use Rattle.calls.specs.declared.LentQuestion.TheVariants.{BlockLength, BufferLength}
use Rattle.calls.specs.Calls.{Questioned, no_at, yes_with, flags_long, lent_number, parts_asked, block_asked, offered_from, offer_of}
use Rattle.replies.specs.RunResults.{refusal_number}
use Rattle.replies.proofs.Standing.{parts_place}
use Rattle.calls.specs.declared.LentQuestion.{LentQuestion}
use Rattle.std.specs.Bool.{⊤}
use Rattle.std.specs.declared.result.Result.{Result}
use Rattle.c_replies.specs.declared.offer.OfferReply.{OfferReply}

-- "the block stays as it was"
pub offer_block : (s b fl : List ℕ) → b ≡ (offer_of s b fl).block
unfolding offer_of
offer_block s b fl = go (block_asked s b (flags_long fl))
  where
    go : (q : Questioned) → b ≡ (offered_from s b fl q).block
    go (no_at n place) = refl
    go (yes_with c) = refl

module _ (s b fl : List ℕ) where
  abbrev pub OfferSays : OfferReply → List ℕ → Type 0
  OfferSays r after = (r.number ≡ (offer_of s b fl).number) × ((r.place ≡ (offer_of s b fl).place) × (after ≡ (offer_of s b fl).flags))

  -- a reply of these numbers
  abbrev Reply : ℕ → ℕ → OfferReply
  Reply number place = record { number = number; place = place }

  pub offer_script_refused : (r : OfferReply) {no : Refusal} → r ≡ Reply (number_of no.question) no.place → ◌≡◌ {A = Verdict} (Err no) (check_of s) → OfferSays r fl
  unfolding offer_of block_asked
  offer_script_refused r e v = rw (e, ← v) (refl, (refl, refl))

  module _ (t : ℕ) (acc : check_of s ≡ Ok t) where
    pub offer_block_refused : (r : OfferReply) → r ≡ Reply (lent_number BlockLength) 0 → (length b ≡ BLOCK → ⊥) → OfferSays r fl
    unfolding offer_of block_asked
    offer_block_refused r e ne = rw (e, acc, ne_eqb _ _ ne) (refl, (refl, refl))

    module _ (long : length b ≡ BLOCK) where
      pub offer_flags_refused : (r : OfferReply) → r ≡ Reply (lent_number BufferLength) 0 → (length fl ≡ FLAGS → ⊥) → OfferSays r fl
      unfolding offer_of block_asked
      offer_flags_refused r e ne = rw (e, acc, eq-eqb _ _ long, ne_eqb _ _ ne) (refl, (refl, refl))

      asked : length fl ≡ FLAGS → offer_of s b fl ≡ offered_from s b fl (parts_asked s t b)
      unfolding offer_of block_asked
      asked l = rw (acc, eq-eqb _ _ long, eq-eqb _ _ l)

      -- a part is bad, at place 0, or all are sound
      pub offer_part : {after : List ℕ} (r : OfferReply) (p : Result ⊤ LentQuestion) → r ≡ Reply (refusal_number p) 0 → length fl ≡ FLAGS → {array : List ℕ} → array ≡ b
          → refusal_number p ≡ (offered_from s array fl (parts_asked s t array)).number → after ≡ (offered_from s array fl (parts_asked s t array)).flags → OfferSays r after
      offer_part r p e l same n f =
          rw (e, asked l) (rw same at n, (parts_place s t b (λ q. (offered_from s b fl q).place) (λ m. refl) (λ c. refl), rw same at f))
