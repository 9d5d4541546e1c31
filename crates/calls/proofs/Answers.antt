-- The calls answer what documents 01 and 02 say, and the question about the whole block, on bytes, decides whether it stands for a well-formed configuration.
use mathlib.Core.Path.{◌≡◌, refl, sym, ap}
use mathlib.Core.Bool.{Bool, true, false, not}
use mathlib.Core.List.{List}
use mathlib.Core.Option.{Option, none, some}
use Prim.Native.Nat.{ℕ, ◌<◌, ◌≤◌}
use native.Mathlib.Omega.{arith}
use lib.ListN.{length, get_or}
use borrow.Author.Tests.{eqb-true, eqb-false, leb-true, leb-false}
use Rattle.limits.specs.Limits.{BLOCK, CHOICES, FLAGS}
use Rattle.script.specs.Asking.{Decides, holds, fails}
use Rattle.script.proofs.Tests.{says_yes, yes_said, decides_not}
use Rattle.std.specs.declared.result.Result.TheVariants.{Ok, Err}
use Rattle.typing.specs.Answers.{Verdict}
use Rattle.typing.specs.Check.{check_of}
use Rattle.typing.proofs.Exact.{outside_refused}
use Rattle.machine.specs.Config.{Config, code_of}
use Rattle.machine.specs.Machine.{field_count, limits, initial}
use Rattle.machine.specs.Decide.{only, well_formed_test}
use Rattle.machine.specs.Accepted.{AcceptedCode}
use Rattle.machine.proofs.Accepted.{accepted}
use Rattle.machine.proofs.Decide.{decides_well_formed}
use Rattle.block.specs.Fits.{Fits}
use Rattle.block.specs.Decode.{decode}
use Rattle.block.proofs.Decode.{decode_encode, encode_decode}
use Rattle.calls.specs.declared.LentQuestion.TheVariants.{BlockLength, BufferLength, BlockObjects, BlockBindings}
use Rattle.calls.specs.Calls.{Questioned, no_at, yes_with, ask_script, ask, ask_threads, well_formed, config_of, parts_asked, block_long, choices_few, flags_long, start_asked, block_asked, checked_from, checked_of, started_from, start_of, offered_from, offer_of, ran_from, run_of}
use Rattle.calls.specs.Answers.{Holds, Stands, found, CheckAnswers, check_refused, checked, FirstNoTo, by_script, by_length, by_buffer, by_objects, by_bindings, by_threads, StartAnswers, start_refused, started, OfferAnswers, offer_refused, offered, RunAnswers, run_refused, has_run}
use Rattle.parts.specs.Parts.{ObjectsAre, BindingsAre, objects_sound, bindings_sound}
use Rattle.parts.proofs.Parts.{decides_objects, decides_bindings}
use Rattle.calls.proofs.Fits.{well_fits}
use Rattle.calls.proofs.Parts.{parts_stand}

only_some : (a : Bool) (x c : Config) → only a (some x) ≡ some c → (a ≡ true) × (x ≡ c)
only_some true x c e = (refl, cc)
only_some false x c e = let z : ◌≡◌ {A = ℕ} 0 1 = cc in absurd (omega arith)

well_formed_some : (s : List ℕ) (t : ℕ) (o : Option Config) (c : Config) → well_formed s t o ≡ some c → (o ≡ some c) × (well_formed_test (code_of s) limits t c ≡ true)
well_formed_some s t none c e = let z : ◌≡◌ {A = ℕ} 0 1 = cc in absurd (omega arith)
well_formed_some s t (some x) c e =
    let h = only_some (well_formed_test (code_of s) limits t x) x c e in
    let k : well_formed_test (code_of s) limits t c ≡ true = rw (← h.1) h.0 in
    (ap (λ (y : Config). some y) h.1, k)

-- What the questions about a block come to.
data Answers (s b : List ℕ) (Fine Off : Type 0) : Questioned → Type 0 where
  said_no : {n place : ℕ} → FirstNoTo s b Fine Off n place → Answers s b Fine Off (no_at n place)
  said_yes : {t : ℕ} {c : Config} → check_of s ≡ Ok t → Fine → Holds s t b c → Answers s b Fine Off (yes_with c)

module _ (s : List ℕ) (bytes : (i : ℕ) → get_or s i 0 < 256) where
  module _ (t : ℕ) (acc : check_of s ≡ Ok t) where
    pub accepts : AcceptedCode (code_of s) t
    accepts = accepted s t bytes acc

    -- The configuration that a block holds fits in it, so it is found; and what is found is held.
    pub holds_fits : {b : List ℕ} {c : Config} → Holds s t b c → Fits (field_count s) c
    holds_fits h = well_fits s (outside_refused s t acc) h.well

    pub holds_config : {b : List ℕ} {c : Config} → Holds s t b c → config_of s t b ≡ some c
    unfolding config_of
    holds_config {b} {c} h = rw (h.is, decode_encode (field_count s) c (holds_fits h), yes_said (decides_well_formed accepts limits c) h.well) refl

    pub config_holds : (b : List ℕ) (c : Config) → config_of s t b ≡ some c → Holds s t b c
    unfolding config_of
    config_holds b c e =
        let h = well_formed_some s t (decode (field_count s) b) c e in
        record { is = sym (encode_decode (field_count s) b c h.0).0; well = says_yes (decides_well_formed accepts limits c) h.1 }

    stands_found : (b : List ℕ) (o : Option Config) → config_of s t b ≡ o → Decides (Stands s t b) (found o)
    stands_found b none e = fails (λ x. let y = holds_config x.holds in let z : ◌≡◌ {A = ℕ} 0 1 = cc in omega arith)
    stands_found b (some c) e = holds (record { config = c; holds = config_holds b c e })

    -- The test on bytes says whether the block is that of a well-formed configuration.
    pub decides_stands : (b : List ℕ) → Decides (Stands s t b) (found (config_of s t b))
    decides_stands b = stands_found b (config_of s t b) refl

  module _ (b : List ℕ) {Fine Off : Type 0} (lent : Bool) (fine : lent ≡ true → Fine) (off : lent ≡ false → Off) where
    module _ (t : ℕ) (acc : check_of s ≡ Ok t) (l : length b ≡ BLOCK) (f : Fine) where
      by_config : ObjectsAre s b → BindingsAre s b → (o : Option Config) → config_of s t b ≡ o → Answers s b Fine Off (ask_threads o)
      by_config x y none e =
          said_no (by_threads acc l f x y (λ z. let h = holds_config t acc ((parts_stand acc l).1 (x, y, z)).holds in let n : ◌≡◌ {A = ℕ} 0 1 = cc in omega arith))
      by_config x y (some c) e = said_yes acc f (config_holds t acc b c e)

      by_vars : ObjectsAre s b → (a : Bool) → bindings_sound s b ≡ a → Answers s b Fine Off (ask BlockBindings a (ask_threads (config_of s t b)))
      by_vars x true e = by_config x (says_yes (decides_bindings (accepts t acc) b x) e) (config_of s t b) refl
      by_vars x false e = said_no (by_bindings acc l f x (says_yes (decides_not (decides_bindings (accepts t acc) b x)) (ap not e)))

      by_heap : (a : Bool) → objects_sound s b ≡ a → Answers s b Fine Off (ask BlockObjects a (ask BlockBindings (bindings_sound s b) (ask_threads (config_of s t b))))
      by_heap true e = by_vars (says_yes (decides_objects (accepts t acc) b) e) (bindings_sound s b) refl
      by_heap false e = said_no (by_objects acc l f (says_yes (decides_not (decides_objects (accepts t acc) b)) (ap not e)))

      by_parts : Answers s b Fine Off (parts_asked s t b)
      unfolding parts_asked
      by_parts = by_heap (objects_sound s b) refl

    by_lent : (t : ℕ) → check_of s ≡ Ok t → length b ≡ BLOCK → (a : Bool) → lent ≡ a → Answers s b Fine Off (ask BufferLength a (parts_asked s t b))
    by_lent t acc l true e = by_parts t acc l (fine e)
    by_lent t acc l false e = said_no (by_buffer acc l (off e))

    by_block : (t : ℕ) → check_of s ≡ Ok t → (a : Bool) → block_long b ≡ a → Answers s b Fine Off (ask BlockLength a (ask BufferLength lent (parts_asked s t b)))
    by_block t acc true e = by_lent t acc (eqb-true (length b) BLOCK e) lent refl
    by_block t acc false e = said_no (by_length acc (eqb-false (length b) BLOCK e))

    by_check : (v : Verdict) → check_of s ≡ v → Answers s b Fine Off (ask_script v (λ t. ask BlockLength (block_long b) (ask BufferLength lent (parts_asked s t b))))
    by_check (Ok t) e = by_block t e (block_long b) refl
    by_check (Err _) e = said_no (by_script e)

    block_answers : Answers s b Fine Off (block_asked s b lent)
    unfolding block_asked
    block_answers = by_check (check_of s) refl

  run_from : (b ns : List ℕ) (a : Questioned) → Answers s b (length ns ≤ CHOICES) (CHOICES < length ns) a → RunAnswers s b ns (ran_from s b ns a)
  run_from b ns _ (said_no n) = run_refused n
  run_from b ns _ (said_yes acc f h) = has_run acc f h

  offer_from : (b fl : List ℕ) (a : Questioned) → Answers s b (length fl ≡ FLAGS) (length fl ≡ FLAGS → ⊥) a → OfferAnswers s b fl (offered_from s b fl a)
  offer_from b fl _ (said_no n) = offer_refused n
  offer_from b fl _ (said_yes acc f h) = offered acc f h

  -- Run and Offer, on all inputs.
  pub run_answers : (b ns : List ℕ) → RunAnswers s b ns (run_of s b ns)
  unfolding run_of
  run_answers b ns =
      run_from b ns (block_asked s b (choices_few ns))
      (block_answers b (choices_few ns) (leb-true (length ns) CHOICES) (λ e. omega (arith, leb-false (length ns) CHOICES e)))

  pub offer_answers : (b fl : List ℕ) → OfferAnswers s b fl (offer_of s b fl)
  unfolding offer_of
  offer_answers b fl =
      offer_from b fl (block_asked s b (flags_long fl)) (block_answers b (flags_long fl) (eqb-true (length fl) FLAGS) (eqb-false (length fl) FLAGS))

-- Check, on all inputs.
check_from : (s : List ℕ) (v : Verdict) → check_of s ≡ v → CheckAnswers s (checked_from s v)
check_from s (Ok t) e = checked e
check_from s (Err _) e = check_refused e

pub check_answers : (s : List ℕ) → CheckAnswers s (checked_of s)
unfolding checked_of
check_answers s = check_from s (check_of s) refl

-- Start, on all inputs: it asks no question about the block's bytes.
module _ (s b : List ℕ) where
  start_block : (t : ℕ) → check_of s ≡ Ok t → (a : Bool) → block_long b ≡ a → StartAnswers s b (started_from b (ask BlockLength a (yes_with initial)))
  start_block t acc true e = started acc (eqb-true (length b) BLOCK e)
  start_block t acc false e = start_refused (by_length acc (eqb-false (length b) BLOCK e))

  start_check : (v : Verdict) → check_of s ≡ v → StartAnswers s b (started_from b (ask_script v (λ t. ask BlockLength (block_long b) (yes_with initial))))
  start_check (Ok t) e = start_block t e (block_long b) refl
  start_check (Err _) e = start_refused (by_script e)

  pub start_answers : StartAnswers s b (start_of s b)
  unfolding start_of start_asked
  start_answers = start_check (check_of s) refl
