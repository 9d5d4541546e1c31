-- Each number of a refused block exactly: "21 now means objects; 26 bindings, after 21; 27 frames, threads and which objects are shut, after 26."
use mathlib.Core.Path.{◌≡◌, refl}
use mathlib.Core.List.{List}
use Prim.Native.Nat.{ℕ, ◌<◌, ◌≤◌}
use native.Mathlib.Omega.{arith}
use lib.ListN.{length, get_or}
use Rattle.limits.specs.Limits.{BLOCK, CHOICES, FLAGS}
use Rattle.std.specs.declared.result.Result.TheVariants.{Ok}
use Rattle.typing.specs.Check.{check_of}
use Rattle.machine.specs.Config.{Config}
use Rattle.parts.specs.Parts.{ObjectsAre, BindingsAre, ThreadsAre}
use Rattle.calls.specs.Calls.{Offered, Ran, offer_of, run_of}
use Rattle.calls.specs.Answers.{Holds, FirstNoTo, by_script, by_length, by_buffer, by_objects, by_bindings, by_threads, OfferAnswers, offer_refused, offered, RunAnswers, run_refused, has_run, WhichPart}
use Rattle.calls.proofs.Parts.{holds_parts, parts_stand}
use Rattle.calls.proofs.Answers.{offer_answers, run_answers}

one_type : (s : List ℕ) {t u : ℕ} → check_of s ≡ Ok t → check_of s ≡ Ok u → u ≡ t
one_type s e k = cc

module _ {s : List ℕ} {t : ℕ} (acc : check_of s ≡ Ok t) {b : List ℕ} (long : length b ≡ BLOCK) where
  -- the four cases exclude each other
  objects_bad : (ObjectsAre s b → ⊥) → WhichPart s t b 21
  objects_bad n =
      record {
        objects = (λ e. n, λ x. refl);
        bindings = (λ e. absurd (omega arith), λ x. absurd (n x.0));
        threads = (λ e. absurd (omega arith), λ x. absurd (n x.0));
        sound = (λ e. absurd (omega arith), λ x. absurd (n ((parts_stand acc long).0 x).0));
      }

  bindings_bad : ObjectsAre s b → (BindingsAre s b → ⊥) → WhichPart s t b 26
  bindings_bad o n =
      record {
        objects = (λ e. absurd (omega arith), λ x. absurd (x o));
        bindings = (λ e. (o, n), λ x. refl);
        threads = (λ e. absurd (omega arith), λ x. absurd (n x.1));
        sound = (λ e. absurd (omega arith), λ x. absurd (n ((parts_stand acc long).0 x).1));
      }

  threads_bad : ObjectsAre s b → BindingsAre s b → (ThreadsAre s t b → ⊥) → WhichPart s t b 27
  threads_bad o v n =
      record {
        objects = (λ e. absurd (omega arith), λ x. absurd (x o));
        bindings = (λ e. absurd (omega arith), λ x. absurd (x.1 v));
        threads = (λ e. (o, v, n), λ x. refl);
        sound = (λ e. absurd (omega arith), λ x. absurd (n ((parts_stand acc long).0 x).2));
      }

  none_bad : {c : Config} → Holds s t b c → WhichPart s t b 0
  none_bad {c} h =
      let p = holds_parts acc long h in
      record {
        objects = (λ e. absurd (omega arith), λ x. absurd (x p.0));
        bindings = (λ e. absurd (omega arith), λ x. absurd (x.1 p.1));
        threads = (λ e. absurd (omega arith), λ x. absurd (x.2 p.2));
        sound = (λ e. record { config = c; holds = h }, λ x. refl);
      }

  first_no_lem : {Fine Off : Type 0} {n place : ℕ} → (Off → ⊥) → FirstNoTo s b Fine Off n place → WhichPart s t b n
  first_no_lem fine (by_script e) = let z : ◌≡◌ {A = ℕ} 0 1 = cc in absurd (omega arith)
  first_no_lem fine (by_length e x) = absurd (x long)
  first_no_lem fine (by_buffer e l x) = absurd (fine x)
  first_no_lem fine (by_objects e l f x) = objects_bad x
  first_no_lem fine (by_bindings e l f o x) = bindings_bad o x
  first_no_lem fine (by_threads e l f o v x) = threads_bad o v (λ y. x (rw (one_type s acc e) y))

  offer_which : {fl : List ℕ} {r : Offered} → length fl ≡ FLAGS → OfferAnswers s b fl r → WhichPart s t b r.number
  offer_which l (offer_refused x) = first_no_lem (λ n. n l) x
  offer_which l (offered e f h) = none_bad (rw (one_type s acc e) at h)

  run_which : {ns : List ℕ} {r : Ran} → length ns ≤ CHOICES → RunAnswers s b ns r → WhichPart s t b r.number
  run_which l (run_refused x) = first_no_lem (λ n. omega (arith, n, l)) x
  run_which l (has_run e f h) = none_bad (rw (one_type s acc e) at h)

module _ (s : List ℕ) (bytes : (i : ℕ) → get_or s i 0 < 256) {t : ℕ} (acc : check_of s ≡ Ok t) (b : List ℕ) where
  pub which_part_offer : (fl : List ℕ) → length b ≡ BLOCK → length fl ≡ FLAGS → WhichPart s t b (offer_of s b fl).number
  which_part_offer fl long l = offer_which acc long l (offer_answers s bytes b fl)

  pub which_part_run : (ns : List ℕ) → length b ≡ BLOCK → length ns ≤ CHOICES → WhichPart s t b (run_of s b ns).number
  which_part_run ns long l = run_which acc long l (run_answers s bytes b ns)
