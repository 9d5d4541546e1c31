-- Runs of bytes, one byte at a time.
use Prim.Native.Nat.{ℕ, ◌+◌, ◌≤◌, ◌<◌}
use native.Mathlib.Numerals.{add-one}
use native.Mathlib.Omega.{arith}
use mathlib.Core.Path.{◌≡◌, refl, ◌∙◌, ap}
use mathlib.Core.Bool.{Bool, true, false}
use mathlib.Core.List.{List, [], ◌∷◌, ◌++◌}
use lib.ListN.{length, get_or, take, drop, drop_of_length-le, length-drop, length-append}
use lib.Seq.{drop-cons, take-append_seam}
use Rattle.grammar.specs.Tokens.{All, all_none, all_more}
use Rattle.grammar.proofs.Splitting.{head_test}
use Rattle.word_kinds.specs.Runs.{byte_run}

module _ (test : ℕ → Bool) (text : List ℕ) (i : ℕ) where
  pub run_on : i < length text → test (get_or text i 0) ≡ true → byte_run test (drop i text) ≡ get_or text i 0 ∷ byte_run test (drop (i + 1) text)
  unfolding byte_run
  run_on h e = rw (drop-cons text i 0 h, e, add-one) refl

  pub run_stops : i < length text → test (get_or text i 0) ≡ false → byte_run test (drop i text) ≡ []
  unfolding byte_run
  run_stops h e = rw (drop-cons text i 0 h, e) refl

  pub run_ends : length text ≤ i → byte_run test (drop i text) ≡ []
  unfolding byte_run
  run_ends h = rw (drop_of_length-le text h) refl

-- A run is the beginning of the text, all of it passes the test, and what follows does not go on with it.
module _ (test : ℕ → Bool) where
  pub record RunIs (s : List ℕ) : Type 0 where
    pub expression_ways : s ≡ byte_run test s ++ drop (length (byte_run test s)) s
    pub passes : All test (byte_run test s)
    pub stops : head_test test (drop (length (byte_run test s)) s) ≡ false

  pub run_is : (s : List ℕ) → RunIs s
  unfolding byte_run
  run_is [] = record { expression_ways = refl; passes = all_none; stops = refl }
  run_is (b ∷ s) = go (test b) refl (run_is s)
    where
      go : (t : Bool) → test b ≡ t → RunIs s → RunIs (b ∷ s)
      go true e r = record { expression_ways = rw e (ap (λ (l : List ℕ). b ∷ l) r.expression_ways); passes = rw e (all_more e r.passes); stops = rw e r.stops }
      go false e r = record { expression_ways = rw e refl; passes = rw e all_none; stops = rw e e }

  pub run_length : (text : List ℕ) (start : ℕ) → start ≤ length text → start + length (byte_run test (drop start text)) ≤ length text
  run_length text start h =
      let s = drop start text in
      omega (
        arith,
        length-drop start text,
        ap length (run_is s).expression_ways ∙ length-append (byte_run test s) (drop (length (byte_run test s)) s),
      )

  pub run_front : (s : List ℕ) → take (length (byte_run test s)) s ≡ byte_run test s
  run_front s = ap (take (length (byte_run test s))) (run_is s).expression_ways ∙ take-append_seam (byte_run test s) (drop (length (byte_run test s)) s)
