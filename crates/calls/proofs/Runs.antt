-- Runs and offers that are not refused, on bytes: what they stop with, runs of a split list, and Offer's flags.
use mathlib.Core.Path.{◌≡◌, refl, sym, ap, ◌∙◌}
use mathlib.Core.Bool.{Bool, true, false}
use mathlib.Core.List.{List, [], ◌∷◌, ◌++◌}
use mathlib.Core.Logic.{◌⊎◌, inl, inr, ⊎_elim}
use Prim.Native.Nat.{ℕ, ◌+◌, ◌<◌, ◌≤◌}
use native.Mathlib.Omega.{arith}
use lib.ListN.{length, get_or, length-append}
use Rattle.limits.specs.Limits.{CHOICES, FLAGS}
use Rattle.script.specs.declared.Question.{Question}
use Rattle.script.specs.declared.Question.TheVariants.{Length, Counts, Places, Interfaces, Owners, Types, Nodes, Names, Joins, Classes, Variables, Nulls, Members, Fits, Sharing}
use Rattle.script.specs.Asking.{number_of}
use Rattle.std.specs.declared.result.Result.TheVariants.{Ok}
use Rattle.typing.specs.Check.{check_of}
use Rattle.machine.specs.declared.Store.{Store}
use Rattle.machine.specs.declared.Ending.{Ending}
use Rattle.machine.specs.declared.Stop.TheVariants.{Spent, Ended, Full}
use Rattle.machine.specs.Stops.{store_number, ending_number, stop_number}
use Rattle.machine.specs.Config.{Config, code_of}
use Rattle.machine.specs.Machine.{one_if, limits, still, choice, can_move}
use Rattle.machine.specs.Ends.{End}
use Rattle.machine.specs.Runs.{Report, report}
use Rattle.machine.proofs.Stops.{one_stop}
use Rattle.soundness.proofs.Run.{run_runs, run_leaves, run_all, run_more, stopped_still, still_stopped}
use Rattle.soundness.proofs.FullStore.{stop_short}
use Rattle.soundness.proofs.Promise.{flag_set, flag_clear}
use Rattle.block.specs.Block.{encode}
use Rattle.calls.specs.Calls.{Offered, Ran, ran, flags_of, offer_of, run_of}
use Rattle.calls.specs.Answers.{Holds, FirstNoTo, by_script, by_length, by_buffer, by_objects, by_bindings, by_threads, OfferAnswers, offer_refused, offered, RunAnswers, run_refused, has_run, NotRefused, TraceOf}
use Rattle.calls.specs.Lists.{run_onto}
use Rattle.calls.proofs.Answers.{accepts, run_answers, offer_answers}
use Rattle.calls.proofs.Replies.{flag_is, run_reply, run_holds, run_traced}

pub number_some : (q : Question) → number_of q ≡ 0 → ⊥
number_some Length e = omega arith
number_some Counts e = omega arith
number_some Places e = omega arith
number_some Interfaces e = omega arith
number_some Owners e = omega arith
number_some Types e = omega arith
number_some Nodes e = omega arith
number_some Names e = omega arith
number_some Joins e = omega arith
number_some Classes e = omega arith
number_some Variables e = omega arith
number_some Nulls e = omega arith
number_some Members e = omega arith
number_some Fits e = omega arith
number_some Sharing e = omega arith

-- a refusal has a number
refusal_numbered : {s b : List ℕ} {Fine Off : Type 0} {n place : ℕ} → FirstNoTo s b Fine Off n place → n ≡ 0 → ⊥
refusal_numbered (by_script {q = q} x) e = number_some q e
refusal_numbered (by_length x y) e = omega arith
refusal_numbered (by_buffer x y z) e = omega arith
refusal_numbered (by_objects x y z w) e = omega arith
refusal_numbered (by_bindings x y z v w) e = omega arith
refusal_numbered (by_threads x y z u v w) e = omega arith

record Opened (s b : List ℕ) (Fine : Type 0) : Type 0 where
  pub type : ℕ
  pub accepted : check_of s ≡ Ok type
  pub fine : Fine
  pub config : Config
  pub holds : Holds s type b config

run_had : {s b ns : List ℕ} (r : Ran) → RunAnswers s b ns r → r.number ≡ 0 → Opened s b (length ns ≤ CHOICES)
run_had _ (run_refused x) e = absurd (refusal_numbered x e)
run_had _ (has_run {t = t} {c = c} acc f h) e = record { type = t; accepted = acc; fine = f; config = c; holds = h }

record Flags (s b fl : List ℕ) (r : Offered) : Type 0 where
  pub had : Opened s b (length fl ≡ FLAGS)
  pub are : r.flags ≡ flags_of s had.config

offer_had : {s b fl : List ℕ} (r : Offered) → OfferAnswers s b fl r → r.number ≡ 0 → Flags s b fl r
offer_had _ (offer_refused x) e = absurd (refusal_numbered x e)
offer_had _ (offered {t = t} {c = c} acc f h) e = record { had = record { type = t; accepted = acc; fine = f; config = c; holds = h }; are = refl }

-- It stops with the number of an ending exactly when it leaves nothing that can move, and then in that one of the three cases.
pub run_ended : {s b ns : List ℕ} (x : NotRefused s b ns) (k : Ending) → (run_of s b ns).stop ≡ ending_number k
    → End (code_of s) x.outcome.config k × ((n : ℕ) → choice (code_of s) limits x.outcome.config n ≡ still)
run_ended x k e = stopped_still (rw (one_stop x.outcome.stop (Ended k) (rw x.reply at e)) at x.means)

pub ended_run : {s b ns : List ℕ} (x : NotRefused s b ns) → ((n : ℕ) → choice (code_of s) limits x.outcome.config n ≡ still)
    → (k : Ending) × ((run_of s b ns).stop ≡ ending_number k)
ended_run x h = let q = still_stopped x.means h in (q.0, rw x.reply (ap stop_number q.1))

one_true : (a : Bool) → one_if a ≡ 1 → a ≡ true
one_true true e = refl
one_true false e = absurd (omega arith)

pub none_true : (a : Bool) → one_if a ≡ 0 → a ≡ false
none_true true e = absurd (omega arith)
none_true false e = refl

not_none : (a : Bool) {k : ℕ} → k ≡ one_if a → (k ≡ 0 → ⊥) → k ≡ 1
not_none true e n = e
not_none false e n = absurd (n e)

-- the number of a full store is that of no other stop
no_store : {m : ℕ} (k : Store) → m ≡ store_number k → (m ≡ stop_number Spent) ⊎ ((i : Ending) × (m ≡ ending_number i)) → ⊥
no_store k e (inl z) = let i : Full k ≡ Spent = one_stop (Full k) Spent (sym e ∙ z) in let z : ◌≡◌ {A = ℕ} 0 1 = cc in omega arith
no_store k e (inr x) = let i : Full k ≡ Ended x.0 = one_stop (Full k) (Ended x.0) (sym e ∙ x.1) in let z : ◌≡◌ {A = ℕ} 0 1 = cc in omega arith

module _ (s : List ℕ) (bytes : (i : ℕ) → get_or s i 0 < 256) where
  left_by : (b ns : List ℕ) → Opened s b (length ns ≤ CHOICES) → NotRefused s b ns
  left_by b ns x =
      let c = x.config in
      let a = accepts s bytes x.type x.accepted in
      let r = report (code_of s) limits c ns in
      record {
        type = x.type;
        accepted = x.accepted;
        few = x.fine;
        before = c;
        had = x.holds;
        outcome = r;
        did = run_runs (code_of s) limits ns c;
        reply = run_reply s bytes x.type x.accepted x.holds ns x.fine;
        holds = run_holds s bytes x.type x.accepted x.holds ns x.fine;
        means = (run_leaves a limits ns c x.holds.well).means;
        spent = run_all (code_of s) limits ns c;
        full = stop_short a limits ns c x.holds.well;
      }

  -- What a Run that is not refused leaves, and why it stopped.
  pub run_left : (b ns : List ℕ) → (run_of s b ns).number ≡ 0 → NotRefused s b ns
  run_left b ns e = left_by b ns (run_had (run_of s b ns) (run_answers s bytes b ns) e)

  -- The moves of a Run that is not refused are published steps or silent ones, as many as it returns, each at the position that its choice names.
  pub run_trace_bytes : (b ns : List ℕ) → (run_of s b ns).number ≡ 0 → TraceOf s b ns
  run_trace_bytes b ns e =
      let x = run_had (run_of s b ns) (run_answers s bytes b ns) e in
      run_traced s bytes x.type x.accepted x.holds ns x.fine

  goes_on : (b ns ms : List ℕ) → Opened s b (length ns ≤ CHOICES) → (run_of s b ns).stop ≡ stop_number Spent → length (ns ++ ms) ≤ CHOICES
      → run_of s b (ns ++ ms) ≡ run_onto (run_of s b ns) (run_of s (run_of s b ns).block ms)
  goes_on b ns ms x z l =
      let first = run_reply s bytes x.type x.accepted x.holds ns x.fine in
      let part : length ms ≤ CHOICES = omega (arith, l, length-append ns ms) in
      let more = run_more (code_of s) limits ns ms x.config (one_stop (report (code_of s) limits x.config ns).stop Spent (rw first at z)) in
      let k = run_holds s bytes x.type x.accepted x.holds ns x.fine in
      let whole = run_reply s bytes x.type x.accepted x.holds (ns ++ ms) l in
      let rest = run_reply s bytes x.type x.accepted k ms part in
      whole ∙ ap (λ (r : Report). ran r) more ∙ sym (rw (rest, first) refl)

  -- Where the first part of a list is spent, the Run with the rest on what it left is the Run with the whole list, the counts added.
  pub run_on : (b ns ms : List ℕ) → (run_of s b ns).number ≡ 0 → (run_of s b ns).stop ≡ stop_number Spent → length (ns ++ ms) ≤ CHOICES
      → run_of s b (ns ++ ms) ≡ run_onto (run_of s b ns) (run_of s (run_of s b ns).block ms)
  run_on b ns ms e z l = goes_on b ns ms (run_had (run_of s b ns) (run_answers s bytes b ns) e) z l

  moves_by : (b fl : List ℕ) → Flags s b fl (offer_of s b fl) → (n : ℕ) → n < FLAGS → get_or (offer_of s b fl).flags n 0 ≡ 1
      → ((run_of s b (n ∷ [])).moves ≡ 1) ⊎ ((k : Store) × ((run_of s b (n ∷ [])).stop ≡ store_number k))
  moves_by b fl f n l e =
      let x = f.had in
      let i = flag_is s x.config (offer_of s b fl).flags f.are n l in
      rw (run_reply s bytes x.type x.accepted x.holds (n ∷ []) (omega arith))
      (⊎_elim inl (λ k. inr (k.0, ap stop_number k.1)) (flag_set (code_of s) limits x.config n (one_true (can_move (code_of s) limits x.config n) (sym i ∙ e))))

  passes_by : (b fl : List ℕ) → Flags s b fl (offer_of s b fl) → (n : ℕ) → n < FLAGS → get_or (offer_of s b fl).flags n 0 ≡ 0
      → ((run_of s b (n ∷ [])).moves ≡ 0) × (((run_of s b (n ∷ [])).stop ≡ stop_number Spent) ⊎ ((k : Ending) × ((run_of s b (n ∷ [])).stop ≡ ending_number k))) × ((run_of s b (n ∷ [])).block ≡ b)
  passes_by b fl f n l e =
      let x = f.had in
      let i = flag_is s x.config (offer_of s b fl).flags f.are n l in
      let c = flag_clear (code_of s) limits x.config n (none_true (can_move (code_of s) limits x.config n) (sym i ∙ e)) in
      rw (run_reply s bytes x.type x.accepted x.holds (n ∷ []) (omega arith)) (c.0, ⊎_elim (λ z. inl (ap stop_number z)) (λ k. inr (k.0, ap stop_number k.1)) c.1, ap (λ (d : Config). encode d) c.2 ∙ sym x.holds.is)

  -- Offer's flag at a position is 1 exactly if a Run with that one choice makes a move or meets a full store.
  pub flag_moves : (b fl : List ℕ) → (offer_of s b fl).number ≡ 0 → (n : ℕ) → n < FLAGS → get_or (offer_of s b fl).flags n 0 ≡ 1
      → ((run_of s b (n ∷ [])).moves ≡ 1) ⊎ ((k : Store) × ((run_of s b (n ∷ [])).stop ≡ store_number k))
  flag_moves b fl e = moves_by b fl (offer_had (offer_of s b fl) (offer_answers s bytes b fl) e)

  pub moves_flag : (b fl : List ℕ) → (offer_of s b fl).number ≡ 0 → (n : ℕ) → n < FLAGS
      → ((run_of s b (n ∷ [])).moves ≡ 1) ⊎ ((k : Store) × ((run_of s b (n ∷ [])).stop ≡ store_number k)) → get_or (offer_of s b fl).flags n 0 ≡ 1
  moves_flag b fl e n l m =
      let f = offer_had (offer_of s b fl) (offer_answers s bytes b fl) e in
      not_none (can_move (code_of s) limits f.had.config n) (flag_is s f.had.config (offer_of s b fl).flags f.are n l)
      (λ z. let p = passes_by b fl f n l z in ⊎_elim (λ (a : (run_of s b (n ∷ [])).moves ≡ 1). omega (arith, p.0)) (λ k. no_store k.0 k.1 p.1) m)

  -- Else it is 0, and the choice is passed over and changes nothing.
  pub flag_passes : (b fl : List ℕ) → (offer_of s b fl).number ≡ 0 → (n : ℕ) → n < FLAGS → get_or (offer_of s b fl).flags n 0 ≡ 0
      → ((run_of s b (n ∷ [])).moves ≡ 0) × (((run_of s b (n ∷ [])).stop ≡ stop_number Spent) ⊎ ((k : Ending) × ((run_of s b (n ∷ [])).stop ≡ ending_number k))) × ((run_of s b (n ∷ [])).block ≡ b)
  flag_passes b fl e = passes_by b fl (offer_had (offer_of s b fl) (offer_answers s bytes b fl) e)
