-- Silent answers the count of a node, Check the largest; a thread makes as many silent moves as Silent says. On bytes.
use Prim.Native.Nat.{ℕ, suc, ◌+◌, ◌-◌, ◌<◌, ◌≤◌}
use native.Mathlib.Omega.{arith}
use native.Mathlib.Decide.{dec_lt}
use mathlib.Core.Path.{◌≡◌, refl, sym, ◌∙◌, ap, subst}
use mathlib.Core.Bool.{false}
use mathlib.Core.List.{List, []}
use mathlib.Core.Logic.{⊎_elim}
use mathlib.Core.Option.{some}
use lib.ListN.{length, get_or, replicate, length-replicate}
use Rattle.limits.specs.Limits.{CHOICES, FLAGS, SILENT}
use Rattle.script.specs.Lists.{run}
use Rattle.script.specs.Syntax.{Point}
use Rattle.script.specs.declared.Section.TheVariants.{Nodes as nodes}
use Rattle.script.specs.Section.{count_of}
use Rattle.std.specs.declared.result.Result.TheVariants.{Ok, Err}
use Rattle.typing.specs.Answers.{Verdict}
use Rattle.typing.specs.Check.{check_of}
use Rattle.machine.specs.declared.Store.TheVariants.{Frames}
use Rattle.machine.specs.declared.Stop.TheVariants.{Full}
use Rattle.machine.specs.declared.Frame.{Frame}
use Rattle.machine.specs.Stops.{stop_number}
use Rattle.machine.specs.Config.{running, Config, code_of}
use Rattle.machine.specs.Machine.{limits, Path, size, locate, part}
use Rattle.machine.specs.Silent.{quiet_in, silent_from, largest, most_silent, due}
use Rattle.machine.specs.Runs.{report}
use Rattle.machine.proofs.Positions.{outside}
use Rattle.machine.proofs.Counts.{node_count_lem, no_count, largest_bounds, largest_there}
use Rattle.soundness.proofs.Positions.{positions}
use Rattle.soundness.proofs.Silent.{on_node, alive_running, due_told, node_due}
use Rattle.published.specs.Traces.{Trace, OnlySilent, silent_moves}
use Rattle.published.specs.Counts.{NextDue, CountedRow}
use Rattle.published.proofs.Traces.{trace_counts}
use Rattle.published.proofs.Counts.{counted_row}
use Rattle.calls.specs.Calls.{checked_of, silent_told, silent_of}
use Rattle.calls.specs.Answers.{Holds, SilentAnswers, silent_refused, silent_counted, silent_none, LargestCount, CountsRow, CountedRun}
use Rattle.calls.proofs.Answers.{accepts}
use Rattle.calls.proofs.Replies.{run_reply, run_holds}

-- Silent, on all inputs.
silent_from_lem : (s : List ℕ) (n : ℕ) (v : Verdict) → check_of s ≡ v → SilentAnswers s n (silent_told s n v)
silent_from_lem s n (Err _) e = silent_refused e
silent_from_lem s n (Ok t) e = go (dec_lt n (count_of s nodes))
  where
    Counts : ℕ → Type 0
    Counts k = SilentAnswers s n (record { number = 0; place = 0; count = k })

    go : Dec (n < count_of s nodes) → SilentAnswers s n (silent_told s n (Ok t))
    go (yes h) = subst Counts (sym (node_count_lem (code_of s) n h)) (silent_counted e h)
    go (no h) = subst Counts (sym (no_count (code_of s) n (omega arith))) (silent_none e (omega arith))

pub silent_answers : (s : List ℕ) (n : ℕ) → SilentAnswers s n (silent_of s n)
unfolding silent_of
silent_answers s n = silent_from_lem s n (check_of s) refl

module _ (s : List ℕ) (bytes : (i : ℕ) → get_or s i 0 < 256) {t : ℕ} (acc : check_of s ≡ Ok t) where
  count_is_lem : (n : ℕ) → (silent_of s n).count ≡ silent_from (code_of s) n
  unfolding silent_of
  count_is_lem n = rw acc refl

  most_is : (checked_of s).silent ≡ largest (run (silent_from (code_of s)) 0 (count_of s nodes))
  unfolding checked_of most_silent
  most_is = rw acc refl

  count_few : (n : Point) → n < count_of s nodes → (silent_of s n).count ≤ SILENT
  count_few n h =
      let a = accepts s bytes t acc in
      omega (arith, count_is_lem n, node_count_lem (code_of s) n h, (due_told a (some (running n 0 [])) (λ m e fs i. let j : m ≡ n = cc in rw j h)).0, a.most)

  -- Check's number is the largest of Silent's.
  pub largest_count : LargestCount s (checked_of s).silent
  largest_count =
      record {
        none_above = λ n. below n (dec_lt n (count_of s nodes));
        node = x.0;
        there = there;
        has = same;
        few = omega (arith, same, count_few x.0 there);
      }
    where
      below : (n : ℕ) → Dec (n < count_of s nodes) → (silent_of s n).count ≤ (checked_of s).silent
      below n (yes h) = omega (arith, count_is_lem n, most_is, largest_bounds (silent_from (code_of s)) 0 (count_of s nodes) n (omega arith) (omega arith))
      below n (no h) = omega (arith, count_is_lem n, no_count (code_of s) n (omega arith))

      x : (n : ℕ) × (0 ≤ n) × (n ≤ 0 + (count_of s nodes - 1)) × (silent_from (code_of s) n ≡ largest (run (silent_from (code_of s)) 0 (suc (count_of s nodes - 1))))
      x = largest_there (silent_from (code_of s)) 0 (count_of s nodes - 1)

      some_node : suc (count_of s nodes - 1) ≡ count_of s nodes
      some_node = omega (arith, (accepts s bytes t acc).a_node)

      there : (largest_there (silent_from (code_of s)) 0 (count_of s nodes - 1)).0 < count_of s nodes
      there = omega (arith, x.2, (accepts s bytes t acc).a_node)

      same : (silent_of s (largest_there (silent_from (code_of s)) 0 (count_of s nodes - 1)).0).count ≡ (checked_of s).silent
      same = count_is_lem x.0 ∙ x.3 ∙ ap (λ (k : ℕ). largest (run (silent_from (code_of s)) 0 k)) some_node ∙ sym most_is

  module _ {b : List ℕ} {c : Config} (h : Holds s t b c) (p : Path) {a : Point} {e : ℕ} {fs : List Frame} (i : part c.tree p ≡ some (running a e fs)) where
    due_is : due (code_of s) (part c.tree p) ≡ (silent_of s a).count
    due_is = node_due h.well.formed p i ∙ sym (count_is_lem a)

    -- A row of silent moves of a thread is as long as Silent says, or ends before.
    pub counts_row : {d : Config} {ns : List ℕ} {n : ℕ} (r : Trace (code_of s) limits c ns n d) → OnlySilent p r → CountsRow s (part d.tree p) (silent_moves p r) (silent_of s a).count
    counts_row r o =
        let k = trace_counts (accepts s bytes t acc) limits p h.well.formed r o in
        record { most = omega (arith, k.0, due_is); exact = λ q. k.1 q ∙ due_is }

    module _ (k : ℕ) (l : locate c.tree k ≡ some p) where
      row : CountedRow (code_of s) limits c k p (silent_of s a).count
      row = counted_row (accepts s bytes t acc) limits k p (silent_of s a).count h.well l i alive_running due_is

      few : (silent_of s a).count ≤ CHOICES
      few = omega (arith, count_few a (on_node h.well.formed.tree p a e fs i))

      choices_few_lem : length (replicate (silent_of s a).count k) ≤ CHOICES
      choices_few_lem = omega (arith, length-replicate (silent_of s a).count k, few)

      inside : Dec (k < size c.tree) → k < FLAGS
      inside (yes m) = omega (arith, positions c.tree, h.well.within.threads)
      inside (no m) = let z = outside c.tree k (omega arith) in absurd (let z : ◌≡◌ {A = ℕ} 0 1 = cc in omega arith)

      -- And the Run that chooses it so often makes them all, unless frames are full.
      pub counted_run : CountedRun s t b c k p (silent_of s a).count
      unfolding row
      counted_run =
          let n = (silent_of s a).count in
          let j = run_reply s bytes t acc h (replicate n k) choices_few_lem in
          record {
            row = row;
            few = few;
            position = inside (dec_lt k (size c.tree));
            number = rw j refl;
            moves = rw j row.moves;
            holds = rw row.leaves at (run_holds s bytes t acc h (replicate n k) choices_few_lem);
            full =
                λ m.
                rw j
                (⊎_elim
                (λ (y : (row.made ≡ n) × (quiet_in (code_of s) (part row.after.tree p) ≡ false) × NextDue (code_of s) limits row.after p). absurd (omega (arith, y.0)))
                (λ (y : (row.made < n) × ((report (code_of s) limits c (replicate n k)).stop ≡ Full Frames)). ap stop_number y.1)
                row.ends);
          }
