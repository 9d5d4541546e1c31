-- What the code of `names` answers: a law for each return, with the callees' results as variables.
use mathlib.Core.Path.{◌≡◌, sym, ◌∙◌}
use mathlib.Core.List.{List}
use mathlib.Core.Option.{Option}
use Prim.Native.Nat.{ℕ, ◌+◌, ◌-◌, ◌<◌, ◌≤◌}
use native.Mathlib.Omega.{arith}
use Rattle.std.specs.declared.option.Option.{Option as CodeOption}
use Rattle.std.specs.declared.option.Option.TheVariants.{Some, None}
use Rattle.script.specs.Lists.{sum_below}
use Rattle.script.specs.declared.Section.{Section}
use Rattle.script.specs.Section.{count_of}
use Rattle.script.specs.Asking.{first_out_of}
use Rattle.script.specs.Questions.{fresh_test}
use Rattle.sections.specs.Laid.{owner_of, own_of, name_of, new_in, fresh_in, found_of}
use Rattle.script.proofs.Lists.{sum_next, sum_more}
use Rattle.script.proofs.LayoutLaws.{run_start_lem}
use Rattle.sections.proofs.Search.{nothing_is, at_is, out_none, out_some, out_same, out_below}

-- A record of owner o's run is fresh if its name is new in that run.
fresh_new : (name own : ℕ → ℕ) (n o start i : ℕ) → start ≡ sum_below own o → o < n → start ≤ i → i < start + own o → fresh_test name own n i ≡ new_in name start i
unfolding fresh_test
fresh_new name own n o start i e h a b = rw (run_start_lem own n i o h (rw e at a) (rw e at b), ← e)

-- The run of owner o of section k, whose owners' counts add up: where it starts, and how many records it has.
pub record OwnRun (s : List ℕ) (k : Section) (start o size : ℕ) : Type 0 where
  pub total : sum_below (own_of s k) (count_of s (owner_of k)) ≡ count_of s k
  pub among : o < count_of s (owner_of k)
  pub starts : start ≡ sum_below (own_of s k) o
  pub sized : size ≡ own_of s k o

module _ {s : List ℕ} {k : Section} {start o size : ℕ} (run : OwnRun s k start o size) where
  -- It ends with the section at the latest, and there the next one starts.
  pub run_within : start + size ≤ count_of s k
  run_within = omega (arith, sum_more (own_of s k) o (count_of s (owner_of k)) run.among, run.total, run.starts, run.sized)

  pub run_next : start + size ≡ sum_below (own_of s k) (o + 1)
  run_next = sum_next (own_of s k) o start size run.starts run.sized

  in_run : first_out_of (fresh_in s k) start size ≡ first_out_of (new_in (name_of s k) start) start (start + size - start)
  in_run =
      let z : start + size - start ≡ size = omega arith in
      rw z
      (out_same (fresh_in s k) (new_in (name_of s k) start) start size λ j a b.
      fresh_new (name_of s k) (own_of s k) (count_of s (owner_of k)) o start j run.starts run.among a (rw run.sized at b))

  -- A loop that goes through the owners: the run has what is looked for, or the search goes on after it.
  module _ (whole : Option ℕ) (left : whole ≡ first_out_of (fresh_in s k) start (count_of s k - start)) (found : CodeOption ℕ) (e : found ≡ found_of (first_out_of (new_in (name_of s k) start) start (start + size - start))) where
    rest : count_of s k - start ≡ size + (count_of s k - (start + size))
    rest = omega (arith, run_within)

    pub run_at : (i : ℕ) → found ≡ Some i → Some i ≡ found_of whole
    run_at i f = rw (left, rest, out_some (fresh_in s k) start size (count_of s k - (start + size)) i (in_run ∙ at_is _ i (sym f ∙ e)))

    pub run_there : (i : ℕ) → found ≡ Some i → i ≤ count_of s k
    run_there i f = omega (arith, run_within, out_below (new_in (name_of s k) start) start (start + size - start) i (at_is _ i (sym f ∙ e)))

    pub run_none : found ≡ None → whole ≡ first_out_of (fresh_in s k) (start + size) (count_of s k - (start + size))
    run_none f = rw (left, rest) (out_none (fresh_in s k) start size (count_of s k - (start + size)) (in_run ∙ nothing_is _ (sym f ∙ e)))

-- After the last owner's run the section ends.
pub runs_end :
    (s : List ℕ) (k owner : Section) (n start o : ℕ)
    → sum_below (own_of s k) (count_of s (owner_of k)) ≡ count_of s k → owner ≡ owner_of k → n ≡ count_of s owner → start ≡ sum_below (own_of s k) o → o ≤ n → n ≤ o → count_of s k ≤ start
runs_end s k owner n start o total p q e a b =
    let z : o ≡ n = omega arith in
    let y : start ≡ count_of s k = rw (z, q, p) at e ∙ total in
    omega arith
