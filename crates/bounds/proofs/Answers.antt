-- What the pass knows on its way, and what it answers.
use mathlib.Core.Path.{◌≡◌, refl, sym, ◌∙◌}
use mathlib.Core.Bool.{Bool, true, false}
use mathlib.Core.List.{List}
use Prim.Native.Nat.{ℕ, ◌+◌, ◌≤◌, ◌<◌}
use native.Mathlib.Omega.{arith}
use lib.Dec.{eqb}
use lib.ListN.{length, get_or, set, drop, replicate, length-set}
use borrow.Author.Tests.{ne_eqb}
use Rattle.script.specs.declared.Section.{Section}
use Rattle.script.specs.declared.Section.TheVariants.{Nodes as nodes}
use Rattle.script.specs.Section.{entry_of, most_of}
use Rattle.script.proofs.Lists.{zeros}
use Rattle.grammar.specs.Tokens.{Lexeme}
use Rattle.grammar.specs.Faults.{marked_by, begins_test, outside_test}
use Rattle.bounds.specs.declared.counts.Counts.{Counts}
use Rattle.bounds.specs.Counting.{SECTIONS, full_test, IntegersSpelt, AllCounted, FaultAt, marked_at}
use Rattle.bounds.proofs.Counters.{no_section, none_counted}
use Rattle.bounds.proofs.Outside.{length_tokens, token_at_lem, not_outside}
use Rattle.bounds.specs.Places.{RECORDS, index_start}
use Rattle.bounds.proofs.PlaceLaws.{Placing, placing, placing_next, no_place}
use Rattle.bounds.proofs.Pass.{Passed, start, passed_all, counted_all, still_fits, full_fault, outside_fault, pass}

-- whatever the tokens are that the text spells, the first i of them are passed
pub record Going (text roles offsets counts index : List ℕ) (i : ℕ) : Type 0 where
  pub six : length counts ≡ SECTIONS
  pub fit : (k : Section) → get_or counts (entry_of k) 0 ≤ most_of k
  pub passed : (ls : List Lexeme) → IntegersSpelt text roles offsets (length roles) ls → Passed (marked_by roles ls) counts i
  pub placing : Placing roles counts index i
  pub upto : i ≤ length roles

module _ (text roles offsets : List ℕ) where
  pub going : (index : List ℕ) → length index ≡ RECORDS → Going text roles offsets (replicate 6 0) index 0
  going index l =
      record {
        six = refl;
        fit = λ k. omega (arith, zeros 6 (entry_of k));
        passed = λ ls s. start (marked_by roles ls);
        placing = placing roles index l;
        upto = omega arith;
      }

  module _ (counts index : List ℕ) (i : ℕ) (g : Going text roles offsets counts index i) where
    pub gone : (c : Counts) → length roles ≤ i → c.entries ≡ counts → (ls : List Lexeme) → IntegersSpelt text roles offsets (length roles) ls → AllCounted (marked_by roles ls) c
    gone c h e ls s =
        let ms = marked_by roles ls in
        let i_is : i ≡ length roles = omega (arith, g.upto) in
        let p : Passed ms counts (length roles) = rw i_is at (g.passed ls s) in
        let long = length_tokens text roles offsets ls s in
        record {
          faultless = passed_all ms counts (length roles) long p;
          counts = λ k. rw e (counted_all ms counts (length roles) long p k, g.fit k);
        }

    module _ (h : i < length roles) (e : ℕ) (b : ((k : Section) → begins_test k (get_or roles i 0) ≡ eqb e (entry_of k)) × (e ≤ SECTIONS)) where
      expression_ways : (ls : List Lexeme) → IntegersSpelt text roles offsets (length roles) ls → (k : Section) → begins_test k (marked_at (marked_by roles ls) i).role ≡ eqb e (entry_of k)
      expression_ways ls s k = rw (token_at_lem text roles offsets ls s i h) (b.0 k)

      within : (ls : List Lexeme) → IntegersSpelt text roles offsets (length roles) ls → i < length (marked_by roles ls)
      within ls s = omega (arith, length_tokens text roles offsets ls s)

      pub full : full_test counts e ≡ true → (ls : List Lexeme) → IntegersSpelt text roles offsets (length roles) ls → FaultAt (marked_by roles ls) i
      full f ls s =
          record {
            among = within ls s;
            faulty = full_fault (marked_by roles ls) counts i e (g.passed ls s) (within ls s) b.1 (expression_ways ls s) f;
          }

      module _
          (o : Bool)
          (asked : (ls : List Lexeme) → IntegersSpelt text roles offsets (length roles) ls
          → o ≡ outside_test (marked_at (marked_by roles ls) i) (drop (i + 1) (marked_by roles ls)))
        where
          pub outside : o ≡ true → (ls : List Lexeme) → IntegersSpelt text roles offsets (length roles) ls → FaultAt (marked_by roles ls) i
          outside q ls s =
              record {
                among = within ls s;
                faulty = outside_fault (marked_by roles ls) counts i e (g.passed ls s) (within ls s) b.1 (expression_ways ls s) (sym (asked ls s) ∙ q);
              }

          pub gone_on :
              full_test counts e ≡ false
              → o ≡ false
              → (after index' : List ℕ)
              → after ≡ set counts e (get_or counts e 0 + 1)
              → index' ≡ set index (index_start e + get_or counts e 0) i
              → Going text roles offsets after index' (i + 1)
          gone_on not_full x after index' z y =
              rw (z, y)
              (record {
                six = length-set counts e (get_or counts e 0 + 1) ∙ g.six;
                fit = still_fits counts e g.six not_full g.fit;
                passed = λ ls s.
                    pass (marked_by roles ls) counts i e (g.passed ls s) (within ls s) b.1 (expression_ways ls s) g.six not_full (sym (asked ls s) ∙ x);
                placing = placing_next roles counts index i e g.placing h b.1 b.0 g.six g.fit not_full;
                upto = omega arith;
              })

      -- a token that begins no record
      pub gone_past : e ≡ SECTIONS → Going text roles offsets counts index (i + 1)
      gone_past z =
          gone_on false (λ ls s. sym (not_outside (marked_at (marked_by roles ls) i) (drop (i + 1) (marked_by roles ls)) (expression_ways ls s nodes ∙ ne_eqb e (entry_of nodes) (λ x. omega arith))))
          (sym (no_section counts e z)) refl counts index (none_counted counts e g.six (omega arith)) (no_place counts index e i g.placing.long z)
