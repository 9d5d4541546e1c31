-- A text in which no token is at fault keeps to the limits.
use mathlib.Core.Path.{◌≡◌}
use mathlib.Core.Bool.{Bool, true, false, ◌&&◌}
use mathlib.Core.List.{List, [], ◌∷◌, ◌++◌, append-nil}
use mathlib.Core.Option.{none}
use Prim.Native.Nat.{ℕ, ◌≤◌}
use native.Mathlib.Omega.{arith}
use lib.Dec.{leb}
use lib.Seq.{append_snoc}
use borrow.Author.Tests.{leb-false}
use Rattle.script.specs.Lists.{Every}
use Rattle.script.specs.declared.Section.{Section}
use Rattle.script.specs.declared.Section.TheVariants.{Interfaces as interfaces, Signatures as signatures, Classes as classes}
use Rattle.script.specs.declared.Section.TheVariants.{Fields as fields, Methods as methods, Nodes as nodes}
use Rattle.script.specs.Section.{sections, most_of}
use Rattle.grammar.specs.Grammar.{Derivation}
use Rattle.grammar.specs.Files.{sum_all}
use Rattle.grammar.specs.Faults.{Marked, marked_text, begins_test, one_more_if, begun_in, too_many_test, outside_test, first_fault, limit_fault}
use Rattle.capacity.specs.Extent.{records_of, WithinLimits}
use Rattle.capacity.proofs.Faultless.{every_section_lem, begun_next, limit_test, or_neither, faultless}
use Rattle.capacity.proofs.Begun.{begun_records}
use Rattle.capacity.proofs.Ranges.{ranged}
use Rattle.capacity.proofs.Lengths.{file_length_lem}

-- a token that is one too many in no section
abbrev over : List Marked → Marked → Section → Bool
over before m k = begins_test k m.role && leb (most_of k) (begun_in k before)

over_none : (ks : List Section) (before : List Marked) (m : Marked) → too_many_test ks before m ≡ false → Every (λ k. over before m k ≡ false) ks
unfolding too_many_test
over_none [] before m h = tt
over_none (k ∷ ks) before m h =
    let p = or_neither (over before m k) (too_many_test ks before m) h in
    (p.0, over_none ks before m p.1)

room_left : (b : Bool) (most n : ℕ) → n ≤ most → b && leb most n ≡ false → one_more_if b n ≤ most
room_left true most n l h = omega (arith, leb-false most n h)
room_left false most n l h = l

within :
    (k : Section) (before ms : List Marked)
    → begun_in k before ≤ most_of k
    → first_fault limit_test before ms ≡ none
    → begun_in k (before ++ ms) ≤ most_of k
within k before [] l h = rw (append-nil before) l
within k before (m ∷ ms) l h =
    let p = faultless limit_test before m ms h in
    let q = (or_neither (too_many_test sections before m) (outside_test m ms) p.0).0 in
    let r = room_left (begins_test k m.role) (most_of k) (begun_in k before) l (every_section_lem (λ j. over before m j ≡ false) (over_none sections before m q) k) in
    rw (append_snoc before m ms) at (within k (before ++ (m ∷ [])) ms (rw (begun_next k before m) r) p.1)

none_begun : (k : Section) → begun_in k [] ≤ most_of k
unfolding begun_in
none_begun k = omega arith

pub within_limits : (d : Derivation) → limit_fault (marked_text d) ≡ none → WithinLimits d
unfolding limit_fault sum_all sections
within_limits d h =
    let r = ranged d h in
    let counts : (k : Section) → records_of k d ≤ most_of k = λ k. rw (begun_records k d) at (within k [] (marked_text d) (none_begun k) h) in
    record {
      counts = counts;
      start_ranged = r.0;
      bodies_ranged = r.1;
      file_fits = omega (arith, file_length_lem d, counts interfaces, counts signatures, counts classes, counts fields, counts methods, counts nodes);
    }
