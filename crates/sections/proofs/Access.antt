-- Where records lie in a script whose contents are in order.
use Prim.Native.Nat.{ℕ, ◌+◌, ◌*◌, ◌<◌, ◌≤◌}
use mathlib.Core.List.{List}
use native.Mathlib.Nat.{mul-le-mul_left, mul-suc}
use native.Mathlib.Omega.{arith}
use lib.ListN.{length}
use Rattle.limits.specs.Limits.{NODES, FILE}
use Rattle.script.specs.declared.Section.{Section}
use Rattle.script.specs.declared.Section.TheVariants.{Interfaces as interfaces, Signatures as signatures, Classes as classes, Fields as fields, Methods as methods, Nodes as nodes}
use Rattle.script.specs.Section.{sections, size_of, body_at, count_of, end_of, record_at}
use Rattle.script.specs.Statements.{PlacesAre}
use Rattle.sections.specs.Laid.{Laid}

-- A section's body ends within the file.
pub end_within : (s : List ℕ) (k : Section) → Laid s → end_of s k ≤ length s
unfolding end_of sections
end_within s k l = go k l.places_are
  where
    go : (k : Section) → PlacesAre s → body_at s k + size_of k * count_of s k ≤ length s
    go interfaces p = omega arith
    go signatures p = omega arith
    go classes p = omega arith
    go fields p = omega arith
    go methods p = omega arith
    go nodes p = omega arith

module _ (s : List ℕ) (k : Section) (i : ℕ) (l : Laid s) where
  -- A record that is there, or the place after the last, stands within the file.
  pub record_within : i ≤ count_of s k → body_at s k + size_of k * i ≤ FILE
  unfolding end_of
  record_within h = omega (arith, mul-le-mul_left (size_of k) h, end_within s k l, l.length_is.most)

  -- A record that is there lies within the file with all its words.
  pub word_within : (j : ℕ) → i < count_of s k → 2 * j + 1 < size_of k → record_at s k i + 2 * j + 1 < length s
  unfolding end_of record_at
  word_within j h b = omega (arith, mul-le-mul_left (size_of k) h, end_within s k l, mul-suc (size_of k) i)

-- No section has more records than there may be nodes.
pub count_within : (s : List ℕ) (k : Section) → Laid s → count_of s k ≤ NODES
count_within s interfaces l = omega (arith, l.counts_are.within interfaces)
count_within s signatures l = omega (arith, l.counts_are.within signatures)
count_within s classes l = omega (arith, l.counts_are.within classes)
count_within s fields l = omega (arith, l.counts_are.within fields)
count_within s methods l = omega (arith, l.counts_are.within methods)
count_within s nodes l = l.counts_are.within nodes
