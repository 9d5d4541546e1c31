-- The sections one after another.
use mathlib.Core.Path.{◌≡◌, refl, sym, ◌∙◌}
use mathlib.Core.List.{List, ◌++◌}
use Prim.Native.Nat.{ℕ, ◌+◌, ◌-◌, ◌*◌, ◌≤◌}
use native.Mathlib.Omega.{arith}
use lib.ListN.{length, take, drop, length-append}
use Rattle.script.specs.declared.Section.{Section}
use Rattle.script.specs.declared.Section.TheVariants.{Interfaces as interfaces, Signatures as signatures, Classes as classes}
use Rattle.script.specs.declared.Section.TheVariants.{Fields as fields, Methods as methods, Nodes as nodes}
use Rattle.script.specs.Section.{most_of}
use Rattle.bounds.specs.Places.{places_from, index_of, RECORDS, IndexIs}
use Rattle.rows.specs.Rows.{Item}
use Rattle.token_words.specs.Items.{Readable, items_of}
use Rattle.section_rows.specs.Records.{begun_among, Stretch}
use Rattle.bounds.specs.declared.counts.Counts.{Counts}
use Rattle.bounds.specs.Counting.{counted_of}
use Rattle.section_rows.specs.Counted.{CountsFit, CountsRight, start_and_bodies}
use Rattle.section_rows.proofs.PlaceLaws.{begun_split, begun_all, index_part}
use Rattle.section_rows.proofs.RowLaws.{rows_between, between_length}
use Rattle.section_rows.proofs.AppendLaws.{items_roled, items_long}

-- the start's nodes, of which there are `own`, are the last of all, and the bodies' the first
module _
    {text roles offsets values sizes : List ℕ} {types : ℕ} (q : Readable text roles offsets values sizes types)
    {all : ℕ} (p : all ≡ begun_among nodes roles) {start own : ℕ} (h : start ≤ length roles) (o : own ≡ begun_among nodes (drop start roles)) where
  abbrev items : List Item
  items = items_of text roles offsets values

  pub start_stretch : Stretch roles (all - own) (all) start (length roles)
  start_stretch =
      record {
        ordered = h;
        inside = omega arith;
        from_is = omega (arith, p, begun_split nodes roles start);
        to_is = p ∙ sym (begun_all nodes roles {i = length roles} (omega arith));
      }

  pub body_stretch : Stretch roles 0 (all - own) 0 start
  unfolding begun_among
  body_stretch =
      record { ordered = omega arith; inside = h; from_is = refl; to_is = omega (arith, p, begun_split nodes roles start) }

  pub stretches_fit : 2 * length (rows_between nodes types start (length roles) 0 items ++ rows_between nodes types 0 start own items) ≡ 8 * all
  unfolding begun_among
  stretches_fit =
      let e = items_roled q in
      let u : List ℕ = rows_between nodes types start (length roles) 0 items in
      let v : List ℕ = rows_between nodes types 0 start own items in
      omega (
        arith,
        length-append u v,
        between_length e types start (length roles) 0 h,
        between_length e types 0 start own (omega arith),
        begun_all nodes roles {i = length roles} (omega arith),
        p,
      )

  pub stretches : rows_between nodes types start (length roles) 0 items ++ rows_between nodes types 0 start own items ≡ start_and_bodies types start own items
  stretches = let z : start - 0 ≡ start = omega arith in rw (← items_long q, z)

-- what is prepared for all sections, for one
index_within : (s : Section) {n : ℕ} → n ≤ most_of s → index_of s + n ≤ RECORDS
index_within interfaces h = omega arith
index_within signatures h = omega arith
index_within classes h = omega arith
index_within fields h = omega arith
index_within methods h = omega arith
index_within nodes h = omega arith

module _ {roles index : List ℕ} {c : Counts} (x : IndexIs roles index) (k : CountsRight roles c) (w : CountsFit c) where
  pub part_within : (s : Section) → index_of s + counted_of c s ≤ length index
  part_within s = omega (arith, x.long, index_within s (w.within s))

  pub part_places : (s : Section) → take (index_of s + counted_of c s - index_of s) (drop (index_of s) index) ≡ places_from s 0 roles
  part_places s =
      let e : index_of s + counted_of c s - index_of s ≡ counted_of c s = omega arith in index_part x s (k.counts_are s) (index_within s (w.within s)) e

  pub part_of : (s : Section) {first count : ℕ} → first ≡ index_of s → count ≡ counted_of c s → take (first + count - first) (drop first index) ≡ places_from s 0 roles
  part_of s a b = rw (a, b) (part_places s)
