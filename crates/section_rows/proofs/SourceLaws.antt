-- What is known of a source, and its sections one after another.
use mathlib.Core.Path.{◌≡◌, ap, ◌∙◌}
use mathlib.Core.List.{List, ◌++◌, append_assoc}
use Prim.Native.Nat.{ℕ, ◌≤◌}
use native.Mathlib.Omega.{arith}
use lib.ListN.{length}
use Rattle.script.specs.declared.Section.TheVariants.{Interfaces as interfaces, Signatures as signatures, Classes as classes}
use Rattle.script.specs.declared.Section.TheVariants.{Fields as fields, Methods as methods, Nodes as nodes}
use Rattle.script.specs.Section.{most_of}
use Rattle.rows.specs.Rows.{Item, sizes_of}
use Rattle.token_words.specs.Items.{Roled, Readable}
use Rattle.token_words.specs.Whole.{items_in}
use Rattle.token_words.proofs.TokenLaws.{items_shown}
use Rattle.section_rows.specs.declared.source.Records.{Records}
use Rattle.section_rows.specs.declared.source.Source.{Source}
use Rattle.section_rows.specs.Records.{begun_among}
use Rattle.section_rows.specs.Counted.{SizesKnown, all_rows, record_rows}
use Rattle.row_bytes.specs.declared.output.Output.{Output}
use Rattle.row_bytes.specs.Output.{Fits, Extended}
use Rattle.row_bytes.proofs.OutputLaws.{fits_second, extended_both}
use Rattle.section_rows.proofs.SizeLaws.{nested_sizes, sizes_long}

pub tokens_roled : (r : Records) → Roled r.items.tokens.roles.now (items_in r.items)
tokens_roled r = (items_shown _ _ _ _ r.items.tokens.offset_each r.items.value_each).marks.roled

-- the sizes of a text's nodes are as many as the nodes
pub nodes_many : (r : Records) (sizes : List ℕ) → sizes ≡ sizes_of (items_in r.items) → length sizes ≤ most_of nodes
nodes_many r sizes e = omega (arith, ap length e, sizes_long (tokens_roled r), r.counted.counts_are nodes, r.few_records.within nodes)

module _ (s : Source) where
  pub sizes_few : length s.sizes.now ≤ most_of nodes
  sizes_few = nodes_many s.records s.sizes.now s.sizes_are

  pub sizes_all : length s.sizes.now ≡ begun_among nodes s.records.items.tokens.roles.now
  sizes_all = ap length s.sizes_are ∙ sizes_long (tokens_roled s.records)

  pub source_readable :
      Readable s.records.items.tokens.text.bytes.now s.records.items.tokens.roles.now s.records.items.tokens.offsets.now s.records.items.values.now s.sizes.now
      s.records.items.types
  source_readable =
      record {
        small = s.records.items.small;
        few_types = s.records.items.few_types;
        few_tokens = s.records.items.few_tokens;
        within_text = record { within = s.records.items.tokens.inside };
        nested = rw s.sizes_are (nested_sizes (items_in s.records.items));
        offset_each = s.records.items.tokens.offset_each;
        value_each = s.records.items.value_each;
      }

  pub source_known :
      {base : ℕ}
      → base ≤ length s.sizes.now
      → SizesKnown s.records.items.tokens.text.bytes.now s.records.items.tokens.roles.now s.records.items.tokens.offsets.now s.records.items.values.now s.sizes.now
      s.records.items.types base
  source_known h = record { readable = source_readable; sizes_are = s.sizes_are; few_nodes = omega (arith, sizes_few) }

-- the sections but the nodes, the first before all others
pub in_order :
    (types own : ℕ) (es : List Item)
    → record_rows types own es
    ≡ all_rows interfaces types 0 es
    ++ (all_rows signatures types 0 es ++ (all_rows classes types 0 es ++ (all_rows fields types 0 es ++ all_rows methods types own es)))
in_order types own es =
    simp append_assoc

-- and so are they written
pub extended_all :
    (types own : ℕ) (es : List Item) {o p₁ p₂ p₃ p₄ p₅ : Output}
    → Fits o (record_rows types own es)
    → Extended o p₁ (all_rows interfaces types 0 es)
    → Extended p₁ p₂ (all_rows signatures types 0 es)
    → Extended p₂ p₃ (all_rows classes types 0 es)
    → Extended p₃ p₄ (all_rows fields types 0 es)
    → Extended p₄ p₅ (all_rows methods types own es)
    → Extended o p₅ (record_rows types own es)
extended_all types own es {o} {p₁} {p₂} {p₃} room i s c f m =
    let vs₃ = all_rows fields types 0 es ++ all_rows methods types own es in
    let vs₂ = all_rows classes types 0 es ++ vs₃ in
    let vs₁ = all_rows signatures types 0 es ++ vs₂ in
    let r₀ : Fits o (all_rows interfaces types 0 es ++ vs₁) = rw (in_order types own es) at room in
    let r₁ = fits_second o (all_rows interfaces types 0 es) vs₁ r₀ i in
    let r₂ = fits_second p₁ (all_rows signatures types 0 es) vs₂ r₁ s in
    let r₃ = fits_second p₂ (all_rows classes types 0 es) vs₃ r₂ c in
    let a₃ = extended_both p₃ (all_rows fields types 0 es) (all_rows methods types own es) r₃ f m in
    let a₂ = extended_both p₂ (all_rows classes types 0 es) vs₃ r₂ c a₃ in
    let a₁ = extended_both p₁ (all_rows signatures types 0 es) vs₂ r₁ s a₂ in
    rw (in_order types own es) (extended_both o (all_rows interfaces types 0 es) vs₁ r₀ i a₁)
