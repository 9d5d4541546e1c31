-- How many nodes are the start's, and the table of sizes.
use mathlib.Core.Path.{◌≡◌, refl, sym, ap, ◌∙◌}
use mathlib.Core.List.{List, [], ◌∷◌, map}
use Prim.Native.Nat.{ℕ, ◌≤◌}
use native.Mathlib.Omega.{arith}
use lib.ListN.{length, drop}
use Rattle.script.specs.declared.Section.TheVariants.{Nodes as nodes}
use Rattle.script.specs.Section.{most_of}
use Rattle.grammar.specs.Faults.{begins_test}
use Rattle.bounds.specs.Places.{places_from}
use Rattle.rows.specs.Rows.{Item, one_added_if, node_count, sizes_of}
use Rattle.token_words.specs.Items.{Roled}
use Rattle.section_rows.specs.declared.source.Records.{Records}
use Rattle.section_rows.proofs.SourceLaws.{tokens_roled}
use Rattle.token_words.specs.Whole.{items_in}
use Rattle.section_rows.specs.Records.{begun_among}
use Rattle.section_rows.proofs.PlaceLaws.{begun_split, places_count}
use Rattle.section_rows.proofs.SizeLaws.{sizes_long}
use Rattle.section_rows.proofs.RowLaws.{roles_from}

-- the nodes from a token on
nodes_begun : (es : List Item) → node_count es ≡ begun_among nodes (map (λ (e : Item). e.role) es)
unfolding node_count begun_among
nodes_begun [] = refl
nodes_begun (e ∷ es) = ap (one_added_if (begins_test nodes e.role)) (nodes_begun es)

node_count_lem : {roles : List ℕ} {es : List Item} → Roled roles es → (i : ℕ) → node_count (drop i es) ≡ begun_among nodes (drop i roles)
node_count_lem {es = es} e i = nodes_begun (drop i es) ∙ rw (roles_from e i)

module _ (r : Records) where
  -- the start's nodes are at most all
  pub own_fits : (start : ℕ) {own : ℕ} {sizes : List ℕ} → own ≡ begun_among nodes (drop start r.items.tokens.roles.now) → sizes ≡ sizes_of (items_in r.items) → own ≤ length sizes
  own_fits start e z = omega (arith, ap length z, sizes_long (tokens_roled r), begun_split nodes r.items.tokens.roles.now start)

  pub own_is : (start : ℕ) {own : ℕ} → own ≡ begun_among nodes (drop start r.items.tokens.roles.now) → own ≡ node_count (drop start (items_in r.items))
  own_is start e = e ∙ sym (node_count_lem (tokens_roled r) start)

  -- a place for each node, of which there are not too many
  pub places_few : {places : List ℕ} → places ≡ places_from nodes 0 r.items.tokens.roles.now → length places ≤ most_of nodes
  places_few e = omega (arith, places_count nodes r.items.tokens.roles.now e, r.counted.counts_are nodes, r.few_records.within nodes)
