-- Rows appended one after another.
use mathlib.Core.Path.{◌≡◌, refl, sym, ap, ◌∙◌}
use mathlib.Core.List.{List, [], ◌∷◌, ◌++◌, append_assoc, append-nil}
use Prim.Native.Nat.{ℕ, ◌+◌, ◌-◌, ◌*◌, ◌≤◌, ◌<◌}
use native.Mathlib.Omega.{arith}
use lib.ListN.{length, get_or, take, drop, length-append}
use Rattle.script.specs.declared.Section.{Section}
use Rattle.script.specs.declared.Section.TheVariants.{Nodes as nodes}
use Rattle.grammar.specs.Faults.{begins_test}
use Rattle.grammar.specs.Roles.{R_CAST}
use Rattle.bounds.specs.Places.{places_from}
use Rattle.rows.specs.Rows.{Item, one_added_if, node_row, sizes_of}
use Rattle.token_words.specs.Items.{Roled, Described, Readable, items_of}
use Rattle.row_words.specs.Row.{row_of}
use Rattle.token_words.proofs.TokenLaws.{items_shown}
use Rattle.row_bytes.specs.declared.output.Output.{Output}
use Rattle.row_bytes.specs.Output.{Fits, Extended}
use Rattle.row_bytes.proofs.OutputLaws.{extended_as, fits_second, extended_both}
use Rattle.section_rows.specs.Records.{begun_among, Unnumbered, Stretch}
use Rattle.section_rows.specs.Counted.{SizesKnown, all_rows}
use Rattle.row_bytes.proofs.WrittenLaws.{written_none}
use Rattle.section_rows.proofs.PlaceLaws.{Place, begun_split, begun_next, begun_all, place_next, place_before, places_count, place_at_lem}
use Rattle.section_rows.proofs.SizeLaws.{sizes_long, sizes_next}
use Rattle.section_rows.proofs.RowLaws.{roled_long, rows_between, between_length, nodes_skipped, rows_next, rows_none}

pub shown : {text roles offsets values sizes : List ℕ} {types : ℕ} → Readable text roles offsets values sizes types → Described text roles offsets values (items_of text roles offsets values)
shown r = items_shown _ _ _ _ r.offset_each r.value_each

-- some rows are written, the rest is left
pub record Wrote (whole : List ℕ) (o : Output) (rest : List ℕ) (p : Output) : Type 0 where
  pub done : List ℕ
  pub splits : done ++ rest ≡ whole
  pub extended : Extended o p done

module _ (whole : List ℕ) (o : Output) where
  wrote_none : Wrote whole o whole o
  wrote_none =
      record {
        done = [];
        splits = refl;
        extended = record { same_reference = refl; same_long = refl; appended = record { file_is = sym (written_none o.bytes.now o.end); end_is = omega arith } };
      }

  module _ (row next : List ℕ) {rest : List ℕ} {p : Output} (r : Fits o whole) (w : Wrote whole o rest p) (e : rest ≡ row ++ next) where
    all_split : (w.done ++ row) ++ next ≡ whole
    all_split = append_assoc w.done row next ∙ ap (λ (l : List ℕ). w.done ++ l) (sym e) ∙ w.splits

    so_far : Fits o (w.done ++ row)
    so_far = omega (arith, r, ap length all_split, length-append (w.done ++ row) next)

    wrote_room : Fits p row
    wrote_room = fits_second o w.done row so_far w.extended

    wrote_more : {q : Output} → Extended p q row → Wrote whole o next q
    wrote_more f = record { done = w.done ++ row; splits = all_split; extended = extended_both o w.done row so_far w.extended f }

  wrote_all : {p : Output} → Wrote whole o [] p → Extended o p whole
  wrote_all w = extended_as (sym (append-nil w.done) ∙ w.splits) w.extended

-- the loop: the records of a section that begin from token `from` on are appended up to record k, the first that does not begin before token i. The node that
-- begins next is node n, where the first that begins from token `from` on is node `base`.
pub record Appending (roles : List ℕ) (es : List Item) (s : Section) (types from to base : ℕ) (o p : Output) (k : ℕ) : Type 0 where
  pub i : ℕ
  pub n : ℕ
  pub before_to : i ≤ to
  pub passed : begun_among s (take i roles) ≡ k
  pub number : n + begun_among nodes (take from roles) ≡ base + begun_among nodes (take i roles)
  pub wrote : Wrote (rows_between s types from to base es) o (rows_between s types i to n es) p

pub append_start :
    (roles : List ℕ) (es : List Item) (s : Section) (types from to base : ℕ) (o : Output) {k : ℕ}
    → from ≤ to
    → begun_among s (take from roles) ≡ k
    → Appending roles es s types from to base o o k
append_start roles es s types from to base o h p =
    record {
      i = from;
      n = base;
      before_to = h;
      passed = p;
      number = refl;
      wrote = wrote_none (rows_between s types from to base es) o;
    }

module _
    {roles : List ℕ} {es : List Item} (e : Roled roles es)
    {s : Section} {types from to base : ℕ} {o p : Output} {k : ℕ}
    (w : Appending roles es s types from to base o p k) where
  -- no record is left
  pub append_end : begun_among s (take to roles) ≤ k → Extended o p (rows_between s types from to base es)
  append_end h = wrote_all (rows_between s types from to base es) o (rw (rows_none e s types w.i to w.n w.before_to (omega (arith, w.passed))) at w.wrote)

  -- record k is left, which begins at token t, and is written with number x
  module _
      (room : Fits o (rows_between s types from to base es))
      (more : k < begun_among s (take to roles))
      {t : ℕ} (z : Place s roles k t)
      (x : ℕ) (same : (m : ℕ) → m + begun_among nodes (take from roles) ≡ base + begun_among nodes (take t roles) → row_of s types x (drop t es) ≡ row_of s types m (drop t es)) where
    abbrev row : List ℕ
    row = row_of s types x (drop t es)

    abbrev number_here : ℕ
    number_here = w.n + begun_among nodes (take (t - w.i) (drop w.i roles))

    abbrev number_next : ℕ
    number_next = number_here + one_added_if (begins_test nodes (get_or roles t 0)) 0

    number_is : number_here + begun_among nodes (take from roles) ≡ base + begun_among nodes (take t roles)
    number_is = omega (arith, w.number, nodes_skipped e s types z w.i to w.passed more w.n)

    rest : rows_between s types w.i to w.n es ≡ row ++ rows_between s types (t + 1) to number_next es
    rest = rows_next e s types z w.i to w.passed more w.n ∙ rw (same number_here number_is)

    append_room : Fits p row
    append_room = wrote_room (rows_between s types from to base es) o row (rows_between s types (t + 1) to number_next es) room w.wrote rest

    append_next : {q : Output} → Extended p q row → Appending roles es s types from to base o q (k + 1)
    append_next f =
        record {
          i = t + 1;
          n = number_next;
          before_to = let l : t < to = place_before z more in omega arith;
          passed = place_next z;
          number = omega (arith, number_is, begun_next nodes roles t z.inside);
          wrote = wrote_more (rows_between s types from to base es) o row (rows_between s types (t + 1) to number_next es) room w.wrote rest f;
        }

-- as many items as tokens
module _ {text roles offsets values sizes : List ℕ} {types : ℕ} (q : Readable text roles offsets values sizes types) where
  abbrev items : List Item
  items = items_of text roles offsets values

  pub items_roled : Roled roles items
  items_roled = (shown q).marks.roled

  pub items_long : length items ≡ length roles
  items_long = roled_long items_roled

  all_rows_lem : (s : Section) (n : ℕ) → rows_between s types 0 (length roles) n items ≡ all_rows s types n items
  all_rows_lem s n = let e : length roles - 0 ≡ length items = omega (arith, items_long) in rw e

-- the row of the same number
pub number_row : (s : Section) (types : ℕ) (es : List Item) {x m : ℕ} → x ≡ m → row_of s types x es ≡ row_of s types m es
number_row s types es e = rw e

-- rows without a node's number are not those of nodes
pub plain_not_nodes : {s : Section} → Unnumbered s → s ≡ nodes → ⊥
unfolding node_row
plain_not_nodes p e =
    let f : Unnumbered nodes = rw e at p in
    omega (arith, ap (λ (l : List ℕ). get_or l 2 0) (f.same 0 0 1 (record { role = R_CAST; value = 0; amount = 0 } ∷ [])))

-- the loop over a section of the whole text
module _
    {text roles offsets values sizes : List ℕ} {types : ℕ} (q : Readable text roles offsets values sizes types) (s : Section) {places : List ℕ}
    (e : places ≡ places_from s 0 roles) where
  abbrev Whole : ℕ → Output → Output → ℕ → Type 0
  Whole base o p k = Appending roles (items q) s types 0 (length roles) base o p k

  pub whole_start : (base : ℕ) (o : Output) → Whole base o o 0
  unfolding begun_among
  whole_start base o = append_start roles (items q) s types 0 (length roles) base o (omega arith) refl

  count_is_lem : length places ≡ begun_among s (take (length roles) roles)
  count_is_lem = places_count s roles e ∙ sym (begun_all s roles {i = length roles} (omega arith))

  module _ {base : ℕ} {o p : Output} {k : ℕ} (w : Whole base o p k) where
    pub whole_end : length places ≤ k → Extended o p (all_rows s types base (items q))
    whole_end h = rw (all_rows_lem q s base) at (append_end (items_roled q) w (omega (arith, count_is_lem)))

    module _
        (room : Fits o (all_rows s types base (items q)))
        (more : k < length places)
        (x : ℕ) (same : (m : ℕ) → m ≡ base + begun_among nodes (take (get_or places k 0) roles) → row_of s types x (drop (get_or places k 0) (items q)) ≡ row_of s types m (drop (get_or places k 0) (items q))) where
      room' : Fits o (rows_between s types 0 (length roles) base (items q))
      room' = rw (all_rows_lem q s base) room

      more' : k < begun_among s (take (length roles) roles)
      more' = omega (arith, count_is_lem)

      z : Place s roles k (get_or places k 0)
      z = place_at_lem s roles e k more

      same' : (m : ℕ) → m + begun_among nodes (take 0 roles) ≡ base + begun_among nodes (take (get_or places k 0) roles) → row_of s types x (drop (get_or places k 0) (items q)) ≡ row_of s types m (drop (get_or places k 0) (items q))
      unfolding begun_among
      same' m h = same m (omega arith)

      pub whole_room : Fits p (row_of s types x (drop (get_or places k 0) (items q)))
      whole_room = append_room (items_roled q) w room' more' z x same'

      pub whole_next : {p' : Output} → Extended p p' (row_of s types x (drop (get_or places k 0) (items q))) → Whole base o p' (k + 1)
      whole_next f = append_next (items_roled q) w room' more' z x same' f

-- a place and a size for each node
pub nodes_few :
    {text roles offsets values sizes places : List ℕ} {types base : ℕ}
    → SizesKnown text roles offsets values sizes types base
    → places ≡ places_from nodes 0 roles
    → length places ≡ length sizes
nodes_few {roles = roles} q e = places_count nodes roles e ∙ sym (ap length q.sizes_are ∙ sizes_long (items_roled q.readable))

pub nodes_within :
    {text roles offsets values sizes : List ℕ} {types base : ℕ}
    → SizesKnown text roles offsets values sizes types base
    → (i : ℕ)
    → begun_among nodes (take i roles) ≤ length sizes
nodes_within {roles = roles} q i = omega (arith, ap length q.sizes_are, sizes_long (items_roled q.readable), begun_split nodes roles i)

-- the loop over nodes, of which node k begins at token p
module _
    {text roles offsets values sizes : List ℕ} {types base : ℕ} (q : SizesKnown text roles offsets values sizes types base)
    {k p : ℕ} (z : Place nodes roles k p) where
  pub node_sizes : drop (k + 1) sizes ≡ sizes_of (drop (p + 1) (items_of text roles offsets values))
  node_sizes = ap (drop (k + 1)) q.sizes_are ∙ sizes_next (items_roled q.readable) z

  module _
      {from to a b : ℕ} (l : from ≤ k) (h : k < to) (t : Stretch roles from to a b) {o r : Output}
      (room : o.end + 8 * (to - from) ≤ length o.bytes.now)
      (w : Appending roles (items q.readable) nodes types a b base o r k) where
    pub node_next :
        {r' : Output}
        → Extended r r' (row_of nodes types (base + (k - from)) (drop p (items q.readable)))
        → Appending roles (items q.readable) nodes types a b base o r' (k + 1)
    node_next f =
        let r : Fits o (rows_between nodes types a b base (items q.readable)) =
        omega (arith, between_length (items_roled q.readable) types a b base t.ordered, t.from_is, t.to_is)
        in
        append_next (items_roled q.readable) w r (omega (arith, t.to_is)) z (base + (k - from)) (λ m e. number_row nodes types (drop p (items q.readable)) (omega (arith, e, t.from_is, z.passed))) f
