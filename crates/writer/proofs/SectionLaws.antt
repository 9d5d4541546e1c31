-- The sections as `rows` has them, and how long they are.
use mathlib.Core.Path.{◌≡◌, refl, sym, ap, ◌∙◌}
use mathlib.Core.Bool.{cond}
use mathlib.Core.List.{List, [], ◌∷◌, ◌++◌, append_assoc}
use Prim.Native.Nat.{ℕ, zero, suc, ◌+◌, ◌-◌, ◌*◌, ◌≤◌}
use native.Mathlib.Omega.{arith}
use lib.Dec.{eqb}
use lib.ListN.{length, take, drop, replicate, length-append, length-drop}
use lib.Seq.{take_all}
use Rattle.words.specs.Word.{bytes}
use Rattle.words.proofs.Laws.{length_bytes}
use Rattle.limits.specs.Limits.{CONTENTS, FILE}
use Rattle.script.specs.declared.Section.{Section}
use Rattle.script.specs.declared.Section.TheVariants.{Interfaces as interfaces, Signatures as signatures, Classes as classes}
use Rattle.script.specs.declared.Section.TheVariants.{Fields as fields, Methods as methods, Nodes as nodes}
use Rattle.script.specs.Section.{size_of}
use Rattle.grammar.specs.Roles.{R_INTERFACE, R_SIGNATURE, R_CLASS, R_FIELD}
use Rattle.grammar.specs.Faults.{begins_test}
use Rattle.rows.specs.Rows.{one_added_if, Item, interface_row, signature_row, class_row, field_row}
use Rattle.rows.specs.Rows.{one_added_if, rows_with, method_rows, node_count, node_rows, sections_words, sizes_of}
use Rattle.token_words.specs.Items.{Roled}
use Rattle.row_words.specs.Row.{row_of}
use Rattle.section_rows.specs.Records.{begun_among, row_if, rows_of}
use Rattle.bounds.specs.declared.counts.Counts.{Counts}
use Rattle.bounds.specs.Counting.{counted_of, types_of}
use Rattle.token_words.specs.Whole.{items_in}
use Rattle.section_rows.specs.declared.source.Records.{Records}
use Rattle.section_rows.proofs.SourceLaws.{tokens_roled}
use Rattle.section_rows.proofs.SizeLaws.{sizes_long}
use Rattle.section_rows.specs.Counted.{CountsRight, CountsFit, all_rows, rows_all_plain, record_rows, start_and_bodies}
use Rattle.writer.specs.Files.{FileIs, contents_by, file_words}
use Rattle.row_bytes.specs.Written.{written, Appended}
use Rattle.row_bytes.specs.declared.output.Output.{Output}
use Rattle.row_bytes.specs.Output.{Extended}
use Rattle.row_bytes.proofs.OutputLaws.{extended_both}
use Rattle.section_rows.proofs.PlaceLaws.{begun_all}
use Rattle.section_rows.proofs.RowLaws.{roled_long, rows_between, rows_length, between_length}

-- the same rows
plain_rows :
    (s : Section) (types r : ℕ) (row : List Item → List ℕ)
    → ((x : ℕ) → begins_test s x ≡ eqb x r)
    → ((n : ℕ) (es : List Item) → row_of s types n es ≡ row es)
    → (n : ℕ) (es : List Item)
    → all_rows s types n es ≡ rows_with r row es
unfolding rows_of rows_with
plain_rows s types r row b f n [] = refl
plain_rows s types r row b f n (e ∷ es) =
    rw (b e.role, f n (e ∷ es)) (ap (λ (l : List ℕ). cond (eqb e.role r) (row (e ∷ es)) [] ++ l) (plain_rows s types r row b f (one_added_if (begins_test nodes e.role) n) es))

method_rows_lem : (types n : ℕ) (es : List Item) → all_rows methods types n es ≡ method_rows types n es
unfolding rows_of method_rows
method_rows_lem types n [] = refl
method_rows_lem types n (e ∷ es) = ap (λ (l : List ℕ). row_if methods types n (e ∷ es) ++ l) (method_rows_lem types (one_added_if (begins_test nodes e.role) n) es)

node_rows_lem : (types k n : ℕ) (es : List Item) → rows_of nodes types k n es ≡ node_rows types k n es
unfolding rows_of node_rows
node_rows_lem types zero n es = refl
node_rows_lem types (suc k) n [] = refl
node_rows_lem types (suc k) n (e ∷ es) = ap (λ (l : List ℕ). row_if nodes types n (e ∷ es) ++ l) (node_rows_lem types k _ es)

sections_are : (types start : ℕ) (es : List Item) → record_rows types (node_count (drop start es)) es ++ start_and_bodies types start (node_count (drop start es)) es ≡ sections_words types start es
unfolding sections_words
sections_are types start es =
    let n : ℕ = node_count (drop start es) in
    rw (
      plain_rows interfaces types R_INTERFACE (interface_row types) (λ x. refl) (λ k l. refl) 0 es,
      plain_rows signatures types R_SIGNATURE (signature_row types) (λ x. refl) (λ k l. refl) 0 es,
      plain_rows classes types R_CLASS (class_row types) (λ x. refl) (λ k l. refl) 0 es,
      plain_rows fields types R_FIELD (field_row types) (λ x. refl) (λ k l. refl) 0 es,
      method_rows_lem types n es,
      node_rows_lem types (length es - start) 0 (drop start es),
      node_rows_lem types start n es,
      ← length-drop start es,
    )
    (simp append_assoc)

module _ {roles : List ℕ} {es : List Item} (e : Roled roles es) {c : Counts} (k : CountsRight roles c) (types : ℕ) where
  all_length : (s : Section) (n : ℕ) → 2 * length (all_rows s types n es) ≡ size_of s * counted_of c s
  all_length s n =
      rows_length s types (length es) n es
      ∙ rw (e.roles_are, take_all (length es) roles (omega (arith, roled_long e)), ← k.counts_are s)

  nodes_length : (start n : ℕ) → start ≤ length roles → 2 * length (start_and_bodies types start n es) ≡ 8 * counted_of c nodes
  unfolding begun_among
  nodes_length start n h =
      let a : 2 * length (rows_between nodes types start (length es) 0 es) + 8 * begun_among nodes (take start roles) ≡ 8 * begun_among nodes (take (length es) roles) =
      between_length e types start (length es) 0 (omega (arith, roled_long e))
      in
      let b : 2 * length (rows_of nodes types start n es) ≡ 8 * begun_among nodes (take start roles) = rows_length nodes types start n es ∙ rw e.roles_are in
      omega (
        arith,
        a,
        b,
        length-append (rows_of nodes types (length es - start) 0 (drop start es)) (rows_of nodes types start n es),
        begun_all nodes roles {i = length es} (omega (arith, roled_long e)),
        k.counts_are nodes,
      )

  sections_fit : CountsFit c → (start n : ℕ) → start ≤ length roles → 24 + 2 * length (record_rows types n es ++ start_and_bodies types start n es) ≤ 13592
  sections_fit w start n h =
      let a = all_rows interfaces types 0 es in
      let b = all_rows signatures types 0 es in
      let p = all_rows classes types 0 es in
      let q = all_rows fields types 0 es in
      let m = all_rows methods types n es in
      omega (
        arith,
        length-append (record_rows types n es) (start_and_bodies types start n es),
        length-append (rows_all_plain types es) m,
        length-append (a ++ b) (p ++ q),
        length-append a b,
        length-append p q,
        all_length interfaces 0,
        all_length signatures 0,
        all_length classes 0,
        all_length fields 0,
        all_length methods n,
        nodes_length start n h,
        w.within interfaces,
        w.within signatures,
        w.within classes,
        w.within fields,
        w.within methods,
        w.within nodes,
      )

-- the words of the nodes, by their sizes
pub nodes_long :
    (r : Records) {sizes : List ℕ}
    → sizes ≡ sizes_of (items_in r.items)
    → (start n : ℕ)
    → start ≤ length r.items.tokens.roles.now
    → 2 * length (start_and_bodies r.items.types start n (items_in r.items)) ≡ 8 * length sizes
nodes_long r z start n h =
    nodes_length (tokens_roled r) r.counted r.items.types start n h
    ∙ ap (λ (k : ℕ). 8 * k) (r.counted.counts_are nodes ∙ sym (ap length z ∙ sizes_long (tokens_roled r)))

-- the sections, where the start has `base` nodes
pub sections_from : (types start : ℕ) {base : ℕ} (es : List Item) → base ≡ node_count (drop start es) → record_rows types base es ++ start_and_bodies types start base es ≡ sections_words types start es
sections_from types start es b = rw b (sections_are types start es)

-- the file fits
pub words_fit :
    (r : Records) (start : ℕ)
    → start ≤ length r.items.tokens.roles.now
    → CONTENTS + 2 * length (sections_words r.items.types start (items_in r.items)) ≤ FILE
words_fit r start h =
    let es : List Item = items_in r.items in
    rw (← sections_are r.items.types start es) (sections_fit (tokens_roled r) r.counted r.items.types r.few_records start (node_count (drop start es)) h)

pub contents_long : (c : Counts) → 2 * length (contents_by c) ≡ CONTENTS
unfolding contents_by
contents_long c = refl

pub whole_fits : (r : Records) (start : ℕ) → start ≤ length r.items.tokens.roles.now → 2 * length (file_words r.counts start (items_in r.items)) ≤ FILE
whole_fits r start h =
    let w = sections_words (types_of r.counts) start (items_in r.items) in
    omega (arith, rw r.types_are at (words_fit r start h), contents_long r.counts, length-append (contents_by r.counts) w)

-- four words, three times
pub contents_extended :
    {o p q r : Output} (us vs ws : List ℕ)
    → length us ≡ 4
    → length vs ≡ 4
    → length ws ≡ 4
    → o.end + CONTENTS ≤ length o.bytes.now
    → Extended o p us
    → Extended p q vs
    → Extended q r ws
    → Extended o r ((us ++ vs) ++ ws)
contents_extended {o} us vs ws a b c h x y z =
    extended_both o (us ++ vs) ws (omega (arith, length-append (us ++ vs) ws, length-append us vs)) (extended_both o us vs (omega (arith, length-append us vs)) x y) z

-- the whole buffer
drop_zeros : (k n : ℕ) → drop {A = ℕ} k (replicate n 0) ≡ replicate (n - k) 0
drop_zeros zero n = let e : n - 0 ≡ n = omega arith in rw e
drop_zeros (suc k) zero = let e : 0 - suc k ≡ 0 = omega arith in rw e
drop_zeros (suc k) (suc n) = let e : suc n - suc k ≡ n - k = omega arith in rw e (drop_zeros k n)

pub buffer_is : (s ws : List ℕ) {z t : List ℕ} {r : ℕ} → length s ≡ FILE → 2 * length ws ≤ FILE → z ≡ replicate (length s) 0 → Appended z 0 t r ws → FileIs ws t r
unfolding written
buffer_is s ws {r = r} l h e a =
    let n : r ≡ 0 + 2 * length ws = a.end_is in
    let d : drop {A = ℕ} r (replicate (length s) 0) ≡ replicate (FILE - r) 0 = drop_zeros r (length s) ∙ rw l in
    record {
      file_is = a.file_is ∙ rw (← n, e) (ap (λ (x : List ℕ). bytes ws ++ x) d);
      length_is = omega (arith, length_bytes ws);
      fits = omega arith;
    }
