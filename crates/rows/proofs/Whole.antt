-- The words read off the items of a derivation are the words of its file.
use Prim.Native.Nat.{ℕ, suc, ◌+◌, ◌*◌}
use mathlib.Core.Path.{◌≡◌, refl, sym, ap, ◌∙◌}
use mathlib.Core.List.{List, [], ◌∷◌, ◌++◌, append_assoc, append-nil}
use mathlib.Core.Option.{none, some}
use native.Mathlib.Nat.{mul_assoc}
use native.Mathlib.Omega.{arith}
use lib.ListN.{length, drop}
use lib.Seq.{drop-append_seam}
use Rattle.limits.specs.Limits.{CONTENTS}
use Rattle.words.specs.Word.{bytes}
use Rattle.grammar.specs.Grammar.{E, Id, id_list, id_join, Cd, Derivation}
use Rattle.grammar.specs.Roles.{R_INTERFACE, R_CLASS, R_METHOD, R_SIGNATURE, R_FIELD, Scope}
use Rattle.grammar.specs.Files.{Numbering, numbering_of, words_all, sum_all, joined, id_words, msig_words, msigs_of, cd_words, fd_words, mds_of, nodes_in, node_words}
use Rattle.grammar.specs.Files.{mds_words, bodies_words, section_bodies, contents_from, file_text}
use Rattle.capacity.proofs.Lengths.{all_words, id_words_lem, method_words}
use Rattle.rows.specs.Rows.{Item, owned, rows_with, interface_row, signature_row, class_row, field_row, method_rows, node_rows, node_count, sections_words, contents_words}
use Rattle.rows.specs.Items.{items, items_all, items_id, items_cd, items_before, items_text}
use Rattle.rows.proofs.Expressions.{node_count_lem}
use Rattle.rows.proofs.NodeRows.{more, more_first, node_rows_lem}
use Rattle.rows.proofs.Lacking.{Record, Lacks, lacks_all, lacks_items, rows_skip, owned_skip, rows_each, methods_skip}
use Rattle.rows.proofs.Declared.{Ends, is_interface, is_class, is_signature, is_field, is_method, lacks_id, lacks_cd, interface_row_lem, signature_rows, class_row_lem, field_rows}
use Rattle.rows.proofs.Methods.{classes_methods, classes_bodies, nodes_skip, count_ids}

-- A list of items alone, and a start, which ends the declaration before it.
no_rows : (r : ℕ) (row : List Item → List ℕ) (a : List Item) → Lacks r a → rows_with r row a ≡ []
unfolding rows_with
no_rows r row a h = ap (rows_with r row) (sym (append-nil a)) ∙ rows_skip r row a [] h

none_owned : (k : Numbering) (c : Scope) (e : E) {r : ℕ} → Record r → owned r (items k c e) ≡ 0
unfolding owned
none_owned k c e {r} h =
    ap (owned r) (sym (append-nil (items k c e)))
    ∙ owned_skip r (items k c e) [] (lacks_items k c e is_interface) (lacks_items k c e is_class) (lacks_items k c e h)

ends_start : (k : Numbering) (e : E) → Ends (items k none e)
ends_start k e =
    record {
      no_signature = none_owned k none e is_signature;
      no_field = none_owned k none e is_field;
      no_method = none_owned k none e is_method;
    }

ends_id : (k : Numbering) (i : Id) (l : List Item) → Ends l → Ends (items_id k i ++ l)
unfolding owned items_id
ends_id k (id_list i ms) l h = record { no_signature = refl; no_field = refl; no_method = refl }
ends_id k (id_join i a b) l h = record { no_signature = refl; no_field = refl; no_method = refl }

ends_cd : (k : Numbering) (c : Cd) (l : List Item) → Ends l → Ends (items_cd k c ++ l)
unfolding owned items_cd
ends_cd k c l h = record { no_signature = refl; no_field = refl; no_method = refl }

-- A section of which each interface and each class gives some words.
section_rows :
    (k : Numbering) (d : Derivation) {r : ℕ} (row : List Item → List ℕ) (w : Id → List ℕ) (v : Cd → List ℕ)
    → Record r
    → ((i : Id) (l : List Item) → Ends l → rows_with r row (items_id k i ++ l) ≡ w i ++ rows_with r row l)
    → ((c : Cd) (l : List Item) → Ends l → rows_with r row (items_cd k c ++ l) ≡ v c ++ rows_with r row l)
    → rows_with r row (items_text k d) ≡ words_all w d.ids ++ words_all v d.cds
unfolding items_text items_before
section_rows k d {r} row w v h f g =
    let cs = items_all (items_cd k) d.cds in
    let start = items k none d.start in
    let q = rows_each Ends r row (items_cd k) v (ends_cd k) g d.cds start (ends_start k d.start) in
    let p = rows_each Ends r row (items_id k) w (ends_id k) f d.ids (cs ++ start) q.0 in
    rw (append_assoc (items_all (items_id k) d.ids) cs start)
    (p.1
    ∙ ap (λ a. words_all w d.ids ++ a)
    (q.1 ∙ ap (λ a. words_all v d.cds ++ a) (no_rows r row start (lacks_items k none d.start h)) ∙ append-nil (words_all v d.cds)))

no_words : {A : Type 0} (l : List A) → words_all (λ a. []) l ≡ []
unfolding words_all
no_words [] = refl
no_words (a ∷ l) = no_words l

words_append : {A : Type 0} (f : A → List ℕ) (a b : List A) → words_all f (a ++ b) ≡ words_all f a ++ words_all f b
unfolding words_all
words_append f [] b = refl
words_append f (x ∷ a) b = rw (words_append f a b, append_assoc (f x) (words_all f a) (words_all f b)) refl

words_joined : {A B : Type 0} (f : A → List B) (g : B → List ℕ) (l : List A) → words_all (λ a. words_all g (f a)) l ≡ words_all g (joined f l)
unfolding words_all joined
words_joined f g [] = refl
words_joined f g (a ∷ l) = rw (words_append g (f a) (joined f l), words_joined f g l) refl

interfaces_words : (k : Numbering) (d : Derivation) → rows_with R_INTERFACE (interface_row (length k.type_names)) (items_text k d) ≡ words_all (id_words k) d.ids
interfaces_words k d =
    let row = interface_row (length k.type_names) in
    section_rows k d row (id_words k) (λ c. []) is_interface (interface_row_lem k)
    (λ c l h. rows_skip R_INTERFACE row (items_cd k c) l (lacks_cd k c is_interface (λ e. omega (arith, e)) (λ e. omega (arith, e)) (λ e. omega (arith, e))))
    ∙ ap (λ a. words_all (id_words k) d.ids ++ a) (no_words d.cds)
    ∙ append-nil (words_all (id_words k) d.ids)

signatures_words :
    (k : Numbering) (d : Derivation)
    → rows_with R_SIGNATURE (signature_row (length k.type_names)) (items_text k d) ≡ words_all (msig_words k) (joined msigs_of d.ids)
signatures_words k d =
    let row = signature_row (length k.type_names) in
    section_rows k d row (λ i. words_all (msig_words k) (msigs_of i)) (λ c. []) is_signature (λ i l h. signature_rows k i l)
    (λ c l h. rows_skip R_SIGNATURE row (items_cd k c) l (lacks_cd k c is_signature (λ e. omega (arith, e)) (λ e. omega (arith, e)) (λ e. omega (arith, e))))
    ∙ ap (λ a. words_all (λ i. words_all (msig_words k) (msigs_of i)) d.ids ++ a) (no_words d.cds)
    ∙ append-nil (words_all (λ i. words_all (msig_words k) (msigs_of i)) d.ids)
    ∙ words_joined msigs_of (msig_words k) d.ids

classes_words : (k : Numbering) (d : Derivation) → rows_with R_CLASS (class_row (length k.type_names)) (items_text k d) ≡ words_all (cd_words k) d.cds
classes_words k d =
    let row = class_row (length k.type_names) in
    section_rows k d row (λ i. []) (cd_words k) is_class
    (λ i l h. rows_skip R_CLASS row (items_id k i) l (lacks_id k i is_class (λ e. omega (arith, e)) (λ e. omega (arith, e))))
    (class_row_lem k)
    ∙ ap (λ a. a ++ words_all (cd_words k) d.cds) (no_words d.ids)

fields_words :
    (k : Numbering) (d : Derivation)
    → rows_with R_FIELD (field_row (length k.type_names)) (items_text k d) ≡ words_all (fd_words k) (joined (λ c. c.fds) d.cds)
fields_words k d =
    let row = field_row (length k.type_names) in
    section_rows k d row (λ i. []) (λ c. words_all (fd_words k) c.fds) is_field
    (λ i l h. rows_skip R_FIELD row (items_id k i) l (lacks_id k i is_field (λ e. omega (arith, e)) (λ e. omega (arith, e))))
    (λ c l h. field_rows k c l)
    ∙ ap (λ a. a ++ words_all (λ c. words_all (fd_words k) c.fds) d.cds) (no_words d.ids)
    ∙ words_joined (λ c. c.fds) (fd_words k) d.cds

-- Methods and nodes.
methods_words : (k : Numbering) (d : Derivation) (n : ℕ) → method_rows (length k.type_names) n (items_text k d) ≡ mds_words k n (mds_of d)
unfolding items_text items_before method_rows
methods_words k d n =
    let types = length k.type_names in
    let ids = items_all (items_id k) d.ids in
    let cs = items_all (items_cd k) d.cds in
    let start = items k none d.start in
    let last = n + sum_all (λ m. nodes_in m.body) (mds_of d) in
    rw (append_assoc ids cs start)
    (methods_skip types n ids (cs ++ start) (lacks_all R_METHOD (items_id k) (λ i. lacks_id k i is_method (λ e. omega (arith, e)) (λ e. omega (arith, e))) d.ids)
    ∙ ap (λ q. method_rows types q (cs ++ start)) (omega (arith, count_ids k d.ids))
    ∙ classes_methods k n d.cds start
    ∙ ap (λ a. mds_words k n (mds_of d) ++ a)
    (ap (λ l. method_rows types last l) (sym (append-nil start)) ∙ methods_skip types last start [] (lacks_items k none d.start is_method))
    ∙ append-nil (mds_words k n (mds_of d)))

more_all : (a : List Item) → more a 0 ≡ length a
unfolding more
more_all [] = refl
more_all (i ∷ a) = ap suc (more_all a)

start_words : (k : Numbering) (e : E) → node_rows (length k.type_names) (length (items k none e)) 0 (items k none e) ≡ node_words k none 0 e
unfolding node_rows
start_words k e =
    let es = items k none e in
    ap (λ l. node_rows (length k.type_names) (length es) 0 l) (sym (append-nil es))
    ∙ ap (λ q. node_rows (length k.type_names) q 0 (es ++ [])) (sym (more_all es))
    ∙ node_rows_lem k none e 0 0 []
    ∙ append-nil (node_words k none 0 e)

bodies_words_lem :
    (k : Numbering) (d : Derivation) (n : ℕ)
    → node_rows (length k.type_names) (length (items_before k d)) n (items_text k d) ≡ bodies_words k n (mds_of d)
unfolding items_text items_before node_rows
bodies_words_lem k d n =
    let types = length k.type_names in
    let ids = items_all (items_id k) d.ids in
    let cs = items_all (items_cd k) d.cds in
    let start = items k none d.start in
    rw (sym (more_all (ids ++ cs)), more_first ids cs 0, append_assoc ids cs start)
    (nodes_skip types (more cs 0) n ids (cs ++ start) (count_ids k d.ids)
    ∙ classes_bodies k 0 n d.cds start
    ∙ append-nil (bodies_words k n (mds_of d)))

start_count : (k : Numbering) (e : E) → node_count (items k none e) ≡ nodes_in e
unfolding node_count
start_count k e = omega (arith, ap node_count (append-nil (items k none e)), node_count_lem k none e [])

behind : (k : Numbering) (d : Derivation) → drop (length (items_before k d)) (items_text k d) ≡ items k none d.start
unfolding items_text
behind k d = drop-append_seam (items_before k d) (items k none d.start)

-- All sections,
pub sections_words_lem :
    (k : Numbering) (d : Derivation)
    → sections_words (length k.type_names) (length (items_before k d)) (items_text k d) ≡ words_all (λ b. b.words) (section_bodies k d)
unfolding sections_words section_bodies words_all
sections_words_lem k d =
    rw (
      interfaces_words k d,
      signatures_words k d,
      classes_words k d,
      fields_words k d,
      behind k d,
      start_count k d.start,
      methods_words k d (nodes_in d.start),
      start_words k d.start,
      bodies_words_lem k d (nodes_in d.start),
      append-nil (node_words k none 0 d.start ++ bodies_words k (nodes_in d.start) (mds_of d)),
    )
    refl

-- and the contents.
bytes_of : (w b n : ℕ) → 2 * w ≡ b → 2 * (w * n) ≡ b * n
bytes_of w b n h = sym (mul_assoc 2 w n) ∙ ap (λ q. q * n) h

pub contents_words_lem :
    (k : Numbering) (d : Derivation)
    → contents_words
    (length d.ids)
    (length (joined msigs_of d.ids))
    (length d.cds)
    (length (joined (λ c. c.fds) d.cds))
    (length (mds_of d))
    (nodes_in d.start + sum_all (λ m. nodes_in m.body) (mds_of d))
    ≡ contents_from CONTENTS (section_bodies k d)
unfolding contents_from section_bodies
contents_words_lem k d =
    rw (
      all_words (id_words k) 3 (id_words_lem k) d.ids,
      all_words (msig_words k) 3 (λ s. refl) (joined msigs_of d.ids),
      all_words (cd_words k) 3 (λ c. refl) d.cds,
      all_words (fd_words k) 2 (λ f. refl) (joined (λ c. c.fds) d.cds),
      method_words k (nodes_in d.start) (mds_of d),
      bytes_of 3 6 (length d.ids) refl,
      bytes_of 3 6 (length (joined msigs_of d.ids)) refl,
      bytes_of 3 6 (length d.cds) refl,
      bytes_of 2 4 (length (joined (λ c. c.fds) d.cds)) refl,
      bytes_of 4 8 (length (mds_of d)) refl,
    )
    refl

-- The file.
pub file_words_lem :
    (d : Derivation)
    → bytes (contents_words
    (length d.ids)
    (length (joined msigs_of d.ids))
    (length d.cds)
    (length (joined (λ c. c.fds) d.cds))
    (length (mds_of d))
    (nodes_in d.start + sum_all (λ m. nodes_in m.body) (mds_of d))
    ++ sections_words (length (numbering_of d).type_names) (length (items_before (numbering_of d) d)) (items_text (numbering_of d) d))
    ≡ file_text d
unfolding file_text
file_words_lem d =
    let k = numbering_of d in
    ap (λ c. bytes (c ++ sections_words (length k.type_names) (length (items_before k d)) (items_text k d))) (contents_words_lem k d)
    ∙ ap (λ w. bytes (contents_from CONTENTS (section_bodies k d) ++ w)) (sections_words_lem k d)
