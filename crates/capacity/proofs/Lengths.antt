-- The length of a derivation's file, by its records.
use mathlib.Core.Path.{◌≡◌, refl}
use mathlib.Core.List.{List, [], ◌∷◌, ◌++◌, map}
use mathlib.Core.Option.{none, some}
use Prim.Native.Nat.{ℕ, ◌+◌, ◌*◌}
use native.Mathlib.Omega.{arith}
use lib.ListN.{length, length-append}
use Rattle.words.proofs.Laws.{length_bytes}
use Rattle.script.specs.Section.{sections}
use Rattle.grammar.specs.Grammar.{E, e_null, e_variable, e_select, e_update, e_call, e_let, e_new, e_cast, e_fork, e_lock, e_digits, e_minus, e_sum, e_sum_in}
use Rattle.grammar.specs.Grammar.{Id, id_list, id_join, Md, Derivation}
use Rattle.grammar.specs.Roles.{Scope, under}
use Rattle.grammar.specs.Files.{Numbering, numbering_of, nodes_in, node_words, words_all, sum_all, msig_words, id_words, msigs_of, cd_words, fd_words, mds_words, bodies_words}
use Rattle.grammar.specs.Files.{joined, mds_of, section_bodies, contents_from, file_text}
use Rattle.capacity.specs.Extent.{records_of, file_length}

-- records of the same width
pub all_words : {A : Type 0} (f : A → List ℕ) (w : ℕ) → ((a : A) → length (f a) ≡ w) → (l : List A) → length (words_all f l) ≡ w * length l
unfolding words_all
all_words f w h [] = omega arith
all_words f w h (a ∷ l) = omega (arith, length-append (f a) (words_all f l), h a, all_words f w h l)

pub id_words_lem : (k : Numbering) (i : Id) → length (id_words k i) ≡ 3
id_words_lem k (id_list i ms) = refl
id_words_lem k (id_join i a b) = refl

node_words_lem : (k : Numbering) (c : Scope) (n : ℕ) (e : E) → length (node_words k c n e) ≡ 4 * nodes_in e
unfolding node_words nodes_in
node_words_lem k c n e_null = refl
node_words_lem k c n (e_variable x) = refl
node_words_lem k c n (e_select x f) = refl
node_words_lem k c n (e_update x f e) = omega (arith, node_words_lem k c (n + 1) e)
node_words_lem k c n (e_call x m e) = omega (arith, node_words_lem k c (n + 1) e)
node_words_lem k c n (e_let y e₁ e₂) =
    omega (
      arith,
      length-append (node_words k c (n + 1) e₁) (node_words k (under y c) (n + 1 + nodes_in e₁) e₂),
      node_words_lem k c (n + 1) e₁,
      node_words_lem k (under y c) (n + 1 + nodes_in e₁) e₂,
    )
node_words_lem k c n (e_new t) = refl
node_words_lem k c n (e_cast t e) = omega (arith, node_words_lem k c (n + 1) e)
node_words_lem k c n (e_fork e₁ e₂ e₃) =
    let two = n + 1 + nodes_in e₁ in
    let three = n + 1 + nodes_in e₁ + nodes_in e₂ in
    omega (
      arith,
      length-append (node_words k c (n + 1) e₁) (node_words k c two e₂ ++ node_words k c three e₃),
      length-append (node_words k c two e₂) (node_words k c three e₃),
      node_words_lem k c (n + 1) e₁,
      node_words_lem k c two e₂,
      node_words_lem k c three e₃,
    )
node_words_lem k c n (e_lock x e) = omega (arith, node_words_lem k c (n + 1) e)
node_words_lem k c n (e_digits d) = refl
node_words_lem k c n (e_minus d) = refl
node_words_lem k c n (e_sum x y) = refl
node_words_lem k c n (e_sum_in x y) = refl

pub method_words : (k : Numbering) (n : ℕ) (l : List Md) → length (mds_words k n l) ≡ 4 * length l
unfolding mds_words
method_words k n [] = refl
method_words k n (m ∷ l) = omega (arith, method_words k (n + nodes_in m.body) l)

body_words_lem : (k : Numbering) (n : ℕ) (l : List Md) → length (bodies_words k n l) ≡ 4 * sum_all (λ m. nodes_in m.body) l
unfolding bodies_words sum_all
body_words_lem k n [] = refl
body_words_lem k n (m ∷ l) =
    let c = some m.msig.parameter in
    let rest = n + nodes_in m.body in
    omega (arith, length-append (node_words k c n m.body) (bodies_words k rest l), node_words_lem k c n m.body, body_words_lem k rest l)

pub file_length_lem : (d : Derivation) → length (file_text d) ≡ file_length d
unfolding file_text section_bodies contents_from words_all sum_all sections
file_length_lem d =
    let k = numbering_of d in
    let start = node_words k none 0 d.start in
    let bodies = bodies_words k (nodes_in d.start) (mds_of d) in
    simp (length_bytes, length-append)
    (omega (
      arith,
      all_words (id_words k) 3 (id_words_lem k) d.ids,
      all_words (msig_words k) 3 (λ s. refl) (joined msigs_of d.ids),
      all_words (cd_words k) 3 (λ c. refl) d.cds,
      all_words (fd_words k) 2 (λ f. refl) (joined (λ c. c.fds) d.cds),
      method_words k (nodes_in d.start) (mds_of d),
      node_words_lem k none 0 d.start,
      body_words_lem k (nodes_in d.start) (mds_of d),
    ))

-- The contents of the file have these numbers of records.
pub body_records : (k : Numbering) (d : Derivation) → map (λ b. b.records) (section_bodies k d) ≡ map (λ s. records_of s d) sections
unfolding section_bodies sections
body_records k d = refl
