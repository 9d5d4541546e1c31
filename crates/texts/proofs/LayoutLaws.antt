-- A file that was read gets a yes to questions 1, 2, 3, 5 and 7.
use mathlib.Core.Path.{◌≡◌, refl, ◌∙◌}
use mathlib.Core.List.{List, ◌∷◌, ◌++◌}
use mathlib.Core.Option.{Option, none, some}
use Prim.Native.Nat.{ℕ, ◌+◌, ◌*◌, ◌<◌, ◌≤◌}
use native.Mathlib.Omega.{arith}
use lib.ListN.{length, length-append}
use Rattle.words.specs.Word.{bytes}
use Rattle.words.proofs.Laws.{length_bytes}
use Rattle.script.specs.declared.Section.{Section}
use Rattle.script.specs.declared.Section.TheVariants.{Interfaces as interfaces, Signatures as signatures, Classes as classes}
use Rattle.script.specs.declared.Section.TheVariants.{Fields as fields, Methods as methods, Nodes as nodes}
use Rattle.script.specs.Lists.{run}
use Rattle.script.specs.Section.{most_of, size_of, count_of, record_at, record_word}
use Rattle.script.specs.Reading.{own_signatures, own_fields, own_methods}
use Rattle.script.specs.declared.Refusal.{Refusal}
use Rattle.script.specs.Asking.{first_no}
use Rattle.script.specs.Questions.{parts_from, uses_in, layout_questions}
use Rattle.script.specs.Statements.{OwnersAre, NodeIs, NodesAre}
use Rattle.script.proofs.Lists.{run_has}
use Rattle.script.proofs.Tests.{yes_said}
use Rattle.script.proofs.Lowest.{fault_not, lowest_none}
use Rattle.script.proofs.LayoutLaws.{decides_length, decides_counts, decides_places, decides_owners, lowest_nodes, LayoutNo, length_no, counts_no, places_no, interfaces_no, owners_no, types_no, nodes_no, names_no, LayoutSays, all_yes, first_no_lem, layout_says}
use Rattle.grammar.specs.Grammar.{Id, id_list, id_join, Cd, Derivation}
use Rattle.grammar.specs.Files.{Numbering, numbering_of, nodes_in, msig_words, id_words, msigs_of, cd_words, fd_words, joined, mds_of, section_bodies, file_text}
use Rattle.texts.specs.Answers.{FileStands}
use Rattle.texts.specs.Layout.{body_of, KeepsLimits, LayoutAnswers, LeftOpen, interfaces_left, types_left, names_left}
use Rattle.texts.proofs.Held.{Held, held_bytes, file_words, count_of_lem, body_held, places_are, length_is}
use Rattle.texts.proofs.Rows.{length_rows, length_joined, first_record, owned}
use Rattle.texts.proofs.Forest.{Forest, used}
use Rattle.texts.proofs.Nodes.{a_node, length_nodes, all_nodes, body_nodes, body_within, length_methods, length_bodies, all_nodes_lem, method_bodies}

module _ (k : Numbering) (d : Derivation) where
  id_width : (i : Id) → length (id_words k i) ≡ 3
  id_width (id_list i ms) = refl
  id_width (id_join i a b) = refl

  -- The words of a section are those of its records.
  sized : (section : Section) → 2 * length (body_of k d section).words ≡ size_of section * (body_of k d section).records
  unfolding section_bodies
  sized interfaces = omega (arith, length_rows (id_words k) 3 id_width d.ids)
  sized signatures = omega (arith, length_rows (msig_words k) 3 (λ g. refl) (joined msigs_of d.ids))
  sized classes = omega (arith, length_rows (cd_words k) 3 (λ c. refl) d.cds)
  sized fields = omega (arith, length_rows (fd_words k) 2 (λ f. refl) (joined (λ c. c.fds) d.cds))
  sized methods = omega (arith, length_methods k (nodes_in d.start) (mds_of d))
  sized nodes =
      simp length-append (omega (arith, length_nodes k none 0 d.start, length_bodies k (nodes_in d.start) (mds_of d)))

  module _ (s : List ℕ) (h : Held s 0 (file_words (body_of k d))) where
    own_signatures_lem : (i : ℕ) (a : Id) → Held s (record_at s interfaces i) (id_words k a) → own_signatures s i ≡ length (msigs_of a)
    unfolding own_signatures record_word
    own_signatures_lem i (id_list x ms) r =
        let form : record_word s interfaces i 0 ≡ 0 = r.word 0 (omega arith) in
        let count : record_word s interfaces i 1 ≡ length ms = r.word 1 (omega arith) in
        rw (form, count)
    own_signatures_lem i (id_join x a b) r = let form : record_word s interfaces i 0 ≡ 1 = r.word 0 (omega arith) in rw form

    own_fields_lem : (i : ℕ) (c : Cd) → Held s (record_at s classes i) (cd_words k c) → own_fields s i ≡ length c.fds
    unfolding own_fields record_word
    own_fields_lem i c r = r.word 1 (omega arith)

    own_methods_lem : (i : ℕ) (c : Cd) → Held s (record_at s classes i) (cd_words k c) → own_methods s i ≡ length c.mds
    unfolding own_methods record_word
    own_methods_lem i c r = r.word 2 (omega arith)

    owners : OwnersAre s
    unfolding section_bodies
    owners =
        let count = count_of_lem s (body_of k d) h in
        let held = body_held s (body_of k d) h in
        record {
          of_signatures =
              rw (count interfaces, count signatures)
              (owned s interfaces (id_words k) (λ i. length (msigs_of i)) (own_signatures s) (λ i. omega (arith, id_width i)) own_signatures_lem d.ids (held interfaces)
              ∙ length_joined msigs_of d.ids);
          of_fields =
              rw (count classes, count fields)
              (owned s classes (cd_words k) (λ c. length c.fds) (own_fields s) (λ c. refl) own_fields_lem d.cds (held classes)
              ∙ length_joined (λ c. c.fds) d.cds);
          of_methods =
              rw (count classes, count methods)
              (owned s classes (cd_words k) (λ c. length c.mds) (own_methods s) (λ c. refl) own_methods_lem d.cds (held classes)
              ∙ length_joined (λ c. c.mds) d.cds);
        }

    count_nodes : count_of s nodes ≡ nodes_in d.start + all_nodes (mds_of d)
    unfolding section_bodies
    count_nodes = count_of_lem s (body_of k d) h nodes

    -- The methods' words, and every use of a node.
    named_bodies : run (λ i. record_word s methods i 3) 0 (count_of s methods) ≡ body_nodes (nodes_in d.start) (mds_of d)
    unfolding section_bodies
    named_bodies =
        rw (count_of_lem s (body_of k d) h methods) (method_bodies k s 0 (nodes_in d.start) (mds_of d) (first_record s methods (body_held s (body_of k d) h methods)))

    uses : uses_in s ≡ body_nodes (nodes_in d.start) (mds_of d) ++ parts_from s 0 (nodes_in d.start + all_nodes (mds_of d))
    unfolding uses_in
    uses = rw (named_bodies, count_nodes)

    forest : Forest s 0 (nodes_in d.start + all_nodes (mds_of d)) (0 ∷ body_nodes (nodes_in d.start) (mds_of d))
    unfolding section_bodies
    forest = all_nodes_lem k s d.start (mds_of d) (omega (arith, count_nodes)) (first_record s nodes (body_held s (body_of k d) h nodes))

    body_there : (i : ℕ) → i < count_of s methods → record_word s methods i 3 < count_of s nodes
    body_there i l =
        rw count_nodes
        (body_within (nodes_in d.start) (mds_of d) (record_word s methods i 3)
        (rw named_bodies at (run_has (λ j. record_word s methods j 3) 0 (count_of s methods) i (omega arith) (omega arith))))

    node_is : (n : ℕ) → n < count_of s nodes → NodeIs s n
    node_is n l =
        let below : n < nodes_in d.start + all_nodes (mds_of d) = rw count_nodes at l in
        let u = used s forest n below in
        record { words = forest.words n (omega arith) (omega arith); start_unused = rw uses u.0; used_once = rw uses u.1 }

    stands : length s ≡ 2 * length (file_words (body_of k d)) → ((section : Section) → (body_of k d section).records ≤ most_of section) → FileStands s
    stands whole within =
        record {
          one = length_is s (body_of k d) h sized whole within;
          two =
              record {
                within = λ section. rw (count_of_lem s (body_of k d) h section) (within section);
                a_node = omega (arith, count_nodes, a_node d.start);
              };
          three = places_are s (body_of k d) h sized whole;
          five = owners;
          seven = (body_there, (node_is, tt));
        }

-- A file that was read stands: a yes to questions 1, 2, 3, 5 and 7, as the plain statements ask them.
pub file_stands : (d : Derivation) → KeepsLimits d → FileStands (file_text d)
unfolding section_bodies file_text
file_stands d within = let ws = file_words (body_of (numbering_of d) d) in stands (numbering_of d) d (bytes ws) (held_bytes ws) (length_bytes ws) within

module _ (s : List ℕ) (l : FileStands s) where
  answers : LayoutAnswers s
  answers =
      record {
        length_yes = yes_said (decides_length s) l.one;
        counts_yes = yes_said (decides_counts s) l.two;
        places_yes = yes_said (decides_places s) l.three;
        owners_yes = yes_said (decides_owners s) l.five;
        nodes_yes = lowest_none (lowest_nodes s l.three) l.seven;
      }

  no_left : {r : Refusal} → LayoutNo s r → LeftOpen r.question
  no_left (length_no n b) = absurd (n l.one)
  no_left (counts_no n b) = absurd (n l.two)
  no_left (places_no n b) = absurd (n l.three)
  no_left (interfaces_no n b) = interfaces_left
  no_left (owners_no n b) = absurd (n l.five)
  no_left (types_no n b) = types_left
  no_left (nodes_no {place = place} n b) = absurd (fault_not s (NodesAre s) place n.fault l.seven)
  no_left (names_no n b) = names_left

-- As the computed answers say them.
pub layout_answers : (d : Derivation) → KeepsLimits d → LayoutAnswers (file_text d)
layout_answers d within = answers (file_text d) (file_stands d within)

-- The first no that such a file gets to questions 1 to 8 is to 4, 6 or 8.
pub first_left : (d : Derivation) → KeepsLimits d → (r : Refusal) → first_no (layout_questions (file_text d)) ≡ some r → LeftOpen r.question
first_left d within r e = go (layout_says (file_text d)) e
  where
    go : {o : Option Refusal} → LayoutSays (file_text d) o → o ≡ some r → LeftOpen r.question
    go (all_yes b) p = absurd (let z : ◌≡◌ {A = ℕ} 0 1 = cc in omega arith)
    go (first_no_lem {r = q} n) p = let same : q ≡ r = cc in rw same at (no_left (file_text d) (file_stands d within) n)
