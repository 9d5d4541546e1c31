-- What the writer is handed is writable, and what it writes is what Read answers.
use Prim.Native.Nat.{ℕ, ◌+◌, ◌-◌, ◌<◌, ◌≤◌}
use mathlib.Core.Path.{◌≡◌, refl, sym, ap, ◌∙◌}
use mathlib.Core.List.{List, ◌++◌, map}
use native.Mathlib.Omega.{arith}
use lib.ListN.{length, take, replicate, length-append, length-map}
use lib.Seq.{take_at}
use Rattle.limits.specs.Limits.{FILE, TEXT}
use Rattle.words.specs.Word.{WORD, bytes}
use Rattle.script.specs.declared.Section.TheVariants.{Interfaces as interfaces, Signatures as signatures, Classes as classes}
use Rattle.script.specs.declared.Section.TheVariants.{Fields as fields, Methods as methods, Nodes as nodes}
use Rattle.grammar.specs.Tokens.{tokens_of}
use Rattle.grammar.specs.Grammar.{spelled_text}
use Rattle.grammar.specs.Roles.{roles_text}
use Rattle.grammar.specs.Files.{numbering_of, file_text}
use Rattle.grammar.specs.Read.{read_of}
use Rattle.capacity.specs.Extent.{WithinLimits}
use Rattle.capacity.proofs.Roles.{text_spelled}
use Rattle.capacity.proofs.Begun.{begun_records}
use Rattle.capacity.proofs.Within.{within_limits}
use Rattle.capacity.proofs.Few.{tokens_few}
use Rattle.rows.specs.Items.{items_text}
use Rattle.rows.proofs.Whole.{file_words_lem}
use Rattle.rows.proofs.Zipped.{text_by, before_length, items_length}
use Rattle.std.specs.Prelude.{Ok}
use Rattle.tokens.specs.declared.roles.Tokens.{Tokens}
use Rattle.token_words.specs.Items.{Small, items_of}
use Rattle.bounds.specs.declared.counts.Counts.{Counts}
use Rattle.bounds.specs.Counting.{types_of}
use Rattle.section_rows.specs.Records.{begun_among}
use Rattle.section_rows.specs.Counted.{CountsFit, CountsRight}
use Rattle.writer.specs.Files.{contents_by, file_words, FileIs}
use Rattle.ask_limits.specs.Reading.{ReadAs}
use Rattle.ask_limits.specs.Derived.{NumberedText}
use Rattle.ask_limits.proofs.Laws.{read_whole}
use Rattle.ask_limits.proofs.DeclaredCount.{types_counted}
use Rattle.ask_limits.proofs.Items.{begun_roles, items_derived, values_small}
use Rattle.ask_limits.proofs.PassLaws.{derives, in_text, before_first}

module _ {k : Tokens} {values index : List ℕ} {start : ℕ} {c : Counts} {file : List ℕ} (j : NumberedText k values index start c file) where
  abbrev n : ℕ
  n = length k.roles.now

  limited : WithinLimits j.judged.derived_text.derivation
  limited = within_limits j.judged.derived_text.derivation j.no_limit

  values_all : length (map (λ e. e.value) (items_text (numbering_of j.judged.derived_text.derivation) j.judged.derived_text.derivation)) ≡ n
  values_all =
      let t = j.judged.derived_text in
      let d = t.derivation in
      length-map (items_text (numbering_of d) d) (λ e. e.value)
      ∙ ap length (sym (text_by (numbering_of d) d))
      ∙ items_length (numbering_of d) (roles_text d) (spelled_text d) (text_spelled d)
      ∙ ap length (sym t.roles_are)

  values_taken : take n values ≡ map (λ e. e.value) (items_text (numbering_of j.judged.derived_text.derivation) j.judged.derived_text.derivation)
  values_taken =
      let d = j.judged.derived_text.derivation in
      ap (take n) j.values_are ∙ take_at (map (λ e. e.value) (items_text (numbering_of d) d)) j.rest n values_all

  pub in_values : n ≤ length values
  in_values =
      let d = j.judged.derived_text.derivation in
      omega (arith, ap length j.values_are, length-append (map (λ e. e.value) (items_text (numbering_of d) d)) j.rest, values_all)

  pub small : Small (take n values)
  small =
      let t = j.judged.derived_text in
      let d = t.derivation in
      record { fits = λ i. rw values_taken (omega (arith, values_small k.text.bytes.now d (derives t) i, tokens_few d limited)) }

  pub value_each : length (take n values) ≡ n
  value_each = ap length values_taken ∙ values_all

  pub few_tokens : n ≤ TEXT
  few_tokens = omega (arith, in_text j.judged.derived_text, j.judged.short)

  pub starts_within : start ≤ n
  starts_within = rw j.judged.derived_text.roles_are (before_first j.judged.derived_text)

  pub counted : CountsRight k.roles.now c
  counted =
      let t = j.judged.derived_text in
      let d = t.derivation in
      record {
        counts_are =
            λ s.
            j.counts_are s
            ∙ sym (begun_records s d)
            ∙ sym (begun_roles s (roles_text d) (spelled_text d) (text_spelled d))
            ∙ ap (begun_among s) (sym t.roles_are);
      }

  pub few_records : CountsFit c
  few_records = record { within = λ s. omega (arith, j.counts_are s, limited.counts s) }

  -- There are no more types than interfaces and classes may be.
  pub few_types : types_of c + 1 < WORD
  few_types = omega (arith, few_records.within interfaces, few_records.within classes)

  -- The words are the file's.
  words_are : bytes (file_words c start (items_of k.text.bytes.now k.roles.now k.offsets.now (take n values))) ≡ file_text j.judged.derived_text.derivation
  unfolding contents_by
  words_are =
      let t = j.judged.derived_text in
      let d = t.derivation in
      let text = k.text.bytes.now in
      let es = items_text (numbering_of d) d in
      let items : items_of text k.roles.now k.offsets.now (take n values) ≡ es =
      ap (λ rs. items_of text rs k.offsets.now (take n values)) t.roles_are
      ∙ ap (λ os. items_of text (roles_text d) os (take n values)) t.offsets_are
      ∙ ap (items_of text (roles_text d) (map (λ t. t.offset) (tokens_of text))) values_taken
      ∙ items_derived text d (derives t) limited
      in
      let types : types_of c ≡ length (numbering_of d).type_names =
      omega (arith, j.counts_are interfaces, j.counts_are classes, types_counted d j.no_fault)
      in
      rw (
        items,
        types,
        t.starts,
        sym (before_length (numbering_of d) d),
        j.counts_are interfaces,
        j.counts_are signatures,
        j.counts_are classes,
        j.counts_are fields,
        j.counts_are methods,
        j.counts_are nodes,
      )
      (file_words_lem d)

  pub file_read_lem :
      {r : ℕ} {file' : List ℕ}
      → FileIs (file_words c start (items_of k.text.bytes.now k.roles.now k.offsets.now (take n values))) file' r
      → ReadAs (Ok r) file' (read_of k.text.bytes.now file)
  file_read_lem {r} {file'} f =
      let t = j.judged.derived_text in
      let d = t.derivation in
      let w = words_are in
      let n' : r ≡ length (file_text d) = f.length_is ∙ ap length w in
      rw (read_whole k.text.bytes.now file j.judged.short j.judged.whole d t.is_derived j.no_fault j.no_limit)
      (record {
        number_is = refl;
        length_is = n';
        place_is = refl;
        file_is = f.file_is ∙ ap (λ b. b ++ replicate (FILE - r) 0) w ∙ ap (λ m. file_text d ++ replicate (FILE - m) 0) n';
      })
