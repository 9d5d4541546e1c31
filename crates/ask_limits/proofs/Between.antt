-- From one pass to the next.
use Prim.Native.Nat.{ℕ, ◌<◌}
use mathlib.Core.Path.{◌≡◌, sym, ap, ◌∙◌}
use mathlib.Core.List.{List, [], ◌++◌, map, append-nil}
use native.Mathlib.Omega.{arith}
use lib.ListN.{length, get_or}
use Rattle.grammar.specs.Tokens.{Lexeme}
use Rattle.grammar.specs.Grammar.{spelled_text}
use Rattle.grammar.specs.Roles.{roles_text}
use Rattle.grammar.specs.Files.{numbering_of}
use Rattle.grammar.specs.Faults.{marked_by, marked_text}
use Rattle.grammar.specs.Read.{NO_ROOM, read_of}
use Rattle.numbering.specs.declared.Sort.TheVariants.{Methods, Fields, Variables}
use Rattle.numbering.specs.Numbers.{role_test, numbered, names_to}
use Rattle.declarations.proofs.Marks.{marked_length}
use Rattle.declarations.proofs.Derived.{names_derived, numbered_derived}
use Rattle.std.specs.Prelude.{Result, Ok, Err}
use Rattle.tokens.specs.declared.roles.Tokens.{Tokens}
use Rattle.bounds.specs.declared.counts.Counts.{Counts}
use Rattle.bounds.specs.Counting.{IntegersSpelt, AllCounted, FaultAt, CountedAs}
use Rattle.bounds.specs.Places.{IndexIs}
use Rattle.bounds.proofs.Text.{spelt_text, counted_text}
use Rattle.capacity.proofs.Roles.{text_spelled}
use Rattle.rows.specs.Items.{items_text}
use Rattle.rows.proofs.Zipped.{text_by}
use Rattle.ask_limits.specs.declared.refusal.ReadError.TheVariants.{NoRoom}
use Rattle.ask_limits.specs.declared.refusal.ReadRefusal.{ReadRefusal}
use Rattle.ask_limits.specs.Reading.{ReadAs}
use Rattle.ask_limits.specs.Numbers.{sort_numbered}
use Rattle.ask_limits.specs.Derived.{DeclaredText, NumberedText}
use Rattle.ask_limits.proofs.Laws.{read_beyond}
use Rattle.ask_limits.proofs.Values.{values_numbered}
use Rattle.ask_limits.proofs.PassLaws.{derives, all_tokens, roles_taken, offsets_taken, offset_place, refusal_as}

-- 36.
module _ {k : Tokens} {start : ℕ} {values file : List ℕ} (j : DeclaredText k start values file) where
  counted :
      (c : Result Counts ℕ)
      → ((ls : List Lexeme) → IntegersSpelt k.text.bytes.now k.roles.now k.offsets.now (length k.roles.now) ls → CountedAs (marked_by k.roles.now ls) c)
      → CountedAs (marked_text j.judged.derived_text.derivation) c
  counted c g =
      let t = j.judged.derived_text in
      let d = t.derivation in
      let s = spelt_text k.text.bytes.now d k.roles.now k.offsets.now [] [] (derives t) (rw append-nil t.roles_are) (rw append-nil t.offsets_are) in
      let m : marked_by k.roles.now (spelled_text d) ≡ marked_text d = ap (λ rs. marked_by rs (spelled_text d)) t.roles_are in
      rw m at (g (spelled_text d) (rw (all_tokens t) s))

  pub limit_refused :
      {i : ℕ} (refusal : ReadRefusal)
      → ((ls : List Lexeme) → IntegersSpelt k.text.bytes.now k.roles.now k.offsets.now (length k.roles.now) ls → CountedAs (marked_by k.roles.now ls) (Err i))
      → i < length k.roles.now
      → refusal ≡ record { error = NoRoom; place = get_or k.offsets.now i 0 }
      → ReadAs (Err refusal) file (read_of k.text.bytes.now file)
  limit_refused {i} refusal g h e =
      let t = j.judged.derived_text in
      let text = k.text.bytes.now in
      refusal_as NoRoom (get_or k.offsets.now i 0) file refusal (read_of text file) e
      (read_beyond text file j.judged.short j.judged.whole t.derivation t.is_derived j.typed.no_fault i (counted (Err i) g).faulty
      ∙ ap (λ p. record { number = NO_ROOM; place = p; length = 0; buffer = file }) (offset_place t i h))

  -- A token that is told is one of the text.
  pub limit_within :
      {i : ℕ}
      → ((ls : List Lexeme) → IntegersSpelt k.text.bytes.now k.roles.now k.offsets.now (length k.roles.now) ls → CountedAs (marked_by k.roles.now ls) (Err i))
      → i < length k.roles.now
  limit_within {i} g =
      let t = j.judged.derived_text in
      let d = t.derivation in
      let a : FaultAt (marked_text d) i = counted (Err i) g in
      omega (arith, a.among, marked_length (roles_text d) (spelled_text d) (text_spelled d), ap length t.roles_are)

  numbers_all :
      sort_numbered (role_test Variables) k (sort_numbered (role_test Fields) k (sort_numbered (role_test Methods) k values))
      ≡ map (λ e. e.value) (items_text (numbering_of j.judged.derived_text.derivation) j.judged.derived_text.derivation) ++ j.typed.rest
  numbers_all =
      let t = j.judged.derived_text in
      let d = t.derivation in
      let text = k.text.bytes.now in
      let roles = k.roles.now in
      let offsets = k.offsets.now in
      let n = length k.roles.now in
      let x = sym (derives t) in
      let y = roles_taken t in
      let z = offsets_taken t in
      rw (
        numbered_derived text roles offsets n d x y z Methods (names_to (role_test Methods) text roles offsets n) values,
        numbered_derived text roles offsets n d x y z Fields (names_to (role_test Fields) text roles offsets n)
            (numbered (role_test Methods) (names_to (role_test Methods) text roles offsets n) (roles_text d) (spelled_text d) values),
        numbered_derived text roles offsets n d x y z Variables (names_to (role_test Variables) text roles offsets n)
            (numbered (role_test Fields) (names_to (role_test Fields) text roles offsets n) (roles_text d) (spelled_text d)
            (numbered (role_test Methods) (names_to (role_test Methods) text roles offsets n) (roles_text d) (spelled_text d) values)),
        names_derived text roles offsets n d x y z Methods,
        names_derived text roles offsets n d x y z Fields,
        names_derived text roles offsets n d x y z Variables,
        j.typed.values_are,
      )
      (values_numbered (numbering_of d) (roles_text d) (spelled_text d) j.typed.rest (text_spelled d)
      ∙ ap (λ es. map (λ e. e.value) es ++ j.typed.rest) (text_by (numbering_of d) d))

  pub limits_passed :
      {c : Counts} {index values' : List ℕ}
      → ((ls : List Lexeme) → IntegersSpelt k.text.bytes.now k.roles.now k.offsets.now (length k.roles.now) ls → CountedAs (marked_by k.roles.now ls) (Ok c))
      → IndexIs k.roles.now index
      → values' ≡ sort_numbered (role_test Variables) k (sort_numbered (role_test Fields) k (sort_numbered (role_test Methods) k values))
      → NumberedText k values' index start c file
  limits_passed {c} {index} {values'} g i v =
      let d = j.judged.derived_text.derivation in
      let a : AllCounted (marked_text d) c = counted (Ok c) g in
      record {
        judged = j.judged;
        no_fault = j.typed.no_fault;
        no_limit = a.faultless;
        counts_are = (counted_text d c a).1;
        indexed = i;
        rest = j.typed.rest;
        values_are = v ∙ numbers_all;
      }
