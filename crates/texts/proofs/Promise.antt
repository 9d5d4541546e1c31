-- Read answers as request 4 says, and nothing else does.
use Prim.Native.Nat.{ℕ, ◌-◌, ◌≤◌}
use mathlib.Core.Path.{◌≡◌, refl, sym, ap, ◌∙◌}
use mathlib.Core.Bool.{Bool, true, false, ◌&&◌}
use mathlib.Core.List.{List, ◌++◌}
use mathlib.Core.Option.{Option, none, some}
use native.Mathlib.Omega.{arith}
use lib.Dec.{eqb, leb}
use lib.ListN.{length, take, replicate, length-append, length-replicate}
use lib.Seq.{take-append_seam}
use borrow.Author.Tests.{eqb-true, leb-true, eq-eqb, le-leb}
use Rattle.limits.specs.Limits.{FILE, TEXT}
use Rattle.script.specs.declared.Section.TheVariants.{Interfaces as interfaces, Signatures as signatures, Classes as classes}
use Rattle.script.specs.declared.Section.TheVariants.{Fields as fields, Methods as methods, Nodes as nodes}
use Rattle.grammar.specs.Tokens.{Token, tokens_of}
use Rattle.grammar.specs.Grammar.{Derivation, Derives}
use Rattle.grammar.specs.Parse.{Verdict, refused_at, derived, parsed}
use Rattle.grammar.specs.Files.{section_bodies, file_text}
use Rattle.grammar.specs.Faults.{marked_text, declaration_fault, limit_fault}
use Rattle.grammar.proofs.Splitting.{splits, splits_once}
use Rattle.parsing.proofs.Written.{Written, splits_written}
use Rattle.parsing.proofs.Place.{derived_parsed, one_derivation, parsed_derived, refused_place, misfit_refused, refused_underived}
use Rattle.capacity.proofs.Within.{within_limits}
use Rattle.grammar.specs.Read.{TextRead, NO_DECLARATION, NO_ROOM, text_refused, file_read, asked_limits, asked_declarations, asked_grammar, asked_lengths, read_of}
use Rattle.texts.specs.Answers.{InLength, lexemes, ReadAnswers, by_lengths, by_grammar, by_declaration, by_limit, was_read, Legal, FileStands, ReadPromise}
use Rattle.texts.specs.Layout.{KeepsLimits}
use Rattle.texts.proofs.LayoutLaws.{file_stands}

both : (p q : Bool) → p && q ≡ true → (p ≡ true) × (q ≡ true)
both true q h = (refl, h)
both false q h = absurd (let z : ◌≡◌ {A = ℕ} 0 1 = cc in omega arith)

module _ (text b : List ℕ) where
  in_length : leb (length text) TEXT && eqb (length b) FILE ≡ true → InLength text b
  in_length h =
      let p = both (leb (length text) TEXT) (eqb (length b) FILE) h in
      record { short = leb-true (length text) TEXT p.0; whole = eqb-true (length b) FILE p.1 }

  asked_true : InLength text b → leb (length text) TEXT && eqb (length b) FILE ≡ true
  asked_true h = rw (le-leb (length text) TEXT h.short, eq-eqb (length b) FILE h.whole) refl

  written : Written (lexemes (tokens_of text))
  written = splits_written (splits 0 text)

  -- What each question leads to is an answer.
  limits_answer :
      InLength text b
      → (d : Derivation)
      → Derives d (tokens_of text)
      → declaration_fault (marked_text d) ≡ none
      → (o : Option ℕ)
      → limit_fault (marked_text d) ≡ o
      → ReadAnswers text b (tokens_of text) (asked_limits text (tokens_of text) b d o)
  limits_answer h d e f none g = was_read h d e f g
  limits_answer h d e f (some i) g = by_limit h d e f i g

  declarations_answer :
      InLength text b
      → (d : Derivation)
      → Derives d (tokens_of text)
      → (o : Option ℕ)
      → declaration_fault (marked_text d) ≡ o
      → ReadAnswers text b (tokens_of text) (asked_declarations text (tokens_of text) b d o)
  declarations_answer h d e none f = limits_answer h d e f (limit_fault (marked_text d)) refl
  declarations_answer h d e (some i) f = by_declaration h d e i f

  grammar_answer :
      InLength text b
      → (v : Verdict)
      → parsed (lexemes (tokens_of text)) ≡ v
      → ReadAnswers text b (tokens_of text) (asked_grammar text (tokens_of text) b v)
  grammar_answer h (refused_at i) e = by_grammar h i (refused_place (lexemes (tokens_of text)) i written e)
  grammar_answer h (derived d) e =
      declarations_answer h d (parsed_derived (lexemes (tokens_of text)) d written e) (declaration_fault (marked_text d)) refl

  lengths_answer : (q : Bool) → leb (length text) TEXT && eqb (length b) FILE ≡ q → ReadAnswers text b (tokens_of text) (asked_lengths q text b)
  lengths_answer true e = grammar_answer (in_length e) (parsed (lexemes (tokens_of text))) refl
  lengths_answer false e = by_lengths (λ h. let z : ◌≡◌ {A = Bool} true false = sym (asked_true h) ∙ e in let y : ◌≡◌ {A = ℕ} 0 1 = cc in omega arith)

  answers : ReadAnswers text b (tokens_of text) (read_of text b)
  unfolding read_of
  answers = lengths_answer (leb (length text) TEXT && eqb (length b) FILE) refl

  -- The reader's way to each answer.
  reads : InLength text b → read_of text b ≡ asked_grammar text (tokens_of text) b (parsed (lexemes (tokens_of text)))
  unfolding read_of
  reads h = rw (asked_true h) refl

  derives : InLength text b → (d : Derivation) → Derives d (tokens_of text)
      → read_of text b ≡ asked_declarations text (tokens_of text) b d (declaration_fault (marked_text d))
  derives h d e =
      reads h ∙ ap (asked_grammar text (tokens_of text) b) (ap parsed (sym e) ∙ derived_parsed d)

  refuses : (InLength text b → ⊥) → (q : Bool) → leb (length text) TEXT && eqb (length b) FILE ≡ q → asked_lengths q text b ≡ text_refused 36 0 b
  refuses h true e = absurd (h (in_length e))
  refuses h false e = refl

  one_answer : (r : TextRead) → ReadAnswers text b (tokens_of text) r → r ≡ read_of text b
  unfolding read_of
  one_answer r (by_lengths h) = sym (refuses h (leb (length text) TEXT && eqb (length b) FILE) refl)
  one_answer r (by_grammar h i m) = sym (reads h ∙ ap (asked_grammar text (tokens_of text) b) (misfit_refused (lexemes (tokens_of text)) i written m))
  one_answer r (by_declaration h d e i f) = sym (derives h d e ∙ ap (asked_declarations text (tokens_of text) b d) f)
  one_answer r (by_limit h d e f i g) =
      sym (derives h d e ∙ ap (asked_declarations text (tokens_of text) b d) f ∙ ap (asked_limits text (tokens_of text) b d) g)
  one_answer r (was_read h d e f g) =
      sym (derives h d e ∙ ap (asked_declarations text (tokens_of text) b d) f ∙ ap (asked_limits text (tokens_of text) b d) g)

-- A refusal leaves the buffer as it was.
still_in : (text b : List ℕ) (ts : List Token) (r : TextRead) → ReadAnswers text b ts r → (r.number ≡ 0 → ⊥) → (r.buffer ≡ b) × (r.length ≡ 0)
still_in text b ts r (by_lengths h) n = (refl, refl)
still_in text b ts r (by_grammar h i m) n = (refl, refl)
still_in text b ts r (by_declaration h d e i f) n = (refl, refl)
still_in text b ts r (by_limit h d e f i g) n = (refl, refl)
still_in text b ts r (was_read h d e f g) n = absurd (n refl)

-- What is derived and free of 35 and 36 is read, and what is read is derived.
legal_in :
    (text b : List ℕ) (ts : List Token) (r : TextRead)
    → Written (lexemes ts)
    → ReadAnswers text b ts r
    → (d : Derivation)
    → Derives d ts
    → (r.number ≡ NO_DECLARATION → ⊥)
    → (r.number ≡ NO_ROOM → ⊥)
    → r ≡ file_read d
legal_in text b ts r w (by_lengths h) d e n m = absurd (m refl)
legal_in text b ts r w (by_grammar h i f) d e n m = absurd (refused_underived (lexemes ts) i (misfit_refused (lexemes ts) i w f) d e)
legal_in text b ts r w (by_declaration h d₁ e₁ i f) d e n m = absurd (n refl)
legal_in text b ts r w (by_limit h d₁ e₁ f i g) d e n m = absurd (m refl)
legal_in text b ts r w (was_read h d₁ e₁ f g) d e n m = ap (λ x. file_read x) (one_derivation d₁ d (e₁ ∙ sym e))

read_in : (text b : List ℕ) (ts : List Token) (r : TextRead) → ReadAnswers text b ts r → r.number ≡ 0 → Legal ts
read_in text b ts r (by_lengths h) n = absurd (omega (arith, n))
read_in text b ts r (by_grammar h i m) n = absurd (omega (arith, n))
read_in text b ts r (by_declaration h d e i f) n = absurd (omega (arith, n))
read_in text b ts r (by_limit h d e f i g) n = absurd (omega (arith, n))
read_in text b ts r (was_read h d e f g) n = record { derivation = d; derives = e }

-- The buffer stays as long as it is.
filled : (f : List ℕ) → length f ≤ FILE → length (f ++ replicate (FILE - length f) 0) ≡ FILE
filled f l = rw (length-append f (replicate (FILE - length f) 0), length-replicate {A = ℕ} (FILE - length f) 0) (omega (arith, l))

whole_in : (text b : List ℕ) (ts : List Token) (r : TextRead) → ReadAnswers text b ts r → length r.buffer ≡ length b
whole_in text b ts r (by_lengths h) = refl
whole_in text b ts r (by_grammar h i m) = refl
whole_in text b ts r (by_declaration h d e i f) = refl
whole_in text b ts r (by_limit h d e f i g) = refl
whole_in text b ts r (was_read h d e f g) = filled (file_text d) (within_limits d g).file_fits ∙ sym h.whole

within : (d : Derivation) → limit_fault (marked_text d) ≡ none → KeepsLimits d
unfolding section_bodies
within d h interfaces = (within_limits d h).counts interfaces
within d h signatures = (within_limits d h).counts signatures
within d h classes = (within_limits d h).counts classes
within d h fields = (within_limits d h).counts fields
within d h methods = (within_limits d h).counts methods
within d h nodes = (within_limits d h).counts nodes

-- What was read stands.
stands_in : (text b : List ℕ) (ts : List Token) (r : TextRead) → ReadAnswers text b ts r → r.number ≡ 0 → FileStands (take r.length r.buffer)
stands_in text b ts r (by_lengths h) n = absurd (omega (arith, n))
stands_in text b ts r (by_grammar h i m) n = absurd (omega (arith, n))
stands_in text b ts r (by_declaration h d e i f) n = absurd (omega (arith, n))
stands_in text b ts r (by_limit h d e f i g) n = absurd (omega (arith, n))
stands_in text b ts r (was_read h d e f g) n =
    rw (take-append_seam (file_text d) (replicate (FILE - length (file_text d)) 0)) (file_stands d (within d g))

pub read_promise : (text b : List ℕ) → ReadPromise text b
read_promise text b =
    record {
      tokens = tokens_of text;
      split = splits 0 text;
      split_once = λ ts h. splits_once h;
      one_derivation = λ d e h g. one_derivation d e (h ∙ sym g);
      answers = answers text b;
      one_answer = one_answer text b;
      legal_read = legal_in text b (tokens_of text) (read_of text b) (written text b) (answers text b);
      read_legal = read_in text b (tokens_of text) (read_of text b) (answers text b);
      still = still_in text b (tokens_of text) (read_of text b) (answers text b);
      whole = whole_in text b (tokens_of text) (read_of text b) (answers text b);
      stands = stands_in text b (tokens_of text) (read_of text b) (answers text b);
    }
