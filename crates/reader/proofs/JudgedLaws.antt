-- From the judge to the passes behind it.
use Prim.Native.Nat.{ℕ, zero, suc, ◌<◌, ◌≤◌}
use mathlib.Core.Path.{◌≡◌, refl, sym, ap, ◌∙◌}
use mathlib.Core.Bool.{and-false}
use mathlib.Core.List.{List, [], ◌∷◌, map}
use native.Mathlib.Omega.{arith}
use lib.ListN.{length, get_or, take, length-map}
use lib.Seq.{take_at}
use lib.Dec.{leb}
use borrow.Author.Tests.{lt-leb, ne_eqb}
use Rattle.std.specs.Prelude.{Ok, Err}
use Rattle.limits.specs.Limits.{FILE, TEXT}
use Rattle.script.specs.Lists.{Every}
use Rattle.grammar.specs.Tokens.{Token, tokens_of}
use Rattle.grammar.specs.Grammar.{Derivation}
use Rattle.grammar.specs.Parse.{Verdict, refused_at, derived, parsed}
use Rattle.grammar.specs.Roles.{roles_text}
use Rattle.grammar.specs.Read.{NO_GRAMMAR, text_refused, read_of}
use Rattle.grammar.proofs.Splitting.{splits}
use Rattle.parsing.proofs.Written.{splits_written}
use Rattle.parsing.proofs.Place.{parsed_derived}
use Rattle.capacity.proofs.Roles.{text_spelled}
use Rattle.bounds.proofs.Text.{begins_within}
use Rattle.judge.specs.declared.Accepted.{Accepted}
use Rattle.judge.specs.declared.Misfit.{Misfit}
use Rattle.judge.specs.Judging.{lexemes_of, offsets_of, RefusedText, AcceptedText, JudgedAs, JudgedText}
use Rattle.ask_limits.specs.declared.refusal.ReadError.TheVariants.{NoGrammar, NoRoom}
use Rattle.ask_limits.specs.declared.refusal.ReadRefusal.{ReadRefusal}
use Rattle.ask_limits.specs.Reading.{ReadAs}
use Rattle.ask_limits.specs.Derived.{Derived}
use Rattle.ask_limits.proofs.Laws.{place_at_lem, read_lengths, read_stuck}
use Rattle.ask_limits.proofs.PassLaws.{refusal_as}

-- A token's place is in the text.
place_low : (end d : ℕ) (ts : List Token) (k : ℕ) → d ≤ end → Every (λ t. t.offset ≤ end) ts → get_or (map (λ t. t.offset) ts) k d ≤ end
place_low end d [] k l h = omega arith
place_low end d (t ∷ ts) zero l h = h.0
place_low end d (t ∷ ts) (suc k) l h = place_low end d ts k l h.1

low : (text : List ℕ) (d k : ℕ) → d ≤ length text → get_or (offsets_of text) k d ≤ length text
low text d k l = place_low (length text) d (tokens_of text) k l (begins_within (length text) (omega arith) (splits 0 text))

-- What the judge has found.
pub record Misfits (text : List ℕ) (m : Misfit) : Type 0 where
  pub at : ℕ
  pub stuck : parsed (lexemes_of text) ≡ refused_at at
  pub refused : RefusedText text at m

pub record Fits (text roles offsets : List ℕ) (a : Accepted) (roles' offsets' : List ℕ) : Type 0 where
  pub derivation : Derivation
  pub is_derived : parsed (lexemes_of text) ≡ derived derivation
  pub accepted : AcceptedText text roles offsets derivation a roles' offsets'

-- Of the arrays nothing is said then.
pub misfits : (text : List ℕ) (m : Misfit) → JudgedText text [] [] (Err m) [] [] → Misfits text m
misfits text m j = go (parsed (lexemes_of text)) refl j
  where
    go : (v : Verdict) → parsed (lexemes_of text) ≡ v → JudgedAs text [] [] (Err m) [] [] v → Misfits text m
    go (refused_at k) e h = record { at = k; stuck = e; refused = h }
    go (derived d) e h = absurd h

pub fits : (text roles offsets roles' offsets' : List ℕ) (a : Accepted) → JudgedText text roles offsets (Ok a) roles' offsets' → Fits text roles offsets a roles' offsets'
fits text roles offsets roles' offsets' a j = go (parsed (lexemes_of text)) refl j
  where
    go : (v : Verdict) → parsed (lexemes_of text) ≡ v → JudgedAs text roles offsets (Ok a) roles' offsets' v → Fits text roles offsets a roles' offsets'
    go (refused_at k) e h = absurd h
    go (derived d) e h = record { derivation = d; is_derived = e; accepted = h }

-- 34.
module _ {text : List ℕ} {m : Misfit} (f : Misfits text m) where
  pub misfit_within : m.place ≤ length text
  misfit_within = rw f.refused.place_is (low text (length text) f.at (omega arith))

  pub misfit_refused :
      (file : List ℕ) (refusal : ReadRefusal)
      → length text ≤ TEXT
      → length file ≡ FILE
      → refusal ≡ record { error = NoGrammar; place = m.place }
      → ReadAs (Err refusal) file (read_of text file)
  misfit_refused file refusal short whole r =
      refusal_as NoGrammar m.place file refusal (read_of text file) r
      (read_stuck text file short whole f.at f.stuck
      ∙ ap (λ p. text_refused NO_GRAMMAR p file) (place_at_lem text (tokens_of text) f.at ∙ sym f.refused.place_is))

-- What is left of a text that is derived: its tokens' roles and offsets.
module _ {text roles offsets roles' offsets' : List ℕ} {a : Accepted} (f : Fits text roles offsets a roles' offsets') where
  roles_all : length (roles_text f.derivation) ≡ a.tokens
  roles_all =
      text_spelled f.derivation
      ∙ ap length (parsed_derived (lexemes_of text) f.derivation (splits_written (splits 0 text)) f.is_derived)
      ∙ length-map (tokens_of text) (λ t. t.lexeme)
      ∙ sym f.accepted.tokens_are

  offsets_all : length (offsets_of text) ≡ a.tokens
  offsets_all = length-map (tokens_of text) (λ t. t.offset) ∙ sym f.accepted.tokens_are

  roles_are : take a.tokens roles' ≡ roles_text f.derivation
  roles_are = rw f.accepted.roles_are (take_at (roles_text f.derivation) _ a.tokens roles_all)

  offsets_are : take a.tokens offsets' ≡ offsets_of text
  offsets_are = rw f.accepted.offsets_are (take_at (offsets_of text) _ a.tokens offsets_all)

  pub left : Derived text (take a.tokens roles') (take a.tokens offsets') a.start
  left = record { derivation = f.derivation; is_derived = f.is_derived; starts = f.accepted.start_is; roles_are = roles_are; offsets_are = offsets_are }

  pub offset_each : length (take a.tokens offsets') ≡ length (take a.tokens roles')
  offset_each = ap length offsets_are ∙ offsets_all ∙ sym (ap length roles_are ∙ roles_all)

  pub few : length (take a.tokens roles') ≤ length text
  few = omega (arith, f.accepted.few, ap length roles_are, roles_all)

  pub inside : (i : ℕ) → get_or (take a.tokens offsets') i 0 ≤ length text
  inside i = rw offsets_are (low text 0 i (omega arith))

-- The lengths are asked first.
pub long_refused : (text file : List ℕ) → TEXT < length text → ReadAs (Err (record { error = NoRoom; place = 0 })) file (read_of text file)
long_refused text file h = refusal_as NoRoom 0 file (record { error = NoRoom; place = 0 }) (read_of text file) refl (read_lengths text file (rw (lt-leb (length text) TEXT h) refl))

pub buffer_refused : (text file : List ℕ) → (length file ≡ FILE → ⊥) → ReadAs (Err (record { error = NoRoom; place = 0 })) file (read_of text file)
buffer_refused text file h =
    refusal_as NoRoom 0 file (record { error = NoRoom; place = 0 }) (read_of text file) refl (read_lengths text file (rw (ne_eqb (length file) FILE h) (and-false (leb (length text) TEXT))))
