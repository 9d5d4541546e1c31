-- The pass on the tokens of a whole text, by its derivation.
use mathlib.Core.Path.{◌≡◌, refl, sym, ap, ◌∙◌}
use mathlib.Core.Bool.{true, not}
use mathlib.Core.List.{List, [], ◌∷◌, ◌++◌, map}
use Prim.Native.Nat.{ℕ, zero, suc, ◌+◌, ◌≤◌, ◌<◌}
use native.Mathlib.Omega.{arith}
use borrow.Author.Tests.{eq-eqb}
use lib.ListN.{length, get_or, drop, length-append, length-map, get_or-append}
use Rattle.script.specs.declared.Section.{Section}
use Rattle.script.specs.Lists.{Every}
use Rattle.script.proofs.Tests.{true_false}
use Rattle.grammar.specs.Tokens.{Lexeme, fixed, name_token, digits_token, Token, Splits, splits_end, splits_blank, splits_token, tokens_of}
use Rattle.grammar.specs.Grammar.{Derivation, spelled_text, Derives}
use Rattle.grammar.specs.Roles.{R_INTEGER, R_NEGATIVE, roles_text}
use Rattle.grammar.specs.Files.{spelling_of}
use Rattle.grammar.specs.Faults.{marked_text}
use Rattle.tokens.specs.Runs.{digits_from}
use Rattle.spelt.specs.Spelt.{digits_in, Spelt}
use Rattle.spelt.specs.RoleFits.{fit_test, digits_head, RoleFits}
use Rattle.spelt.proofs.Spelt.{spelt}
use Rattle.spelt.proofs.RoleFits.{text_fits}
use Rattle.capacity.specs.Extent.{records_of, WithinLimits}
use Rattle.capacity.proofs.Roles.{text_spelled}
use Rattle.capacity.proofs.Begun.{begun_records}
use Rattle.capacity.proofs.Within.{within_limits}
use Rattle.bounds.specs.declared.counts.Counts.{Counts}
use Rattle.bounds.specs.Counting.{lexeme_at, IntegersSpelt, counted_of, AllCounted}

-- A token begins in its text.
pub begins_within : (end : ℕ) {n : ℕ} {s : List ℕ} {ts : List Token} → n + length s ≤ end → Splits n s ts → Every (λ t. t.offset ≤ end) ts
begins_within end h splits_end = tt
begins_within end h (splits_blank e r) = begins_within end (omega arith) r
begins_within end h (splits_token {s = s} w e f m r) =
    (omega arith, begins_within end (omega (arith, ap length e, length-append w s)) r)

-- Where a role says that digits stand, the spelling is digits.
digits_at : (rs : List ℕ) (ls : List Lexeme) (i : ℕ) → RoleFits rs ls → i < length rs → get_or rs i 0 ≡ R_INTEGER → spelling_of (lexeme_at ls i) ≡ digits_in (lexeme_at ls i)
unfolding RoleFits fit_test
digits_at [] ls i f h e = absurd (omega arith)
digits_at (r ∷ rs) [] i f h e = absurd f
digits_at (r ∷ rs) (fixed k ∷ ls) zero f h e = refl
digits_at (r ∷ rs) (name_token y ∷ ls) zero f h e = absurd (true_false (sym f.0 ∙ ap not (eq-eqb r R_INTEGER e)))
digits_at (r ∷ rs) (digits_token w ∷ ls) zero f h e = refl
digits_at (r ∷ rs) (l ∷ ls) (suc i) f h e = digits_at rs ls i f.1.1 (omega arith) e

digits_behind :
    (rs : List ℕ) (ls : List Lexeme) (i : ℕ)
    → RoleFits rs ls
    → i < length rs
    → get_or rs i 0 ≡ R_NEGATIVE
    → spelling_of (lexeme_at ls (i + 1)) ≡ digits_in (lexeme_at ls (i + 1))
unfolding RoleFits
digits_behind [] ls i f h e = absurd (omega arith)
digits_behind (r ∷ rs) [] i f h e = absurd f
digits_behind (r ∷ rs) (l ∷ ls) zero f h e = go ls (rw (eq-eqb r R_NEGATIVE e) at f.1.0)
  where
    go : (ls : List Lexeme) → digits_head ls ≡ true → spelling_of (lexeme_at ls 0) ≡ digits_in (lexeme_at ls 0)
    go [] q = refl
    go (fixed k ∷ ls) q = refl
    go (name_token y ∷ ls) q = absurd (true_false (sym q))
    go (digits_token w ∷ ls) q = refl
digits_behind (r ∷ rs) (l ∷ ls) (suc i) f h e =
    let z : suc i + 1 ≡ suc (i + 1) = omega arith in
    rw z (digits_behind rs ls i f.1.1 (omega arith) e)

-- And a token's digits stand at its offset.
digits_there : (text : List ℕ) (ts : List Token) (i : ℕ) → i < length ts → Every (Spelt text) ts
    → digits_from (drop (get_or (map (λ t. t.offset) ts) i 0) text) ≡ digits_in (lexeme_at (map (λ t. t.lexeme) ts) i)
digits_there text [] i h e = absurd (omega arith)
digits_there text (t ∷ ts) zero h e = e.0.digits_there
digits_there text (t ∷ ts) (suc i) h e = digits_there text ts i (omega arith) e.1

-- The passes before have left the roles and offsets of the text's tokens, with others behind them.
module _
    (text : List ℕ) (d : Derivation) (roles offsets others more : List ℕ) (derives : Derives d (tokens_of text)) (first-roles : roles ≡ roles_text d ++ others)
    (first-offsets : offsets ≡ map (λ t. t.offset) (tokens_of text) ++ more)
  where
    abbrev n : ℕ
    n = length (tokens_of text)

    all_spelled : length (spelled_text d) ≡ n
    all_spelled = ap length derives ∙ length-map (tokens_of text) (λ t. t.lexeme)

    all_roles : length (roles_text d) ≡ n
    all_roles = text_spelled d ∙ all_spelled

    all_offsets : length (map (λ t. t.offset) (tokens_of text)) ≡ n
    all_offsets = length-map (tokens_of text) (λ t. t.offset)

    role_at : (i : ℕ) → i < n → get_or roles i 0 ≡ get_or (roles_text d) i 0
    role_at i h = rw (first-roles, get_or-append (roles_text d) others 0 i (omega (arith, all_roles)))

    offset_at : (i : ℕ) → i < n → get_or offsets i 0 ≡ get_or (map (λ t. t.offset) (tokens_of text)) i 0
    offset_at i h = rw (first-offsets, get_or-append (map (λ t. t.offset) (tokens_of text)) more 0 i (omega (arith, all_offsets)))

    there : (i : ℕ) → i < n → digits_in (lexeme_at (spelled_text d) i) ≡ digits_from (drop (get_or offsets i 0) text)
    there i h = rw (derives, offset_at i h) (sym (digits_there text (tokens_of text) i h (spelt text)))

    pub spelt_text : IntegersSpelt text roles offsets n (spelled_text d)
    spelt_text =
        record {
          all = all_spelled;
          integers = λ i h e. digits_at (roles_text d) (spelled_text d) i (text_fits d) (omega (arith, all_roles)) (sym (role_at i h) ∙ e) ∙ there i h;
          negatives =
              λ i h e. digits_behind (roles_text d) (spelled_text d) i (text_fits d) (omega (arith, all_roles)) (sym (role_at i (omega arith)) ∙ e) ∙ there (i + 1) h;
        }

-- The counts are those of the file's sections.
pub counted_text : (d : Derivation) (c : Counts) → AllCounted (marked_text d) c → WithinLimits d × ((k : Section) → counted_of c k ≡ records_of k d)
counted_text d c a = (within_limits d a.faultless, λ k. (a.counts k).0 ∙ begun_records k d)
