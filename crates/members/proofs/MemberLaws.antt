-- What the code of method look-ups answers: a law for each return, with the callees' results as variables.
use mathlib.Core.Path.{◌≡◌, refl, sym, ap, ◌∙◌}
use mathlib.Core.List.{List}
use mathlib.Core.Logic.{⊎_elim}
use mathlib.Core.Option.{Option, none, some, map}
use Prim.Native.Nat.{ℕ, suc, ◌+◌, ◌-◌, ◌<◌, ◌≤◌}
use native.Mathlib.Omega.{arith}
use native.Mathlib.Nat.{eq-or-lt_of_le, le_of_suc-le-suc}
use lib.ListN.{length, get_or, set, length-set}
use lib.Seq.{get_or-set_same, get_or-set_other}
use Rattle.limits.specs.Limits.{INTERFACES}
use Rattle.std.specs.declared.option.Option.{Option as CodeOption}
use Rattle.std.specs.declared.option.Option.TheVariants.{Some, None}
use Rattle.script.specs.declared.Section.TheVariants.{Interfaces as interfaces, Signatures as signatures, Methods as methods}
use Rattle.script.specs.Lists.{sum_below, named}
use Rattle.script.specs.Section.{count_of, record_word}
use Rattle.script.specs.Syntax.{Signature, Method, an_interface, declaration_at, Declaration, a_unit, a_class, an_int, no_type}
use Rattle.script.specs.Reading.{own_signatures, own_methods, signature_at, method_at, class_at, program_of}
use Rattle.script.specs.Statements.{WithinLayout}
use Rattle.sections.specs.Laid.{found_of}
use Rattle.script.proofs.Declarations.{interface_at_lem}
use Rattle.script.proofs.Regular.{regular}
use Rattle.subtypes.specs.declared.Declared.{Declared}
use Rattle.subtypes.specs.declared.Declared.TheVariants.{Interface as is_interface, Class as is_class, Neither as is-neither}
use Rattle.members.specs.declared.Types.{Types}
use Rattle.typing.specs.Members.{or_else, meaning, own_method, method_in, method_from}
use Rattle.members.specs.Lookup.{types_in, member_of}
use Rattle.subtypes.specs.Subtypes.{Memberless, DeclaredAs}
use Rattle.members.specs.Lookup.{own_named, MeaningIs, no_meaning, meaning_at, Meanings}
use Rattle.typing.proofs.Values.{value_lists, value_extends}
use Rattle.subtypes.proofs.SubtypeLaws.{reads_list, reads_join, interface_there, type_interface, type_class, type_neither, left_earlier, right_earlier}
use Rattle.members.proofs.LookupLaws.{found_at, found_nothing, named_run, own_there}

-- a join means what its left parent means, else what its right parent does
from_left : {s : List ℕ} {m i a v : ℕ} (r : Option Signature) → meaning (program_of s) m (suc i) ≡ or_else (meaning (program_of s) m (suc a)) r → MeaningIs s m a v → (v ≡ 0 → ⊥) → MeaningIs s m i v
from_left r e (no_meaning q) n = absurd (n refl)
from_left r e (meaning_at {j = j} l q) n = meaning_at {j = j} l (rw q at e)

from_right : {s : List ℕ} {m i a b v x : ℕ} → meaning (program_of s) m (suc i) ≡ or_else (meaning (program_of s) m (suc a)) (meaning (program_of s) m (suc b)) → MeaningIs s m a v → v ≡ 0 → MeaningIs s m b x → MeaningIs s m i x
from_right e (no_meaning q) z (no_meaning r) = no_meaning (rw (q, r) at e)
from_right e (no_meaning q) z (meaning_at {j = j} l r) = meaning_at {j = j} l (rw (q, r) at e)
from_right e (meaning_at l q) z x = absurd (omega arith)

module _ {s : List ℕ} (w : WithinLayout s) (m i form : ℕ) (l : i < count_of s interfaces) (f : form ≡ record_word s interfaces i 0) where
  -- What m means in a list of signatures: the first of its run with this name.
  module _ (n : form ≡ 1 → ⊥) (found : CodeOption ℕ) (o : found ≡ found_of (own_named s signatures i m)) where
    meaning_list : meaning (program_of s) m (suc i) ≡ map (signature_at s) (own_named s signatures i m)
    unfolding meaning signature_at
    meaning_list =
        value_lists (λ v gs. named (λ g. g.name) m gs) (λ v a b. or_else a b) none (program_of s) (suc i) _ (interface_at_lem s i l ∙ ap an_interface (reads_list s i (rw f at n)))
        ∙ named_run (signature_at s) (λ g. g.name) m (sum_below (own_signatures s) i) (own_signatures s i)

    pub meaning_none : found ≡ None → MeaningIs s m i 0
    meaning_none q = no_meaning (rw (found_nothing (own_named s signatures i m) found o q) at meaning_list)

    pub meaning_own : (j : ℕ) → found ≡ Some j → MeaningIs s m i (j + 1)
    meaning_own j q =
        let z : j + 1 ≡ suc j = omega arith in
        rw z (meaning_at {j = j} (own_there w signatures i m j found l o q) (rw (found_at (own_named s signatures i m) found o j q) at meaning_list))

  -- What it means in a join, by the words for both parents.
  module _ (e : form ≡ 1) (table : List ℕ) (h : Meanings s m i table) (a b : ℕ) (p : a ≡ record_word s interfaces i 1) where
    left_word : MeaningIs s m (a - 1) (get_or table (a - 1) 0)
    left_word = let x = left_earlier w i form l f e a p in h.holds (a - 1) (omega arith)

    meaning_join : b ≡ record_word s interfaces i 2 → meaning (program_of s) m (suc i) ≡ or_else (meaning (program_of s) m (suc (a - 1))) (meaning (program_of s) m (suc (b - 1)))
    unfolding meaning
    meaning_join q =
        let x = left_earlier w i form l f e a p in
        let y = right_earlier w i form l f e b q in
        let c : suc (a - 1) ≡ a = omega arith in
        let d : suc (b - 1) ≡ b = omega arith in
        rw (c, d, p, q)
        (value_extends (λ v gs. named (λ g. g.name) m gs) (λ v a b. or_else a b) none (program_of s) (regular s w) (suc i) _ _
        (interface_at_lem s i l ∙ ap an_interface (reads_join s i (sym f ∙ e))))

    pub meaning_left : b ≡ record_word s interfaces i 2 → (get_or table (a - 1) 0 ≡ 0 → ⊥) → MeaningIs s m i (get_or table (a - 1) 0)
    meaning_left q n = from_left (meaning (program_of s) m (suc (b - 1))) (meaning_join q) left_word n

    pub meaning_right : b ≡ record_word s interfaces i 2 → get_or table (a - 1) 0 ≡ 0 → MeaningIs s m i (get_or table (b - 1) 0)
    meaning_right q z = let y = right_earlier w i form l f e b q in from_right (meaning_join q) left_word z (h.holds (b - 1) (omega arith))

-- One more word is stored.
module _ (s : List ℕ) (m : ℕ) (table : List ℕ) where
  pub no_meanings : length table ≡ INTERFACES → Meanings s m 0 table
  no_meanings e = record { size = e; holds = λ i h. absurd (omega arith) }

  pub meanings_more : (i v : ℕ) → i < length table → Meanings s m i table → MeaningIs s m i v → Meanings s m (i + 1) (set table i v)
  meanings_more i v l h x =
      record {
        size = length-set table i v ∙ h.size;
        holds = λ j k. ⊎_elim
            (λ (q : j ≡ i). rw (q, get_or-set_same table i v 0 l) x)
            (λ (q : j < i). rw (get_or-set_other table i j v 0 (omega arith)) (h.holds j q))
            (eq-or-lt_of_le (le_of_suc-le-suc (let g : suc j ≤ suc i = omega arith in g)));
      }

  pub meanings_done : (i n : ℕ) → i ≤ n → n ≤ i → Meanings s m i table → Meanings s m n table
  meanings_done i n a b h = let e : i ≡ n = omega arith in rw e at h

-- What a word of the table says.
pub no_word : {s : List ℕ} {m i v : ℕ} → MeaningIs s m i v → v ≡ 0 → meaning (program_of s) m (suc i) ≡ none
no_word (no_meaning q) z = q
no_word (meaning_at l q) z = absurd (omega arith)

pub word_at : {s : List ℕ} {m i v : ℕ} → MeaningIs s m i v → (v ≡ 0 → ⊥) → (v - 1 < count_of s signatures) × (meaning (program_of s) m (suc i) ≡ some (signature_at s (v - 1)))
word_at (no_meaning q) n = absurd (n refl)
word_at (meaning_at {j = j} l q) n = let e : suc j - 1 ≡ j = omega arith in rw e (l, q)

-- The method of this name that a class has: the first of its run.
pub own_method_lem : (s : List ℕ) (c m : ℕ) → own_method (class_at s c) m ≡ map (λ j. (method_at s j).signature) (own_named s methods c m)
unfolding own_method class_at method_at
own_method_lem s c m = rw (named_run (method_at s) (λ (d : Method). d.signature.name) m (sum_below (own_methods s) c) (own_methods s c)) (go (own_named s methods c m))
  where
    go : (o : Option ℕ) → map (λ (d : Method). d.signature) (map (method_at s) o) ≡ map (λ j. (method_at s j).signature) o
    go none = refl
    go (some j) = refl

-- Methods: of an interface what the name means there, of a class its own, and no other type has any.
module _ {s : List ℕ} {t : ℕ} {d : Declared} (h : DeclaredAs s t d) (m : ℕ) where
  module _ {i : ℕ} (e : d ≡ is_interface i) {v : ℕ} (x : MeaningIs s m i v) where
    method_meaning : method_in (program_of s) t m ≡ meaning (program_of s) m (suc i)
    unfolding method_in
    method_meaning = rw (type_interface h e, (interface_there h e).1)

    pub meaning_missing : v ≡ 0 → None ≡ member_of (method_in (program_of s) t m)
    meaning_missing z = rw (method_meaning, no_word x z)

    pub meaning_types : (r : Types) → (v ≡ 0 → ⊥) → r ≡ types_in s signatures (v - 1) → Some r ≡ member_of (method_in (program_of s) t m)
    unfolding signature_at
    meaning_types r n q = rw (method_meaning, (word_at x n).1) (ap Some q)

  module _ {c : ℕ} (e : d ≡ is_class c) (found : CodeOption ℕ) (o : found ≡ found_of (own_named s methods c m)) where
    method_own : method_in (program_of s) t m ≡ map (λ j. (method_at s j).signature) (own_named s methods c m)
    unfolding method_in
    method_own = rw (type_class h e) (own_method_lem s c m)

    pub method_missing : found ≡ None → None ≡ member_of (method_in (program_of s) t m)
    method_missing q = rw (method_own, found_nothing (own_named s methods c m) found o q)

    pub method_types : (j : ℕ) (r : Types) → found ≡ Some j → r ≡ types_in s methods j → Some r ≡ member_of (method_in (program_of s) t m)
    unfolding method_at
    method_types j r q p = rw (method_own, found_at (own_named s methods c m) found o j q) (ap Some p)

  pub method_neither : d ≡ is-neither → None ≡ member_of (method_in (program_of s) t m)
  unfolding method_in
  method_neither e = go (declaration_at (program_of s) t) (type_neither h e)
    where
      go : (x : Declaration) → Memberless x → None ≡ member_of (method_from (program_of s) t m x)
      go a_unit y = refl
      go (an_interface i) y = absurd y
      go (a_class c) y = absurd y
      go an_int y = refl
      go no_type y = refl
