-- What the code of questions 9 and 10 goes by: signatures that agree, and what a class covers.
use Rattle.std.specs.Prelude.{ℕ, suc, ◌<◌, ◌≡◌, Bool, true, false, List, length, get_or}
use Rattle.std.specs.declared.option.Option.{Option}
use Rattle.std.specs.declared.option.Option.TheVariants.{Some, None}
use Rattle.limits.specs.Limits.{INTERFACES}
use Rattle.script.specs.declared.Section.TheVariants.{Signatures as signatures}
use Rattle.script.specs.Section.{count_of, record_word}
use Rattle.script.specs.Syntax.{Signature}
use Rattle.script.specs.Reading.{signature_at, class_at, program_of}
use Rattle.typing.specs.Published.{MsigIn, DefIn}

-- Of the first n records this one is the first that fails a test, or none does.
abbrev pub FirstAt : (ℕ → Bool) → ℕ → Option ℕ → Type 0
FirstAt test n None = (i : ℕ) → i < n → test i ≡ true
FirstAt test n (Some r) = (r < n) × ((i : ℕ) → i < r → test i ≡ true) × (test r ≡ false)

-- Signature j has another name, or these types.
abbrev pub Agrees : List ℕ → ℕ → ℕ → ℕ → ℕ → Type 0
Agrees s name param result j = name ≡ record_word s signatures j 0 → (param ≡ record_word s signatures j 1) × (result ≡ record_word s signatures j 2)

-- No later signature has the name of signature i and other types.
abbrev pub Unclashed : List ℕ → ℕ → Type 0
Unclashed s i =
    (j : ℕ) → j < count_of s signatures → i < j → Agrees s (record_word s signatures i 0) (record_word s signatures i 1) (record_word s signatures i 2) j

-- The class of record c defines the signature of record i.
abbrev pub Defines : List ℕ → ℕ → ℕ → Type 0
Defines s c i = DefIn (signature_at s i) (class_at s c).methods

-- The class of record c has every method of the type t, with the same types.
abbrev pub Covers : List ℕ → ℕ → ℕ → Type 0
Covers s c t = (g : Signature) → MsigIn (program_of s) t g → DefIn g (class_at s c).methods

-- A byte for each interface: one that is marked, with 1, is known to be covered by the class of record c.
pub record Covered (s : List ℕ) (c : ℕ) (table : List ℕ) : Type 0 where
  pub size : length table ≡ INTERFACES
  pub marked : (k : ℕ) → get_or table k 0 ≡ 1 → Covers s c (suc k)
