-- Names numbered, a sort after another.
use Rattle.std.specs.Prelude.{ℕ, Bool, List, length, take}
use Rattle.tokens.specs.declared.roles.Tokens.{Tokens}
use Rattle.numbering.specs.Numbers.{names_at, names_to, numbered}

-- The values of all tokens where the names of one sort have been numbered.
abbrev pub sort_numbered : (ℕ → Bool) → Tokens → List ℕ → List ℕ
sort_numbered test k values =
    let n = length k.roles.now in
    numbered test (names_to test k.text.bytes.now k.roles.now k.offsets.now n) (take n k.roles.now) (names_at k.text.bytes.now (take n k.offsets.now)) values
