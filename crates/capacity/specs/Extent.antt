-- The records of a derivation, the length of its file, and its integers.
use Rattle.std.specs.Prelude.{ℕ, ◌+◌, ◌*◌, ◌≤◌, pos, length}
use Rattle.words.specs.Integer.{InRange}
use Rattle.limits.specs.Limits.{INTERFACES, SIGNATURES, CLASSES, FIELDS, METHODS, NODES, CONTENTS, FILE}
use Rattle.script.specs.Lists.{Every}
use Rattle.script.specs.declared.Section.{Section}
use Rattle.script.specs.declared.Section.TheVariants.{Interfaces as interfaces, Signatures as signatures, Classes as classes}
use Rattle.script.specs.declared.Section.TheVariants.{Fields as fields, Methods as methods, Nodes as nodes}
use Rattle.script.specs.Section.{sections, most_of, size_of}
use Rattle.grammar.specs.Grammar.{E, e_null, e_variable, e_select, e_update, e_call, e_let, e_new, e_cast, e_fork, e_lock, e_digits, e_minus, e_sum, e_sum_in}
use Rattle.grammar.specs.Grammar.{Derivation}
use Rattle.grammar.specs.Tokens.{decimal}
use Rattle.grammar.specs.Files.{negated, nodes_in, sum_all, joined, msigs_of, mds_of, file_text}

-- How many records a section of the file has.
abbrev pub records_of : Section → Derivation → ℕ
records_of interfaces d = length d.ids
records_of signatures d = length (joined msigs_of d.ids)
records_of classes d = length d.cds
records_of fields d = length (joined (λ c. c.fds) d.cds)
records_of methods d = length (mds_of d)
records_of nodes d = nodes_in d.start + sum_all (λ m. nodes_in m.body) (mds_of d)

-- The bytes of the file: the contents, and each section with its records.
abbrev pub file_length : Derivation → ℕ
file_length d = CONTENTS + sum_all (λ k. size_of k * records_of k d) sections

-- The integers of an expression are in "the range of Int".
unfoldable pub Ranged : E → Type 0
Ranged e_null = Unit {0}
Ranged (e_variable x) = Unit {0}
Ranged (e_select x f) = Unit {0}
Ranged (e_update x f e) = Ranged e
Ranged (e_call x m e) = Ranged e
Ranged (e_let y e₁ e₂) = Ranged e₁ × Ranged e₂
Ranged (e_new t) = Unit {0}
Ranged (e_cast t e) = Ranged e
Ranged (e_fork e₁ e₂ e₃) = Ranged e₁ × (Ranged e₂ × Ranged e₃)
Ranged (e_lock x e) = Ranged e
Ranged (e_digits d) = InRange (pos (decimal d))
Ranged (e_minus d) = InRange (negated (decimal d))
Ranged (e_sum x y) = Unit {0}
Ranged (e_sum_in x y) = Unit {0}

-- What a text keeps to in which "a table limit or the range of Int is passed" nowhere.
pub record WithinLimits (d : Derivation) : Type 0 where
  pub counts : (k : Section) → records_of k d ≤ most_of k
  pub start_ranged : Ranged d.start
  pub bodies_ranged : Every (λ m. Ranged m.body) (mds_of d)
  pub file_fits : length (file_text d) ≤ FILE

-- A text that keeps to the limits has at most so many tokens.
abbrev pub TOKENS_WITHIN : ℕ
TOKENS_WITHIN = 6 * INTERFACES + 8 * SIGNATURES + 6 * CLASSES + 3 * FIELDS + 11 * METHODS + 11 * NODES
