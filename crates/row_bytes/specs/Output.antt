-- Words appended to an output.
use Rattle.std.specs.Prelude.{ℕ, ◌+◌, ◌*◌, ◌≤◌, ◌≡◌, List, length}
use Rattle.row_bytes.specs.declared.output.Output.{Output}
use Rattle.row_bytes.specs.Written.{Appended}

-- There is room for these words.
abbrev pub Fits : Output → List ℕ → Type 0
Fits o ws = o.end + 2 * length ws ≤ length o.bytes.now

-- They were appended; it is the same buffer, and as long.
pub record Extended (o p : Output) (ws : List ℕ) : Type 0 where
  pub same_reference : p.bytes.ghost_name ≡ o.bytes.ghost_name
  pub same_long : length p.bytes.now ≡ length o.bytes.now
  pub appended : Appended o.bytes.now o.end p.bytes.now p.end ws
