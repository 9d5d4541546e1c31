-- What is found once for a call about the nodes of a script: the ranks of the variables that they name, and which forks have asyncs that share a variable.
use Rattle.std.specs.Prelude.{ℕ, ◌*◌, ◌<◌, ◌≡◌, List, get_or}
use Rattle.slices.specs.Bits.{flag_of}
use Rattle.script.specs.declared.Section.TheVariants.{Nodes as nodes}
use Rattle.script.specs.Section.{count_of}
use Rattle.script.specs.Syntax.{n_fork}
use Rattle.script.specs.Reading.{view_at, expr_at}
use Rattle.typing.specs.Typing.{fv, shares}
use Rattle.names.specs.Ranks.{Ranked, Indexed}

-- Whether the asyncs of each fork share a variable, at its first slot.
pub record Forks (s facts : List ℕ) : Type 0 where
  pub flags : (n a b c : ℕ) → n < count_of s nodes → view_at s n ≡ n_fork a b c →
      get_or facts (2 * n) 0 ≡ flag_of (shares (fv (expr_at s a)) (fv (expr_at s b)))

-- The table of facts about the script s.
pub record Facts (s facts : List ℕ) : Type 0 where
  pub count : ℕ
  pub ranked : Ranked s facts count
  pub indexed : Indexed s facts
  pub forks : Forks s facts
