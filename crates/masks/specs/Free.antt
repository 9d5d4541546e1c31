-- What the code of `forks` keeps of free variables: for each node a mask, with a bit for each rank of a span of 32, and a mark for each fork.
use Rattle.std.specs.Prelude.{ℕ, ◌+◌, ◌*◌, ◌/◌, ◌<◌, ◌≤◌, ◌≡◌, true, List, eqb, length, get_or}
use Rattle.limits.specs.Limits.{NODES}
use Rattle.slices.specs.Bits.{flag_of, bit_of}
use Rattle.script.specs.declared.Section.TheVariants.{Nodes as nodes}
use Rattle.script.specs.Section.{count_of, node_word}
use Rattle.script.specs.Syntax.{n_fork}
use Rattle.script.specs.Reading.{view_at, expr_at}
use Rattle.script.specs.Statements.{WithinLayout}
use Rattle.typing.specs.Typing.{fv, is_in}
use Rattle.names.specs.Ranks.{RankOf, Ranked}

-- The ranks of a mask, a bit each.
abbrev pub SPAN : ℕ
SPAN = 32

-- The mask tells of each variable whose rank is in the span from `start` on whether it is in the list, and a bit that is 1 is that of such a variable.
pub record MaskOf (s facts : List ℕ) (start m : ℕ) (l : List ℕ) : Type 0 where
  pub tells : (x k : ℕ) → k < SPAN → RankOf s facts x (start + k) → bit_of m k ≡ flag_of (is_in x l)
  pub only : (k : ℕ) → k < SPAN → bit_of m k ≡ 1 → (x : ℕ) × RankOf s facts x (start + k)

-- The mask of one rank.
abbrev pub RankMask : ℕ → ℕ → ℕ → Type 0
RankMask start rank m = (k : ℕ) → k < SPAN → bit_of m k ≡ flag_of (eqb rank (start + k))

-- The mask of node n.
abbrev pub FreeMask : List ℕ → List ℕ → ℕ → ℕ → ℕ → Type 0
FreeMask s facts start n m = MaskOf s facts start m (fv (expr_at s n))

-- What a table has for node n: its mask, and its mark, which stands at its first slot.
abbrev pub mask_at : List ℕ → ℕ → ℕ
mask_at masks n = get_or masks n 0

abbrev pub mark_at : List ℕ → ℕ → ℕ
mark_at facts n = get_or facts (2 * n) 0

-- What holds of each node from i up to j, and of what a table has for it.
abbrev pub Along : (ℕ → ℕ → Type 0) → (ℕ → ℕ) → ℕ → ℕ → Type 0
Along P value i j = (n : ℕ) → i ≤ n → n < j → P n (value n)

-- What the mask of node n is made from: the ranks of its variables, and the masks of the nodes after it.
pub record Ahead (s facts masks : List ℕ) (start n : ℕ) : Type 0 where
  pub layout : WithinLayout s
  pub there : n < count_of s nodes
  pub count : ℕ
  pub ranked : Ranked s facts count
  pub size : length masks ≡ NODES
  pub later : Along (FreeMask s facts start) (mask_at masks) (n + 1) (count_of s nodes)

-- The mark of two lists: 1 if they share a variable, 0 if they share none whose rank is below the bound.
pub data Mark (s facts : List ℕ) (bound : ℕ) (l m : List ℕ) : ℕ → Type 0 where
  met : (x : ℕ) → is_in x l ≡ true → is_in x m ≡ true → Mark s facts bound l m 1
  apart : ((x k : ℕ) → RankOf s facts x k → k < bound → is_in x l ≡ true → is_in x m ≡ true → ⊥) → Mark s facts bound l m 0

-- The mark of node n, if it is a fork: that of its asyncs' free variables.
abbrev pub ForkMark : List ℕ → List ℕ → ℕ → ℕ → ℕ → Type 0
ForkMark s facts bound n t = (a b c : ℕ) → view_at s n ≡ n_fork a b c → Mark s facts bound (fv (expr_at s a)) (fv (expr_at s b)) t

-- The marks of all forks.
abbrev pub ForkMarks : List ℕ → ℕ → List ℕ → Type 0
ForkMarks s bound facts = Along (ForkMark s facts bound) (mark_at facts) 0 (count_of s nodes)

-- Node n is a fork.
abbrev pub IsFork : List ℕ → ℕ → Type 0
IsFork s n = (n < count_of s nodes) × (node_word s n 0 ≡ 8)

-- Two tables of facts that have the same words, but for those at the slots of forks.
pub record Like (s facts facts' : List ℕ) : Type 0 where
  pub size : length facts' ≡ length facts
  pub others : (k : ℕ) → (IsFork s (k / 2) → ⊥) → get_or facts' k 0 ≡ get_or facts k 0
