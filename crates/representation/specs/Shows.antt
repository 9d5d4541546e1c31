-- What there is to see in the bytes of a block, word by word: the counts, each record of each area, and "bytes with no meaning are 0".
use Rattle.std.specs.Prelude.{ℕ, ◌*◌, ◌<◌, ◌≤◌, ◌≡◌, List, length, get_or}
use Rattle.words.specs.Word.{word_at}
use Rattle.limits.specs.Limits.{BLOCK}
use Rattle.block.specs.Rows.{cell}
use Rattle.block.specs.declared.Area.{Area}
use Rattle.block.specs.Layout.{WORDS, width, most, END, counted, word_in}
use Rattle.block.specs.Block.{Parts, rows}

pub record Shows (b : List ℕ) (p : Parts) : Type 0 where
  pub long : length b ≡ BLOCK
  pub small : (i : ℕ) → get_or b i 0 < 256
  pub counts : (a : Area) → counted b a ≡ length (rows p a)
  pub records : (a : Area) (i j : ℕ) → i < most a → j < width a → word_in b a i j ≡ cell (rows p a) i j
  pub rest : (n : ℕ) → END ≤ n → n < WORDS → word_at b (2 * n) ≡ 0
