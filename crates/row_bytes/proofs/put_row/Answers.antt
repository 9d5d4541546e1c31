use mathlib.Core.Path.{ap}
use native.Mathlib.Omega.{arith}
use lib.ListN.{length}
use Rattle.token_words.specs.declared.Row.{Row}
use Rattle.token_words.specs.Row.{row_words}
use Rattle.row_bytes.proofs.WrittenLaws.{three_put, four_put}
use Rattle.row_bytes.proofs.put_row.Goals as goal

pub put_pair-requires : goal.put_pair-requires
put_pair-requires c =
    omega (arith, c.requires, ap (λ (r : Row). length (row_words r)) c.in-Two.is)

pub put_pair-requires-in-Three : goal.put_pair-requires-in-Three
put_pair-requires-in-Three c =
    omega (arith, c.requires, ap (λ (r : Row). length (row_words r)) c.in-Three.is)

pub put_word-requires : goal.put_word-requires
put_word-requires c =
    omega (arith, c.requires, ap (λ (r : Row). length (row_words r)) c.in-Three.is)

pub put_pair-requires-in-Four : goal.put_pair-requires-in-Four
put_pair-requires-in-Four c =
    omega (arith, c.requires, ap (λ (r : Row). length (row_words r)) c.in-Four.is)

pub put_pair-requires-in-Four-2 : goal.put_pair-requires-in-Four-2
put_pair-requires-in-Four-2 c =
    omega (arith, c.requires, ap (λ (r : Row). length (row_words r)) c.in-Four.is)

pub returns-in-Two : goal.returns-in-Two
returns-in-Two c =
    rw c.in-Two.is (record { file_is = c.put_pair.ensures; end_is = omega arith })

pub returns-in-Three : goal.returns-in-Three
returns-in-Three c =
    rw c.in-Three.is (record { file_is = three_put _ _ _ _ _ (omega (arith, c.requires, ap (λ (r : Row). length (row_words r)) c.in-Three.is)) c.put_pair-in-Three.ensures c.put_word.ensures; end_is = omega arith })

pub returns-in-Four : goal.returns-in-Four
returns-in-Four c =
    rw c.in-Four.is (record { file_is = four_put _ _ _ _ _ _ (omega (arith, c.requires, ap (λ (r : Row). length (row_words r)) c.in-Four.is)) c.put_pair-in-Four.ensures c.put_pair-in-Four-2.ensures; end_is = omega arith })
