use Rattle.integers.proofs.Signed.{read_is}
use Rattle.value_words.proofs.value_words.Goals as goal

pub returns-in-Null : goal.returns-in-Null
returns-in-Null c =
    rw c.in-Null.is

pub returns-in-Ref : goal.returns-in-Ref
returns-in-Ref c =
    rw c.in-Ref.is

pub returns-in-Int : goal.returns-in-Int
returns-in-Int c =
    rw (c.in-Int.is, c.low_word-low.ensures, c.high_word-high.ensures, read_is (record { sfits = c.in-Int.known_told-in-Int-1-own.given.0.1 }))
