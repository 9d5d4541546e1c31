use Rattle.words.specs.Integer.{low_word}
use Rattle.integers.proofs.Signed.{read_is, bits_are}
use Rattle.integers.proofs.low_word.Goals as goal

pub returns : goal.returns
unfolding low_word
returns c =
    rw (c.cast_unsigned.ensures, read_is c.ranges.z, bits_are c.args.z)
