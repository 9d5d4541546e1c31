use Rattle.words.specs.Integer.{high_word}
use Rattle.integers.proofs.Signed.{read_is, bits_are}
use Rattle.integers.proofs.high_word.Goals as goal

pub returns : goal.returns
unfolding high_word
returns c =
    rw (c.cast_unsigned.ensures, read_is c.ranges.z, bits_are c.args.z)
