use Rattle.tokens.proofs.TokenLaws.{on_end, at_word}
use Rattle.tokens.proofs.KindLaws.{kind_known, of_sign, of_digits, word_there}
use Rattle.tokens.proofs.source.Text.next_token.Goals as goal

pub returns-then-start-self : goal.returns-then-start-self
returns-then-start-self c =
    on_end _ _ _ c.skip_blanks-start.ensures c.if-start-self.true

pub returns-then-kind-lt-NAME : goal.returns-then-kind-lt-NAME
returns-then-kind-lt-NAME c =
    let known = kind_known c.skip_blanks-start.ensures c.if-start-self.false c.kind_at-kind.ensures in
    of_sign _ _ _ _ known c.if-kind-lt-NAME.true

pub returns-then-kind-eq-DIGITS : goal.returns-then-kind-eq-DIGITS
returns-then-kind-eq-DIGITS c =
    let known = kind_known c.skip_blanks-start.ensures c.if-start-self.false c.kind_at-kind.ensures in
    of_digits _ _ _ _ known _ c.run_end-end.ensures c.if-kind-eq-DIGITS.true

pub word_kind-requires : goal.word_kind-requires
word_kind-requires c =
    let known = kind_known c.skip_blanks-start.ensures c.if-start-self.false c.kind_at-kind.ensures in
    word_there _ _ _ _ known _ c.run_end-end.ensures c.if-kind-lt-NAME.false c.if-kind-eq-DIGITS.false

pub returns : goal.returns
returns c =
    let known = kind_known c.skip_blanks-start.ensures c.if-start-self.false c.kind_at-kind.ensures in
    let word = word_there _ _ _ _ known _ c.run_end-end.ensures c.if-kind-lt-NAME.false c.if-kind-eq-DIGITS.false in
    at_word _ _ _ c.skip_blanks-start.ensures word.inside _ _ word.letter c.word_kind.ensures word.ends
