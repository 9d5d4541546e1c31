use native.Mathlib.Omega.{arith}
use Rattle.values.proofs.BindingLaws as laws
use Rattle.values.proofs.stores.binding_fits.Goals as goal

pub word-t-requires : goal.word-t-requires
word-t-requires c =
    (omega (arith, c.requires.1), omega arith)

pub returns-then-int_of-t : goal.returns-then-int_of-t
returns-then-int_of-t c =
    laws.binding_no_type c.requires.0 _ _ _ c.word-t.ensures.0 c.int_of.ensures.0 (omega arith)

pub word-link-requires : goal.word-link-requires
word-link-requires c =
    (omega (arith, c.requires.1), omega arith)

pub returns-then-i-link : goal.returns-then-i-link
returns-then-i-link c =
    laws.binding_no_link c.requires.0 _ _ _ c.word-t.ensures.0 c.int_of.ensures.0 _ c.word-link.ensures.0 (omega arith) (omega arith)

pub value-v-requires : goal.value-v-requires
value-v-requires c =
    (omega (arith, c.requires.1), omega arith)

pub returns : goal.returns
returns c =
    laws.binding_is c.requires.0 _ _ _ c.word-t.ensures.0 c.int_of.ensures.0 _ c.word-link.ensures.0 (omega arith) _ _ (omega arith) c.value-v.ensures.0 c.value_fits.ensures
