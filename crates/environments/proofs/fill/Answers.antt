use mathlib.Core.Path.{◌∙◌}
use native.Mathlib.Omega.{arith}
use Rattle.environments.proofs.TableLaws as laws
use Rattle.environments.proofs.fill.Goals as goal

pub loop-e-init : goal.loop-e-init
loop-e-init c =
    laws.fill_begun c.requires.chain.0 c.requires.within_layout.3

pub word-name-requires : goal.word-name-requires
word-name-requires c =
    (laws.reached c.requires.chain.0 c.loop-e.invariant.within (omega arith), omega arith)

pub word-t-requires : goal.word-t-requires
word-t-requires c =
    (laws.reached c.requires.chain.0 c.loop-e.invariant.within (omega arith), omega arith)

pub store_type-requires : goal.store_type-requires
store_type-requires c =
    (c.requires.within_layout.0, c.requires.within_layout.1, c.loop-e.invariant.size ∙ c.requires.within_layout.2, laws.typed c.requires.chain.0 c.requires.chain.1 c.loop-e.invariant.within (omega arith) _ c.word-t.ensures.0)

pub word-e-requires : goal.word-e-requires
word-e-requires c =
    (laws.reached c.requires.chain.0 c.loop-e.invariant.within (omega arith), omega arith)

pub loop-e-smaller : goal.loop-e-smaller
loop-e-smaller c =
    laws.nearer c.requires.chain.0 c.loop-e.invariant.within (omega arith) _ c.word-e.ensures.0

pub loop-e-preserved : goal.loop-e-preserved
loop-e-preserved c =
    laws.fill_more c.requires.chain.0 _ _ _ c.loop-e.invariant (omega arith) c.word-name.ensures.0 c.word-t.ensures.0 c.store_type.ensures c.word-e.ensures.0

pub shape_of-table : goal.shape_of-table
shape_of-table c =
    c.loop-e.invariant.size

pub returns : goal.returns
returns c =
    record { filled = laws.fill_done c.requires.chain.0 c.loop-e.invariant (omega arith); table_len_unchanged = c.loop-e.invariant.size }
