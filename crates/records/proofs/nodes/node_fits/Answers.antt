use borrow.Author.Rules.{rules}
use native.Mathlib.Omega.{arith}
use Rattle.script.specs.declared.Section.TheVariants.{Nodes as nodes}
use Rattle.script.specs.Questions.{word_test}
use Rattle.records.proofs.RecordLaws.{node_no, node_is}
use Rattle.records.proofs.nodes.node_fits.Goals as goal

pub use_fits-requires : goal.use_fits-requires
use_fits-requires c =
    omega (arith, c.requires.0.room, c.args.file.now.laid.counts_are.within nodes)

pub returns-then-words_fit : goal.returns-then-words_fit
returns-then-words_fit c =
    node_is _ _ _ (c.words_fit.ensures (word_test c.args.file.now.bytes.now c.args.n) (λ role w fit k. search rules)) _ _ c.requires.0
    (omega (arith, c.args.file.now.laid.counts_are.within nodes)) c.if-words_fit.true c.use_fits.ensures

pub returns-else-words_fit : goal.returns-else-words_fit
returns-else-words_fit c =
    node_no _ _ _ (c.words_fit.ensures (word_test c.args.file.now.bytes.now c.args.n) (λ role w fit k. search rules)) c.if-words_fit.false
