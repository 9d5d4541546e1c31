use native.Mathlib.Omega.{arith}
use lib.ListN.{drop, length-drop}
use Rattle.token_words.proofs.TokenLaws.{nested_drop, hop_within}
use Rattle.token_words.proofs.node.Node.part.Goals as goal

pub overflow_cast-result : goal.overflow_cast-result
overflow_cast-result c =
    let a = c.args.self.now in
    omega (arith, c.hop.ensures, hop_within c.args.parts (drop a.from a.sizes.now) (nested_drop a.from a.nested), length-drop a.from a.sizes.now, a.few_nodes)

pub overflow_add-result-2 : goal.overflow_add-result-2
overflow_add-result-2 c =
    let a = c.args.self.now in
    omega (arith, c.hop.ensures, hop_within c.args.parts (drop a.from a.sizes.now) (nested_drop a.from a.nested), length-drop a.from a.sizes.now, a.few_nodes)
