use native.Mathlib.Omega.{arith}
use Rattle.environments.proofs.LaidLaws.{long}
use Rattle.methods.proofs.MethodLaws.{one_more, adds_call}
use Rattle.methods.proofs.methods.add_call.Goals as goal

pub add_binding-requires : goal.add_binding-requires
add_binding-requires c =
    omega (arith, c.requires.0, c.requires.1)

pub add_binding-requires-2 : goal.add_binding-requires-2
add_binding-requires-2 c =
    omega (arith, one_more c.requires.4.0 _ c.requires.4.1 c.add_binding.ensures, c.requires.0, c.requires.1)

pub returns : goal.returns
returns c =
    λ i rest st u s. adds_call s _ _ _ _ _ c.requires.0 c.requires.1 (omega (arith, c.requires.2)) c.requires.3 c.add_binding.ensures c.add_binding-2.ensures
