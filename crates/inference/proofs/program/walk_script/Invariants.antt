use Rattle.inference.proofs.WalkLaws.{ClassesLeft}
use Rattle.inference.proofs.program.walk_script.Given as goal

abbrev pub invariant-loop-c : goal.invariant-loop-c
invariant-loop-c l = ClassesLeft l.code.script.bytes.now l.initial.env l.env l.c
