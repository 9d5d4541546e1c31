use Rattle.inference.proofs.WalkLaws.{MethodsLeft}
use Rattle.inference.proofs.program.walk_class.Given as goal

abbrev pub invariant-loop-m : goal.invariant-loop-m
invariant-loop-m l = MethodsLeft l.code.script.bytes.now l.initial.env l.env l.c l.class l.end l.m
