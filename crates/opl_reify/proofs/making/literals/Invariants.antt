use Rattle.opl_reify.proofs.Made.{AreFirstParts}
use Rattle.opl_reify.proofs.making.literals.Given as goal

abbrev pub invariant-loop-c : goal.invariant-loop-c
invariant-loop-c l = AreFirstParts l.core l.cs l.c-index l.parts
