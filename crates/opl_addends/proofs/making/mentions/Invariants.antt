use Rattle.opl_addends.proofs.Finding.{AreFirst}
use Rattle.opl_addends.proofs.making.mentions.Given as goal

abbrev pub invariant-loop-variable : goal.invariant-loop-variable
invariant-loop-variable l = AreFirst l.core l.addends l.variables l.variable-index l.found
