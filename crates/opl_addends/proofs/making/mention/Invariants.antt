use Rattle.opl_addends.proofs.Finding.{Finds}
use Rattle.opl_addends.proofs.making.mention.Given as goal

abbrev pub invariant-loop-at : goal.invariant-loop-at
invariant-loop-at l = Finds l.core l.addends l.variable l.at l.places
