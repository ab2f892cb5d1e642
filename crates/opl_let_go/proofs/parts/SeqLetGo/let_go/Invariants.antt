use Rattle.std.proofs.Common.{length}
use Rattle.opl_let_go.proofs.parts.SeqLetGo.let_go.Given as goal

abbrev pub invariant-loop-item : goal.invariant-loop-item
invariant-loop-item g l = Unit {0}

abbrev pub decreases-loop-item : goal.decreases-loop-item
decreases-loop-item g l = length l.items.items
