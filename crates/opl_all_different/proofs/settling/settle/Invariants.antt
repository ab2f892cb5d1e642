use Rattle.opl_all_different.proofs.Settled.{Settling, unmarked}
use Rattle.opl_all_different.proofs.settling.settle.Given as goal

abbrev pub invariant-loop-i : goal.invariant-loop-i
invariant-loop-i g l = Settling (g.N.View.family l.initial.n) (g.N.View.family l.n) l.parts l.done × g.N.Narrow.leads_to l.initial.n l.n

abbrev pub decreases-loop-i : goal.decreases-loop-i
decreases-loop-i g l = unmarked l.done
