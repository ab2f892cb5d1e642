use Rattle.opl_all_different.proofs.Spreads.{Spreading}
use Rattle.opl_all_different.proofs.spreading.spread.Given as goal

abbrev pub invariant-loop-j : goal.invariant-loop-j
invariant-loop-j g l = Spreading (g.N.View.family l.initial.n) (g.N.View.family l.n) l.parts l.i l.j l.v × g.N.Narrow.leads_to l.initial.n l.n
