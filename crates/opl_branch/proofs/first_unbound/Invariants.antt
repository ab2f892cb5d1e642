use Rattle.opl_branch.specs.Firsts.{AreSingle}
use Rattle.opl_branch.proofs.first_unbound.Given as goal

abbrev pub invariant-loop-place : goal.invariant-loop-place
invariant-loop-place g l = AreSingle (g.V.View.family l.v) l.list l.place
