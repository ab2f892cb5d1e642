use Rattle.opl_linear.specs.Trimming.{IsTrimmedTo}
use Rattle.opl_linear.specs.Alternating.{Changes}
use Rattle.opl_linear.proofs.at_most.trim_all.Given as goal

abbrev pub invariant-loop-part : goal.invariant-loop-part
invariant-loop-part g l = IsTrimmedTo (g.N.View.family l.initial.n) (g.N.View.family l.n) l.parts l.slack l.part-index × Changes (g.N.View.family l.initial.n) (g.N.View.family l.n) l.changed × g.N.Narrow.leads_to l.initial.n l.n
