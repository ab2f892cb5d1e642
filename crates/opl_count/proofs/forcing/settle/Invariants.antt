use Rattle.std.proofs.Common.{length, ◌-◌}
use Rattle.opl_notes.specs.Noted.{Tells}
use Rattle.opl_count.specs.Places.{means_sum}
use Rattle.opl_count.proofs.Settling.{HasForced}
use Rattle.opl_count.proofs.forcing.settle.Given as goal

abbrev pub invariant-loop-at : goal.invariant-loop-at
invariant-loop-at g l = HasForced l.core l.sum l.slack (g.N.View.family l.initial.n) (g.N.View.family l.n) l.at × g.N.Narrow.leads_to l.initial.n l.n × Tells (means_sum l.core l.sum) l.fn.notes (g.N.View.family l.fn.n) l.notes (g.N.View.family l.n)

abbrev pub decreases-loop-at : goal.decreases-loop-at
decreases-loop-at g l = length l.literals - l.at
