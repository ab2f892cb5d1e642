use Rattle.std.proofs.Common.{◌≡◌}
use Rattle.std.specs.Prelude.{Some}
use Rattle.opl_reify.proofs.Trying.{TryingShared}
use Rattle.opl_addends.specs.Addends.{plains, total}
use Rattle.opl_addends.specs.Sums.{is_refuted, variables}
use Rattle.opl_addends.proofs.rounds.try_each.Given as goal

abbrev pub invariant-loop-mention : goal.invariant-loop-mention
invariant-loop-mention g l =
    TryingShared (is_refuted l.core l.sum) (variables l.sum.mentions) (variables l.sum.mentions) (g.N.View.family l.initial.n) (g.N.View.family l.n) l.mention-index l.removed × g.N.Narrow.leads_to l.initial.n l.n
    × (total (g.N.View.family l.n) (plains l.core l.sum.addends) ≡ Some l.kept)
