use Rattle.std.proofs.Common.{arith, pos}
use Rattle.opl_objective_filter.proofs.Sides.{can_less, can_more}
use Rattle.opl_objective_filter.proofs.objective_filter.parts_below.Goals as goal

pub parts_between-requires : goal.parts_between-requires
parts_between-requires c = can_more c.args.core.now c.args.goal.now.value c.requires (pos 0) (omega arith)

pub parts_between-requires-else-goal : goal.parts_between-requires-else-goal
parts_between-requires-else-goal c = can_less c.args.core.now c.args.goal.now.value c.requires (pos 0) (omega arith)
