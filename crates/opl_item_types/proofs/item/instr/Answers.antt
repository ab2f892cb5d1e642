use Rattle.std.proofs.Common.{arith, map}
use Rattle.opl_item_types.proofs.Items.{optimize-adds, outside}
use Rattle.opl_type_rules.specs.Types.{sort}
use Rattle.opl_type_rules.specs.Values.{scope_of}
use Rattle.opl_item_types.proofs.item.instr.Goals as goal

pub returns-in_ok-outer_block-in-Optimize : goal.returns-in_ok-outer_block-in-Optimize
returns-in_ok-outer_block-in-Optimize c =
    optimize-adds c.args.t.now c.in-Optimize.field-0 c.in-Optimize.field-1 c.in-Optimize.objective c.in-Optimize.inner (scope_of c.args.model.now) (map sort c.args.kinds.now)
    (map sort c.optimized.new.kinds) (map sort c.outer_block-in-Optimize.new.kinds) c.in-Optimize.is c.in_ok-optimized-in-Optimize.ensures c.in_ok-outer_block-in-Optimize.ensures

pub returns-in-Solve : goal.returns-in-Solve
returns-in-Solve c = grind (arith, outside)

pub returns-in_err-optimized-in-Optimize : goal.returns-in_err-optimized-in-Optimize
returns-in_err-optimized-in-Optimize c = grind (arith, outside)

pub returns-in_err-outer_block-in-Optimize : goal.returns-in_err-outer_block-in-Optimize
returns-in_err-outer_block-in-Optimize c = grind (arith, outside)
