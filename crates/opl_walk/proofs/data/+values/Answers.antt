use Rattle.std.proofs.Common.{arith}
use Rattle.opl_data.proofs.Trees.{pair_marks, value_marks}
use Rattle.opl_walk.proofs.Telling.{separated, telling}
use Rattle.opl_walk.proofs.data.+values.Goals as goal

pub walk_pair-returns : goal.walk_pair-returns
walk_pair-returns g t c = grind (arith, pair_marks, telling)

pub walk_pairs-loop-pair-init : goal.walk_pairs-loop-pair-init
walk_pairs-loop-pair-init g t c = grind (arith, separated)

pub walk_pairs-loop-pair-preserved : goal.walk_pairs-loop-pair-preserved
walk_pairs-loop-pair-preserved g t c = grind (arith, separated)

pub walk_pairs-returns : goal.walk_pairs-returns
walk_pairs-returns g t c = grind (arith, separated)

pub walk_value-returns-in-Number : goal.walk_value-returns-in-Number
walk_value-returns-in-Number g t c = grind (arith, value_marks, telling)

pub walk_value-returns-in-Named : goal.walk_value-returns-in-Named
walk_value-returns-in-Named g t c = grind (arith, value_marks, telling)

pub walk_value-returns-in-Record :
    goal.walk_value-returns-in-Record
walk_value-returns-in-Record g t c = grind (arith, value_marks, telling)

pub walk_value-returns-in-Set : goal.walk_value-returns-in-Set
walk_value-returns-in-Set g t c = grind (arith, value_marks, telling)

pub walk_value-returns-in-Array :
    goal.walk_value-returns-in-Array
walk_value-returns-in-Array g t c = grind (arith, value_marks, telling)

pub walk_value-returns-in-KeyedArray :
    goal.walk_value-returns-in-KeyedArray
walk_value-returns-in-KeyedArray g t c = grind (arith, value_marks, telling)

pub walk_values-loop-value-init : goal.walk_values-loop-value-init
walk_values-loop-value-init g t c = grind (arith, separated)

pub walk_values-loop-value-preserved : goal.walk_values-loop-value-preserved
walk_values-loop-value-preserved g t c = grind (arith, separated)

pub walk_values-returns : goal.walk_values-returns
walk_values-returns g t c = grind (arith, separated)
