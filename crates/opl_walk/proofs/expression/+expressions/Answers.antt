use Rattle.std.proofs.Common.{arith}
use Rattle.opl_tree.proofs.Marks.{add_marks, add_step_marks, and_marks, compare_marks, expr_marks, group_marks, group_step_marks, imp_marks, keyed_marks, last_step_marks, mul_marks, mul_step_marks, neg_marks, open_marks, or_marks, params_marks, post_marks, prim_marks, set_marks, sign_marks, subscripts_marks, suffix_marks}
use Rattle.opl_walk.proofs.Telling.{lists, separated, telling}
use Rattle.opl_walk.proofs.expression.+expressions.Goals as goal

pub walk_add-loop-step-init : goal.walk_add-loop-step-init
walk_add-loop-step-init g t c = grind (arith, add_marks, telling, lists)

pub walk_add-loop-step-preserved : goal.walk_add-loop-step-preserved
walk_add-loop-step-preserved g t c = grind (arith, add_marks, telling, lists)

pub walk_add-returns : goal.walk_add-returns
walk_add-returns g t c = grind (arith, add_marks, telling, lists)

pub walk_add_step-returns : goal.walk_add_step-returns
walk_add_step-returns g t c = grind (arith, add_step_marks, telling)

pub walk_adds-loop-add-init : goal.walk_adds-loop-add-init
walk_adds-loop-add-init g t c = grind (arith, separated)

pub walk_adds-loop-add-preserved : goal.walk_adds-loop-add-preserved
walk_adds-loop-add-preserved g t c = grind (arith, separated)

pub walk_adds-returns : goal.walk_adds-returns
walk_adds-returns g t c = grind (arith, separated)

pub walk_and-loop-neg-init : goal.walk_and-loop-neg-init
walk_and-loop-neg-init g t c = grind (arith, and_marks, telling, lists)

pub walk_and-loop-neg-preserved : goal.walk_and-loop-neg-preserved
walk_and-loop-neg-preserved g t c = grind (arith, and_marks, telling, lists)

pub walk_and-returns : goal.walk_and-returns
walk_and-returns g t c = grind (arith, and_marks, telling, lists)

pub walk_compare-returns-in-Single : goal.walk_compare-returns-in-Single
walk_compare-returns-in-Single g t c = grind (arith, compare_marks, telling)

pub walk_compare-returns-in-Related : goal.walk_compare-returns-in-Related
walk_compare-returns-in-Related g t c = grind (arith, compare_marks, telling)

pub walk_compare-returns-in-Member : goal.walk_compare-returns-in-Member
walk_compare-returns-in-Member g t c = grind (arith, compare_marks, telling)

pub walk_expr-loop-imp-init : goal.walk_expr-loop-imp-init
walk_expr-loop-imp-init g t c = grind (arith, expr_marks, telling, lists)

pub walk_expr-loop-imp-preserved : goal.walk_expr-loop-imp-preserved
walk_expr-loop-imp-preserved g t c = grind (arith, expr_marks, telling, lists)

pub walk_expr-returns : goal.walk_expr-returns
walk_expr-returns g t c = grind (arith, expr_marks, telling, lists)

pub walk_group-loop-pattern-init : goal.walk_group-loop-pattern-init
walk_group-loop-pattern-init g t c = grind (arith, group_marks, telling, lists)

pub walk_group-loop-pattern-preserved : goal.walk_group-loop-pattern-preserved
walk_group-loop-pattern-preserved g t c = grind (arith, group_marks, telling, lists)

pub walk_group-returns : goal.walk_group-returns
walk_group-returns g t c = grind (arith, group_marks, telling, lists)

pub walk_group_step-returns : goal.walk_group_step-returns
walk_group_step-returns g t c = grind (arith, group_step_marks, telling)

pub walk_imp-returns-in-Some : goal.walk_imp-returns-in-Some
walk_imp-returns-in-Some g t c = grind (arith, imp_marks, telling)

pub walk_imp-returns-in_default : goal.walk_imp-returns-in_default
walk_imp-returns-in_default g t c = grind (arith, imp_marks, telling)

pub walk_keyed-returns : goal.walk_keyed-returns
walk_keyed-returns g t c = grind (arith, keyed_marks, telling)

pub walk_last_step-returns : goal.walk_last_step-returns
walk_last_step-returns g t c = grind (arith, last_step_marks, telling)

pub walk_mul-loop-step-init : goal.walk_mul-loop-step-init
walk_mul-loop-step-init g t c = grind (arith, mul_marks, telling, lists)

pub walk_mul-loop-step-preserved : goal.walk_mul-loop-step-preserved
walk_mul-loop-step-preserved g t c = grind (arith, mul_marks, telling, lists)

pub walk_mul-returns-in-Opened : goal.walk_mul-returns-in-Opened
walk_mul-returns-in-Opened g t c = grind (arith, mul_marks, telling, lists)

pub walk_mul-returns-in-Some : goal.walk_mul-returns-in-Some
walk_mul-returns-in-Some g t c = grind (arith, mul_marks, telling, lists)

pub walk_mul-returns-in_default : goal.walk_mul-returns-in_default
walk_mul-returns-in_default g t c = grind (arith, mul_marks, telling, lists)

pub walk_mul_step-returns : goal.walk_mul_step-returns
walk_mul_step-returns g t c = grind (arith, mul_step_marks, telling)

pub walk_neg-returns-in-Not : goal.walk_neg-returns-in-Not
walk_neg-returns-in-Not g t c = grind (arith, neg_marks, telling)

pub walk_neg-returns-in-Compare : goal.walk_neg-returns-in-Compare
walk_neg-returns-in-Compare g t c = grind (arith, neg_marks, telling)

pub walk_open-returns-in-NegativeOpen :
    goal.walk_open-returns-in-NegativeOpen
walk_open-returns-in-NegativeOpen g t c = grind (arith, open_marks, telling)

pub walk_open-returns-in-Aggregate : goal.walk_open-returns-in-Aggregate
walk_open-returns-in-Aggregate g t c = grind (arith, open_marks, telling)

pub walk_or-loop-and-init : goal.walk_or-loop-and-init
walk_or-loop-and-init g t c = grind (arith, or_marks, telling, lists)

pub walk_or-loop-and-preserved : goal.walk_or-loop-and-preserved
walk_or-loop-and-preserved g t c = grind (arith, or_marks, telling, lists)

pub walk_or-returns : goal.walk_or-returns
walk_or-returns g t c = grind (arith, or_marks, telling, lists)

pub walk_pairs-loop-pair-init : goal.walk_pairs-loop-pair-init
walk_pairs-loop-pair-init g t c = grind (arith, separated)

pub walk_pairs-loop-pair-preserved : goal.walk_pairs-loop-pair-preserved
walk_pairs-loop-pair-preserved g t c = grind (arith, separated)

pub walk_pairs-returns : goal.walk_pairs-returns
walk_pairs-returns g t c = grind (arith, separated)

pub walk_params-loop-step-init : goal.walk_params-loop-step-init
walk_params-loop-step-init g t c = grind (arith, params_marks, telling, lists)

pub walk_params-loop-step-preserved : goal.walk_params-loop-step-preserved
walk_params-loop-step-preserved g t c = grind (arith, params_marks, telling, lists)

pub walk_params-returns-in-Some : goal.walk_params-returns-in-Some
walk_params-returns-in-Some g t c = grind (arith, params_marks, telling, lists)

pub walk_params-returns-in_default : goal.walk_params-returns-in_default
walk_params-returns-in_default g t c = grind (arith, params_marks, telling, lists)

pub walk_post-loop-suffix-init : goal.walk_post-loop-suffix-init
walk_post-loop-suffix-init g t c = grind (arith, post_marks, telling, lists)

pub walk_post-loop-suffix-preserved : goal.walk_post-loop-suffix-preserved
walk_post-loop-suffix-preserved g t c = grind (arith, post_marks, telling, lists)

pub walk_post-returns : goal.walk_post-returns
walk_post-returns g t c = grind (arith, post_marks, telling, lists)

pub walk_prim-returns-in-Number : goal.walk_prim-returns-in-Number
walk_prim-returns-in-Number g t c = grind (arith, prim_marks, telling)

pub walk_prim-returns-in-Named : goal.walk_prim-returns-in-Named
walk_prim-returns-in-Named g t c = grind (arith, prim_marks, telling)

pub walk_prim-returns-in-Bracket :
    goal.walk_prim-returns-in-Bracket
walk_prim-returns-in-Bracket g t c = grind (arith, prim_marks, telling)

pub walk_prim-returns-in-Record : goal.walk_prim-returns-in-Record
walk_prim-returns-in-Record g t c = grind (arith, prim_marks, telling)

pub walk_prim-returns-in-Listed : goal.walk_prim-returns-in-Listed
walk_prim-returns-in-Listed g t c = grind (arith, prim_marks, telling)

pub walk_prim-returns-in-Described :
    goal.walk_prim-returns-in-Described
walk_prim-returns-in-Described g t c = grind (arith, prim_marks, telling)

pub walk_prim-returns-in-Array : goal.walk_prim-returns-in-Array
walk_prim-returns-in-Array g t c = grind (arith, prim_marks, telling)

pub walk_prim-returns-in-KeyedArray :
    goal.walk_prim-returns-in-KeyedArray
walk_prim-returns-in-KeyedArray g t c = grind (arith, prim_marks, telling)

pub walk_prim-returns-in-Call : goal.walk_prim-returns-in-Call
walk_prim-returns-in-Call g t c = grind (arith, prim_marks, telling)

pub walk_prim-returns-in-AllDifferent :
    goal.walk_prim-returns-in-AllDifferent
walk_prim-returns-in-AllDifferent g t c = grind (arith, prim_marks, telling)

pub walk_prim-returns-in-Question :
    goal.walk_prim-returns-in-Question
walk_prim-returns-in-Question g t c = grind (arith, prim_marks, telling)

pub walk_set-returns-in-Some : goal.walk_set-returns-in-Some
walk_set-returns-in-Some g t c = grind (arith, set_marks, telling)

pub walk_set-returns-in_default : goal.walk_set-returns-in_default
walk_set-returns-in_default g t c = grind (arith, set_marks, telling)

pub walk_sign-returns-in-Negative : goal.walk_sign-returns-in-Negative
walk_sign-returns-in-Negative g t c = grind (arith, sign_marks, telling)

pub walk_sign-returns-in-Postfix : goal.walk_sign-returns-in-Postfix
walk_sign-returns-in-Postfix g t c = grind (arith, sign_marks, telling)

pub walk_subscripts-returns : goal.walk_subscripts-returns
walk_subscripts-returns g t c = grind (arith, subscripts_marks, telling)

pub walk_suffix-returns-in-Subscripts : goal.walk_suffix-returns-in-Subscripts
walk_suffix-returns-in-Subscripts g t c = grind (arith, suffix_marks, telling)

pub walk_suffix-returns-in-Field : goal.walk_suffix-returns-in-Field
walk_suffix-returns-in-Field g t c = grind (arith, suffix_marks, telling)
