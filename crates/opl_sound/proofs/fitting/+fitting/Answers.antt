use Rattle.std.proofs.Common.{sym, arith}
use Rattle.opl_sound.proofs.FittingForms.{no_depth, no_cons_depth, constraints, expressions}
use Rattle.opl_sound.proofs.fitting.+fitting.Goals as goal

pub constraint_fits-returns-then-depth-eq0 : goal.constraint_fits-returns-then-depth-eq0
constraint_fits-returns-then-depth-eq0 t c = sym (no_cons_depth c.args.core.now.tables c.args.core.now.resources c.args.decides c.args.depth c.args.c.now (omega (arith, c.if-depth-eq0.true)))

pub expression_fits-returns-then-depth-eq0 : goal.expression_fits-returns-then-depth-eq0
expression_fits-returns-then-depth-eq0 t c = sym (no_depth c.args.core.now.tables c.args.core.now.resources c.args.decides c.args.depth c.args.e.now (omega (arith, c.if-depth-eq0.true)))

-- src/fitting.rt:111:1
pub condition_fits-returns-in-Fixed : goal.condition_fits-returns-in-Fixed
condition_fits-returns-in-Fixed t c = grind (arith, constraints)

-- src/fitting.rt:111:1
pub condition_fits-returns-then-expression_fits : goal.condition_fits-returns-then-expression_fits
condition_fits-returns-then-expression_fits t c = grind (arith, constraints)

-- src/fitting.rt:111:1
pub condition_fits-returns-else-expression_fits : goal.condition_fits-returns-else-expression_fits
condition_fits-returns-else-expression_fits t c = grind (arith, constraints)

-- src/fitting.rt:111:1
pub condition_fits-returns-in-And : goal.condition_fits-returns-in-And
condition_fits-returns-in-And t c = grind (arith, constraints)

-- src/fitting.rt:111:1
pub condition_fits-returns-in-Or : goal.condition_fits-returns-in-Or
condition_fits-returns-in-Or t c = grind (arith, constraints)

-- src/fitting.rt:111:1
pub condition_fits-returns-then-constraint_fits : goal.condition_fits-returns-then-constraint_fits
condition_fits-returns-then-constraint_fits t c = grind (arith, constraints)

-- src/fitting.rt:111:1
pub condition_fits-returns-else-constraint_fits : goal.condition_fits-returns-else-constraint_fits
condition_fits-returns-else-constraint_fits t c = grind (arith, constraints)

-- src/fitting.rt:111:1
pub condition_fits-returns-then-constraint_fits-2 :
    goal.condition_fits-returns-then-constraint_fits-2
condition_fits-returns-then-constraint_fits-2 t c = grind (arith, constraints)

-- src/fitting.rt:111:1
pub condition_fits-returns-else-constraint_fits-2 :
    goal.condition_fits-returns-else-constraint_fits-2
condition_fits-returns-else-constraint_fits-2 t c = grind (arith, constraints)

-- src/fitting.rt:111:1
pub condition_fits-returns-in-Not : goal.condition_fits-returns-in-Not
condition_fits-returns-in-Not t c = grind (arith, constraints)

-- src/fitting.rt:111:1
pub condition_fits-returns-in-AllDifferent : goal.condition_fits-returns-in-AllDifferent
condition_fits-returns-in-AllDifferent t c = grind (arith, constraints)

-- src/fitting.rt:111:1
pub condition_fits-returns-then-not-decides : goal.condition_fits-returns-then-not-decides
condition_fits-returns-then-not-decides t c = grind (arith, constraints)

-- src/fitting.rt:111:1
pub condition_fits-returns-else-not-decides : goal.condition_fits-returns-else-not-decides
condition_fits-returns-else-not-decides t c = grind (arith, constraints)

-- src/fitting.rt:111:1
pub condition_fits-returns-in-Bound : goal.condition_fits-returns-in-Bound
condition_fits-returns-in-Bound t c = grind (arith, constraints)

-- src/fitting.rt:51:1
pub node_fits-returns-in-Const : goal.node_fits-returns-in-Const
node_fits-returns-in-Const t c = grind (arith, expressions)

-- src/fitting.rt:51:1
pub node_fits-returns-in-Var : goal.node_fits-returns-in-Var
node_fits-returns-in-Var t c = grind (arith, expressions)

-- src/fitting.rt:51:1
pub node_fits-returns-in-Sum : goal.node_fits-returns-in-Sum
node_fits-returns-in-Sum t c = grind (arith, expressions)

-- src/fitting.rt:51:1
pub node_fits-returns-in-Neg : goal.node_fits-returns-in-Neg
node_fits-returns-in-Neg t c = grind (arith, expressions)

-- src/fitting.rt:51:1
pub node_fits-returns-then-expression_fits : goal.node_fits-returns-then-expression_fits
node_fits-returns-then-expression_fits t c = grind (arith, expressions)

-- src/fitting.rt:51:1
pub node_fits-returns-else-expression_fits : goal.node_fits-returns-else-expression_fits
node_fits-returns-else-expression_fits t c = grind (arith, expressions)

-- src/fitting.rt:51:1
pub node_fits-returns-then-expression_fits-2 : goal.node_fits-returns-then-expression_fits-2
node_fits-returns-then-expression_fits-2 t c = grind (arith, expressions)

-- src/fitting.rt:51:1
pub node_fits-returns-else-expression_fits-2 : goal.node_fits-returns-else-expression_fits-2
node_fits-returns-else-expression_fits-2 t c = grind (arith, expressions)

-- src/fitting.rt:51:1
pub node_fits-returns-then-expression_fits-3 : goal.node_fits-returns-then-expression_fits-3
node_fits-returns-then-expression_fits-3 t c = grind (arith, expressions)

-- src/fitting.rt:51:1
pub node_fits-returns-else-expression_fits-3 : goal.node_fits-returns-else-expression_fits-3
node_fits-returns-else-expression_fits-3 t c = grind (arith, expressions)

-- src/fitting.rt:51:1
pub node_fits-returns-in-Abs : goal.node_fits-returns-in-Abs
node_fits-returns-in-Abs t c = grind (arith, expressions)

-- src/fitting.rt:51:1
pub node_fits-returns-in-Min : goal.node_fits-returns-in-Min
node_fits-returns-in-Min t c = grind (arith, expressions)

-- src/fitting.rt:51:1
pub node_fits-returns-in-Max : goal.node_fits-returns-in-Max
node_fits-returns-in-Max t c = grind (arith, expressions)

-- src/fitting.rt:51:1
pub node_fits-returns-then-has_constants : goal.node_fits-returns-then-has_constants
node_fits-returns-then-has_constants t c = grind (arith, expressions)

-- src/fitting.rt:51:1
pub node_fits-returns-else-has_constants : goal.node_fits-returns-else-has_constants
node_fits-returns-else-has_constants t c = grind (arith, expressions)

-- src/fitting.rt:51:1
pub node_fits-returns-in-Truth : goal.node_fits-returns-in-Truth
node_fits-returns-in-Truth t c = grind (arith, expressions)

-- src/fitting.rt:51:1
pub node_fits-returns-in-Ask : goal.node_fits-returns-in-Ask
node_fits-returns-in-Ask t c = grind (arith, expressions)
