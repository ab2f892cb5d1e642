use Rattle.std.proofs.Common.{arith}
use Rattle.opl_sound.proofs.NodeForms.{constraints, expressions}
use Rattle.opl_sound.proofs.nodes.+nodes.Goals as goal

-- src/nodes.rt:55:1
pub constraint_nodes-returns-in-Fixed : goal.constraint_nodes-returns-in-Fixed
constraint_nodes-returns-in-Fixed t c = grind (arith, constraints)

-- src/nodes.rt:55:1
pub constraint_nodes-returns-in-Cmp : goal.constraint_nodes-returns-in-Cmp
constraint_nodes-returns-in-Cmp t c = grind (arith, constraints)

-- src/nodes.rt:55:1
pub constraint_nodes-returns-in-And : goal.constraint_nodes-returns-in-And
constraint_nodes-returns-in-And t c = grind (arith, constraints)

-- src/nodes.rt:55:1
pub constraint_nodes-returns-in-Or : goal.constraint_nodes-returns-in-Or
constraint_nodes-returns-in-Or t c = grind (arith, constraints)

-- src/nodes.rt:55:1
pub constraint_nodes-returns-in-Imp : goal.constraint_nodes-returns-in-Imp
constraint_nodes-returns-in-Imp t c = grind (arith, constraints)

-- src/nodes.rt:55:1
pub constraint_nodes-returns-in-Iff : goal.constraint_nodes-returns-in-Iff
constraint_nodes-returns-in-Iff t c = grind (arith, constraints)

-- src/nodes.rt:55:1
pub constraint_nodes-returns-in-Not : goal.constraint_nodes-returns-in-Not
constraint_nodes-returns-in-Not t c = grind (arith, constraints)

-- src/nodes.rt:55:1
pub constraint_nodes-returns-in-AllDifferent : goal.constraint_nodes-returns-in-AllDifferent
constraint_nodes-returns-in-AllDifferent t c = grind (arith, constraints)

-- src/nodes.rt:55:1
pub constraint_nodes-returns-in-Capacity : goal.constraint_nodes-returns-in-Capacity
constraint_nodes-returns-in-Capacity t c = grind (arith, constraints)

-- src/nodes.rt:55:1
pub constraint_nodes-returns-in-Bound : goal.constraint_nodes-returns-in-Bound
constraint_nodes-returns-in-Bound t c = grind (arith, constraints)

-- src/nodes.rt:18:1
pub expression_nodes-returns-in-Const : goal.expression_nodes-returns-in-Const
expression_nodes-returns-in-Const t c = grind (arith, expressions)

-- src/nodes.rt:18:1
pub expression_nodes-returns-in-Var : goal.expression_nodes-returns-in-Var
expression_nodes-returns-in-Var t c = grind (arith, expressions)

-- src/nodes.rt:18:1
pub expression_nodes-returns-in-Sum : goal.expression_nodes-returns-in-Sum
expression_nodes-returns-in-Sum t c = grind (arith, expressions)

-- src/nodes.rt:18:1
pub expression_nodes-returns-in-Neg : goal.expression_nodes-returns-in-Neg
expression_nodes-returns-in-Neg t c = grind (arith, expressions)

-- src/nodes.rt:18:1
pub expression_nodes-returns-in-Mul : goal.expression_nodes-returns-in-Mul
expression_nodes-returns-in-Mul t c = grind (arith, expressions)

-- src/nodes.rt:18:1
pub expression_nodes-returns-in-Div : goal.expression_nodes-returns-in-Div
expression_nodes-returns-in-Div t c = grind (arith, expressions)

-- src/nodes.rt:18:1
pub expression_nodes-returns-in-Rem : goal.expression_nodes-returns-in-Rem
expression_nodes-returns-in-Rem t c = grind (arith, expressions)

-- src/nodes.rt:18:1
pub expression_nodes-returns-in-Abs : goal.expression_nodes-returns-in-Abs
expression_nodes-returns-in-Abs t c = grind (arith, expressions)

-- src/nodes.rt:18:1
pub expression_nodes-returns-in-Min : goal.expression_nodes-returns-in-Min
expression_nodes-returns-in-Min t c = grind (arith, expressions)

-- src/nodes.rt:18:1
pub expression_nodes-returns-in-Max : goal.expression_nodes-returns-in-Max
expression_nodes-returns-in-Max t c = grind (arith, expressions)

-- src/nodes.rt:18:1
pub expression_nodes-returns-in-At : goal.expression_nodes-returns-in-At
expression_nodes-returns-in-At t c = grind (arith, expressions)

-- src/nodes.rt:18:1
pub expression_nodes-returns-in-Truth : goal.expression_nodes-returns-in-Truth
expression_nodes-returns-in-Truth t c = grind (arith, expressions)

-- src/nodes.rt:18:1
pub expression_nodes-returns-in-Ask : goal.expression_nodes-returns-in-Ask
expression_nodes-returns-in-Ask t c = grind (arith, expressions)
