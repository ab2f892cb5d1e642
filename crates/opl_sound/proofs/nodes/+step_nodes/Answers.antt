use Rattle.std.proofs.Common.{arith}
use Rattle.opl_sound.proofs.StepForms.{counted}
use Rattle.opl_sound.proofs.nodes.+step_nodes.Goals as goal

-- src/nodes.rt:139:1
pub element_nodes-returns : goal.element_nodes-returns
element_nodes-returns t c = grind (arith, counted)

-- src/nodes.rt:101:1
pub statement_nodes-returns-in-Post : goal.statement_nodes-returns-in-Post
statement_nodes-returns-in-Post t c = grind (arith, counted)

-- src/nodes.rt:101:1
pub statement_nodes-returns-in-Block : goal.statement_nodes-returns-in-Block
statement_nodes-returns-in-Block t c = grind (arith, counted)

-- src/nodes.rt:101:1
pub statement_nodes-returns-in-Try : goal.statement_nodes-returns-in-Try
statement_nodes-returns-in-Try t c = grind (arith, counted)

-- src/nodes.rt:101:1
pub statement_nodes-returns-in-TryAll : goal.statement_nodes-returns-in-TryAll
statement_nodes-returns-in-TryAll t c = grind (arith, counted)

-- src/nodes.rt:101:1
pub statement_nodes-returns-in-ForAll : goal.statement_nodes-returns-in-ForAll
statement_nodes-returns-in-ForAll t c = grind (arith, counted)

-- src/nodes.rt:101:1
pub statement_nodes-returns-in-Select : goal.statement_nodes-returns-in-Select
statement_nodes-returns-in-Select t c = grind (arith, counted)

-- src/nodes.rt:101:1
pub statement_nodes-returns-in-Once : goal.statement_nodes-returns-in-Once
statement_nodes-returns-in-Once t c = grind (arith, counted)

-- src/nodes.rt:101:1
pub statement_nodes-returns-in-While : goal.statement_nodes-returns-in-While
statement_nodes-returns-in-While t c = grind (arith, counted)

-- src/nodes.rt:101:1
pub statement_nodes-returns-in-If : goal.statement_nodes-returns-in-If
statement_nodes-returns-in-If t c = grind (arith, counted)

-- src/nodes.rt:101:1
pub statement_nodes-returns-in-Generate : goal.statement_nodes-returns-in-Generate
statement_nodes-returns-in-Generate t c = grind (arith, counted)

-- src/nodes.rt:101:1
pub statement_nodes-returns-in-Rank : goal.statement_nodes-returns-in-Rank
statement_nodes-returns-in-Rank t c = grind (arith, counted)
