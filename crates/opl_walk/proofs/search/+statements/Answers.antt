use Rattle.std.proofs.Common.{arith}
use Rattle.opl_tree.proofs.Marks.{search_block_marks, statement_marks, statements_marks}
use Rattle.opl_walk.proofs.Telling.{lists, telling}
use Rattle.opl_walk.proofs.search.+statements.Goals as goal

pub walk_search_block-returns : goal.walk_search_block-returns
walk_search_block-returns g t c = grind (arith, search_block_marks, telling)

pub walk_statement-loop-alternative-init : goal.walk_statement-loop-alternative-init
walk_statement-loop-alternative-init g t c = grind (arith, statement_marks, telling, lists)

pub walk_statement-loop-alternative-preserved : goal.walk_statement-loop-alternative-preserved
walk_statement-loop-alternative-preserved g t c = grind (arith, statement_marks, telling, lists)

pub walk_statement-returns-in-Block : goal.walk_statement-returns-in-Block
walk_statement-returns-in-Block g t c = grind (arith, statement_marks, telling, lists)

pub walk_statement-returns-in-Once : goal.walk_statement-returns-in-Once
walk_statement-returns-in-Once g t c = grind (arith, statement_marks, telling, lists)

pub walk_statement-returns-in-Precedes : goal.walk_statement-returns-in-Precedes
walk_statement-returns-in-Precedes g t c = grind (arith, statement_marks, telling, lists)

pub walk_statement-returns-in-Constraint : goal.walk_statement-returns-in-Constraint
walk_statement-returns-in-Constraint g t c = grind (arith, statement_marks, telling, lists)

pub walk_statements-loop-statement-init : goal.walk_statements-loop-statement-init
walk_statements-loop-statement-init g t c = grind (arith, statements_marks, telling, lists)

pub walk_statements-loop-statement-preserved : goal.walk_statements-loop-statement-preserved
walk_statements-loop-statement-preserved g t c = grind (arith, statements_marks, telling, lists)

pub walk_statements-returns-in-Empty : goal.walk_statements-returns-in-Empty
walk_statements-returns-in-Empty g t c = grind (arith, statements_marks, telling, lists)

pub walk_statement-returns-after-loop-alternative : goal.walk_statement-returns-after-loop-alternative
walk_statement-returns-after-loop-alternative g t c = grind (arith, statement_marks, telling, lists)

pub walk_statement-returns-in-Branch : goal.walk_statement-returns-in-Branch
walk_statement-returns-in-Branch g t c = grind (arith, statement_marks, telling)

pub walk_statement-returns-in-While : goal.walk_statement-returns-in-While
walk_statement-returns-in-While g t c = grind (arith, statement_marks, telling)

pub walk_statement-returns-after-fails : goal.walk_statement-returns-after-fails
walk_statement-returns-after-fails g t c = grind (arith, statement_marks, telling)

pub walk_statement-returns-in-Label : goal.walk_statement-returns-in-Label
walk_statement-returns-in-Label g t c = grind (arith, statement_marks, telling)

pub walk_statements-returns-then-is_closed : goal.walk_statements-returns-then-is_closed
walk_statements-returns-then-is_closed g t c = grind (arith, statements_marks, telling, lists)

pub walk_statements-returns-else-is_closed : goal.walk_statements-returns-else-is_closed
walk_statements-returns-else-is_closed g t c = grind (arith, statements_marks, telling, lists)
