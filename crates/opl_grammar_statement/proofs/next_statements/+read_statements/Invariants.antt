use Rattle.opl_grammar_statement.proofs.next_statements.+read_statements.Given as goal

abbrev pub decreases-read_statements : goal.decreases-read_statements
decreases-read_statements l = l.levels
