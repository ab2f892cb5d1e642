use Rattle.opl_grammar_item.proofs.next_items.+read_items.Given as goal

abbrev pub decreases-read_items : goal.decreases-read_items
decreases-read_items l = l.levels
