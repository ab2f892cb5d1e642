use Rattle.opl_eval.proofs.scope.+entry_of.Given as goal

abbrev pub decreases-entry_of : goal.decreases-entry_of
decreases-entry_of l = goal.size-entry_of l
