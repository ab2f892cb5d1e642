use Rattle.opl_phrase.proofs.next.+read.Given as goal

abbrev pub decreases-read : goal.decreases-read
decreases-read l = l.levels
