use Rattle.opl_data.proofs.value.+read_value.Given as goal

abbrev pub decreases-read_value : goal.decreases-read_value
decreases-read_value l = l.levels
