use Rattle.std.proofs.Common.{take, Ok}
use Rattle.opl_files.specs.Reading.{DataParsed}
use Rattle.opl_files.specs.Stage.{Each}
use Rattle.opl_files.proofs.data_files.data_trees.Given as goal

abbrev pub invariant-loop-x : goal.invariant-loop-x
invariant-loop-x l = Each DataParsed 1 (take l.x l.texts) (Ok l.found)
