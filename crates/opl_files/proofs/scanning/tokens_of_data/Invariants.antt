use Rattle.std.proofs.Common.{take, Ok}
use Rattle.opl_files.specs.Reading.{Scanned}
use Rattle.opl_files.specs.Stage.{Each}
use Rattle.opl_files.proofs.scanning.tokens_of_data.Given as goal

abbrev pub invariant-loop-x : goal.invariant-loop-x
invariant-loop-x l = Each Scanned 1 (take l.x l.texts) (Ok l.found)
