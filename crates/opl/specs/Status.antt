-- The status with which the program ends.
use Rattle.std.specs.Prelude.{ℕ}
use Rattle.opl_tool.specs.declared.answer.Answer.{Answer}
use Rattle.opl_tool.specs.declared.answer.Answer.TheVariants.{Done, NoSolution, Refused, Spent, ReadFault, WriteFault, OutOfMemory, Rejected}

abbrev pub status_of : Answer → ℕ
status_of Done = 0
status_of NoSolution = 1
status_of Refused = 2
status_of Spent = 3
status_of ReadFault = 4
status_of WriteFault = 5
status_of OutOfMemory = 6
status_of Rejected = 7
