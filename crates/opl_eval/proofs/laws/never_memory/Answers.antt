use Rattle.std.proofs.Common.{arith}
use Rattle.opl_eval.proofs.NoMemory.{never_memory, sets_never_memory}
use Rattle.opl_eval.proofs.laws.never_memory.Goals as goal

-- src/laws.rt:16:1
pub returns-clause-expressions : goal.returns-clause-expressions
returns-clause-expressions c = grind (arith, never_memory, sets_never_memory)

-- src/laws.rt:16:1
pub returns-clause-sets : goal.returns-clause-sets
returns-clause-sets c = grind (arith, never_memory, sets_never_memory)
