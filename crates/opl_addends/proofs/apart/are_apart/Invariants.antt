use Rattle.std.proofs.Common.{take}
use Rattle.opl_addends.specs.Addends.{plains}
use Rattle.opl_addends.specs.Apart.{AreOnce}
use Rattle.opl_addends.specs.Sums.{variables}
use Rattle.opl_addends.proofs.apart.are_apart.Given as goal

abbrev pub invariant-loop-mention : goal.invariant-loop-mention
invariant-loop-mention l = AreOnce (plains l.core l.addends) (variables (take l.mention-index l.mentions))
