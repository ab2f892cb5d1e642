use Rattle.std.proofs.Common.{arith}
use Rattle.opl_value.proofs.SetLaws.{sets_keep_members}
use Rattle.opl_value.proofs.laws.sets_keep_members.Goals as goal

-- src/laws.rt:41:1
pub returns : goal.returns
returns c = grind (arith, sets_keep_members)
