use Rattle.std.proofs.Common.{arith}
use Rattle.opl_range.proofs.Ends.{truths_apart, same_truth_is}
use Rattle.opl_range.proofs.rows.agree.Goals as goal

pub verdict-requires : goal.verdict-requires
verdict-requires c = grind (arith, truths_apart)

pub returns : goal.returns
returns c = grind (arith, same_truth_is)
