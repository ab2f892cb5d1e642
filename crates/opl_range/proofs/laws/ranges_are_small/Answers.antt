use Rattle.opl_range.proofs.Weights.{ranges_are_small}
use Rattle.opl_range.proofs.laws.ranges_are_small.Goals as goal

pub returns : goal.returns
returns c = ranges_are_small
