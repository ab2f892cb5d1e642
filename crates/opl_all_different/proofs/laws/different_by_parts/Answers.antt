use Rattle.opl_all_different.proofs.Differing.{different_by_parts}
use Rattle.opl_all_different.proofs.laws.different_by_parts.Goals as goal

pub returns : goal.returns
returns c = different_by_parts
