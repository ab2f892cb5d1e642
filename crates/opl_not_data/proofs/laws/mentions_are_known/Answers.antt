use Rattle.opl_not_data.proofs.Known.{mentions_are_known}
use Rattle.opl_not_data.proofs.laws.mentions_are_known.Goals as goal

pub returns : goal.returns
returns c = mentions_are_known
