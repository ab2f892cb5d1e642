use Rattle.opl_not_data.proofs.Known.{not_data_is_mentioned_there}
use Rattle.opl_not_data.proofs.laws.not_data_is_mentioned_there.Goals as goal

pub returns : goal.returns
returns c = not_data_is_mentioned_there
