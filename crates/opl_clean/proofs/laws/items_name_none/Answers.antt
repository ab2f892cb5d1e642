use Rattle.opl_clean.proofs.Items.{items_name_none}
use Rattle.opl_clean.proofs.laws.items_name_none.Goals as goal

pub returns : goal.returns
returns c = items_name_none
