use Rattle.opl_complete.proofs.Searched.{search_begins}
use Rattle.opl_complete.proofs.laws.search_begins.Goals as goal

pub returns : goal.returns
returns c = search_begins c.core_means.ensures c.values_mean.ensures
