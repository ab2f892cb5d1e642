use Rattle.opl_complete.proofs.Searched.{search_finds_all}
use Rattle.opl_complete.proofs.laws.search_finds_all.Goals as goal

pub returns : goal.returns
returns c = search_finds_all c.core_means.ensures c.values_mean.ensures
