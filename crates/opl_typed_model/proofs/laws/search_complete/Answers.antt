use Rattle.opl_typed_model.proofs.Lawful.{search_complete}
use Rattle.opl_typed_model.proofs.laws.search_complete.Goals as goal

pub returns : goal.returns
returns c = search_complete
