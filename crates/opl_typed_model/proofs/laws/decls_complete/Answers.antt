use Rattle.opl_typed_model.proofs.Lawful.{decls_complete}
use Rattle.opl_typed_model.proofs.laws.decls_complete.Goals as goal

pub returns : goal.returns
returns c = decls_complete
