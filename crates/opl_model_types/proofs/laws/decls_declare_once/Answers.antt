use Rattle.opl_model_types.proofs.DeclsOnce.{decls_declare_once}
use Rattle.opl_model_types.proofs.laws.decls_declare_once.Goals as goal

pub returns : goal.returns
returns c = decls_declare_once
