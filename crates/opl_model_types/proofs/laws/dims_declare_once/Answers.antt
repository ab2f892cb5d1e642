use Rattle.opl_model_types.proofs.DeclsOnce.{dims_declare_once}
use Rattle.opl_model_types.proofs.laws.dims_declare_once.Goals as goal

pub returns : goal.returns
returns c = dims_declare_once
