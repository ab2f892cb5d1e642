use Rattle.std.proofs.Common.{refl}
use Rattle.opl_model_types.proofs.Models.{search-scope}
use Rattle.opl_model_types.proofs.typed.enter_search.Goals as goal

pub returns : goal.returns
returns c = search-scope c.args.names.now _ refl refl refl refl
