use Rattle.opl_typed_model.proofs.Lawful.{instr_complete}
use Rattle.opl_typed_model.proofs.laws.instr_complete.Goals as goal

pub returns : goal.returns
returns c = instr_complete
