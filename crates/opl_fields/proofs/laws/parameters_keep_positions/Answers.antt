use Rattle.opl_fields.proofs.Kept.{parameters_keep_positions}
use Rattle.opl_fields.proofs.laws.parameters_keep_positions.Goals as goal

pub returns : goal.returns
returns c = parameters_keep_positions
