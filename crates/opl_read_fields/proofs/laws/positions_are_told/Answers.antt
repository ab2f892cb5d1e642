use Rattle.opl_read_fields.proofs.Positions.{positions_are_told}
use Rattle.opl_read_fields.proofs.laws.positions_are_told.Goals as goal

pub returns : goal.returns
returns c = positions_are_told
