use Rattle.opl_fields.proofs.Positions.{positions_are_right}
use Rattle.opl_fields.proofs.laws.positions_are_right.Goals as goal

pub returns : goal.returns
returns c = positions_are_right
