use Rattle.opl_bound_fields.proofs.Told.{positions_suit}
use Rattle.opl_bound_fields.proofs.laws.positions_suit.Goals as goal

pub returns : goal.returns
returns c = positions_suit
