use Rattle.opl_fit.proofs.Cells.{cells_stand_by_their_keys}
use Rattle.opl_fit.proofs.laws.cells_stand_by_their_keys.Goals as goal

pub returns : goal.returns
returns c = cells_stand_by_their_keys
