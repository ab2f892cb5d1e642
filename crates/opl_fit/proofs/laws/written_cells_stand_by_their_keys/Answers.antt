use Rattle.opl_fit.proofs.WrittenCells.{written_cells_stand_by_their_keys}
use Rattle.opl_fit.proofs.laws.written_cells_stand_by_their_keys.Goals as goal

pub returns : goal.returns
returns c = written_cells_stand_by_their_keys
