use Rattle.opl_fit.proofs.WrittenCells.{written_keys_are_elements}
use Rattle.opl_fit.proofs.laws.written_keys_are_elements.Goals as goal

pub returns : goal.returns
returns c = written_keys_are_elements
