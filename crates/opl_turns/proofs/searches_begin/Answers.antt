use Rattle.opl_turns.proofs.Turns.{starts}
use Rattle.opl_turns.proofs.searches_begin.Goals as goal

pub returns : goal.returns
returns c = starts
