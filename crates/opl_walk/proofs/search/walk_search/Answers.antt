use Rattle.std.proofs.Common.{arith}
use Rattle.opl_tree.proofs.Marks.{search_marks}
use Rattle.opl_walk.proofs.Telling.{telling}
use Rattle.opl_walk.proofs.search.walk_search.Goals as goal

pub returns : goal.returns
returns g c = grind (arith, search_marks, telling)
