use Rattle.std.proofs.Common.{◌≡◌, take, true, length}
use Rattle.std.specs.List.{list_all}
use Rattle.opl_expr.specs.Sound.{is_there}
use Rattle.opl_sound.proofs.tables.are_there.Given as goal

abbrev pub invariant-loop-cell : goal.invariant-loop-cell
invariant-loop-cell l = list_all (is_there (length l.core.sets)) (take l.cell-index l.cells) ≡ true
