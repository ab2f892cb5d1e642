use Rattle.std.proofs.Common.{◌≡◌, take, true}
use Rattle.std.specs.List.{list_all}
use Rattle.opl_trace.specs.GroundCores.{is_constant}
use Rattle.opl_sound.proofs.fitting.are_constant.Given as goal

abbrev pub invariant-loop-cell : goal.invariant-loop-cell
invariant-loop-cell l = list_all is_constant (take l.cell-index l.cells) ≡ true
