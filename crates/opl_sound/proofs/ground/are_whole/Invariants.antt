use Rattle.std.proofs.Common.{◌≡◌, take, true}
use Rattle.std.specs.List.{list_all}
use Rattle.opl_sound.specs.Measures.{is_whole}
use Rattle.opl_sound.proofs.ground.are_whole.Given as goal

abbrev pub invariant-loop-table : goal.invariant-loop-table
invariant-loop-table l = list_all (is_whole l.core.sets) (take l.table-index l.tables) ≡ true
