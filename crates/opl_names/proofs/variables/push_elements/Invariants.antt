use Rattle.std.proofs.Common.{◌≡◌, ◌++◌, length, map}
use Rattle.opl_bind.specs.Keys.{keys, to_come}
use Rattle.opl_ground.specs.Names.{element_name}
use Rattle.opl_show.specs.Readings.{names_of}
use Rattle.opl_value.specs.Places.{lists}
use Rattle.opl_names.proofs.variables.push_elements.Given as goal

abbrev pub decreases-loop-walk : goal.decreases-loop-walk
decreases-loop-walk l = length (to_come l.walk)

abbrev pub invariant-loop-walk : goal.invariant-loop-walk
invariant-loop-walk l =
    let name = element_name (names_of l.enumerations) l.name in
    l.names ++ map name (to_come l.walk) ≡ l.fn.names ++ map name (keys (lists l.space))
