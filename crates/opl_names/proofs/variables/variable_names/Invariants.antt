use Rattle.std.proofs.Common.{◌≡◌, ◌++◌, drop}
use Rattle.opl_ground.specs.Names.{variable_names}
use Rattle.opl_show.specs.Readings.{names_of}
use Rattle.opl_names.proofs.variables.variable_names.Given as goal

abbrev pub invariant-loop-item : goal.invariant-loop-item
invariant-loop-item l =
    let of = variable_names (names_of l.enumerations) in
    l.names ++ of (drop l.item-index l.items) ≡ of l.items
