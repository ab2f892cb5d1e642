use Rattle.std.proofs.Common.{◌≡◌, drop}
use Rattle.opl_meaning.specs.VariableReadings.{is_named}
use Rattle.opl_meaning.proofs.visible.is_hidden.Given as goal

abbrev pub invariant-loop-parameter : goal.invariant-loop-parameter
invariant-loop-parameter l = is_named l.parameters l.name ≡ is_named (drop l.parameter-index l.parameters) l.name
