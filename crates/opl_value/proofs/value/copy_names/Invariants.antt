use Rattle.std.proofs.Common.{◌≡◌, ◌++◌, drop}
use Rattle.opl_value.proofs.value.copy_names.Given as goal

abbrev pub invariant-loop-name : goal.invariant-loop-name
invariant-loop-name l = l.names ≡ l.copies ++ drop l.name-index l.names
