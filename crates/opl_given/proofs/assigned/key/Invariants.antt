use Rattle.std.proofs.Common.{◌≡◌, ◌++◌, map, drop}
use Rattle.opl_value.specs.declared.value.Value.TheVariants.{Int}
use Rattle.opl_given.proofs.assigned.key.Given as goal

abbrev pub invariant-loop-number : goal.invariant-loop-number
invariant-loop-number l = map Int l.index ≡ l.key.items ++ map Int (drop l.number-index l.index)
