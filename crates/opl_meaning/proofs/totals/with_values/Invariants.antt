use Rattle.std.proofs.Common.{◌≡◌, ◌+◌, drop}
use Rattle.opl_meaning.specs.Variables.{values_of}
use Rattle.opl_meaning.proofs.totals.with_values.Given as goal

abbrev pub invariant-loop-set : goal.invariant-loop-set
invariant-loop-set l = l.before + values_of l.sets ≡ l.values + values_of (drop l.set-index l.sets)
