use Rattle.std.proofs.Common.{◌≡◌, map, take}
use Rattle.opl_trace.specs.Between.{values_between}
use Rattle.opl_trace.proofs.sets.Sets.new.Given as goal

abbrev pub invariant-loop-lo : goal.invariant-loop-lo
invariant-loop-lo l = l.domains.items ≡ map values_between (take l.lo-index l.ends)
