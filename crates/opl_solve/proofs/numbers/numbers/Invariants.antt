use Rattle.std.proofs.Common.{◌≡◌, take}
use Rattle.opl_solve.proofs.numbers.numbers.Given as goal

abbrev pub invariant-loop-x : goal.invariant-loop-x
invariant-loop-x g l = l.numbers.items ≡ take l.x l.machine.values
