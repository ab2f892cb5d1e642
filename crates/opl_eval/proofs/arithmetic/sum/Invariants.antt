use Rattle.std.proofs.Common.{◌≡◌, drop, map}
use Rattle.opl_eval.specs.declared.arithmetic.Operation.TheVariants.{Plus}
use Rattle.opl_eval.specs.Arithmetic.{run, sum}
use Rattle.opl_eval.proofs.arithmetic.sum.Given as goal

-- what is left gives what all of it gives
abbrev pub invariant-loop-number : goal.invariant-loop-number
invariant-loop-number l = run l.at l.total (map Plus (drop l.number-index l.numbers)) ≡ sum l.at l.numbers
