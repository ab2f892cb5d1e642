use Rattle.std.proofs.Common.{◌≡◌, drop, map}
use Rattle.opl_eval.specs.declared.arithmetic.Operation.TheVariants.{Times}
use Rattle.opl_eval.specs.Arithmetic.{run, product}
use Rattle.opl_eval.proofs.arithmetic.product.Given as goal

-- what is left gives what all of it gives
abbrev pub invariant-loop-number : goal.invariant-loop-number
invariant-loop-number l = run l.at l.total (map Times (drop l.number-index l.numbers)) ≡ product l.at l.numbers
