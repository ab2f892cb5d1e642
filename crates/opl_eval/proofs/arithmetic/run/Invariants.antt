use Rattle.std.proofs.Common.{◌≡◌, drop}
use Rattle.opl_eval.specs.Arithmetic.{run}
use Rattle.opl_eval.proofs.arithmetic.run.Given as goal

-- what is left gives what all of it gives
abbrev pub invariant-loop-operation : goal.invariant-loop-operation
invariant-loop-operation l = run l.at l.number (drop l.operation-index l.operations) ≡ run l.at l.first l.operations
