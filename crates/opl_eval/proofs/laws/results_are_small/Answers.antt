use Rattle.std.proofs.Common.{arith}
use Rattle.opl_eval.proofs.NumberLaws.{results_small}
use Rattle.opl_eval.proofs.laws.results_are_small.Goals as goal

-- src/laws.rt:5:1
pub returns : goal.returns
returns c = grind (arith, results_small)
