use Rattle.std.proofs.Common.{arith}
use Rattle.std.proofs.lemmas.Grind.{common_steps}
use Rattle.opl_grammar.specs.Rules.{question}
use Rattle.opl_level.proofs.below.Level.question.Goals as goal

-- src/prim.rt:155:18
pub returns-in_err-op : goal.returns-in_err-op
unfolding question
returns-in_err-op g c = grind (arith, common_steps)

-- src/prim.rt:156:21
pub returns-in_err-inner : goal.returns-in_err-inner
unfolding question
returns-in_err-inner g c = grind (arith, common_steps)

-- src/prim.rt:149:5
pub returns : goal.returns
unfolding question
returns g c = grind (arith, common_steps)
