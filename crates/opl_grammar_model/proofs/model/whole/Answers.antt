use Rattle.std.proofs.Common.{arith}
use Rattle.std.proofs.lemmas.Grind.{common_steps}
use Rattle.opl_grammar.specs.Model.{whole_within}
use Rattle.opl_grammar_model.proofs.model.whole.Goals as goal

-- src/model.rt:61:1
pub returns-in_err-tree : goal.returns-in_err-tree
unfolding whole_within
returns-in_err-tree c = grind (arith, common_steps)

-- src/model.rt:61:1
pub returns-in_err-tree-2 : goal.returns-in_err-tree-2
unfolding whole_within
returns-in_err-tree-2 c = grind (arith, common_steps)

-- src/model.rt:61:1
pub returns : goal.returns
unfolding whole_within
returns c = grind (arith, common_steps)
