use Rattle.std.proofs.Common.{arith}
use Rattle.std.proofs.lemmas.Grind.{common_steps}
use Rattle.opl_bind.proofs.model.add_decls.Goals as goal

pub loop-t-init : goal.loop-t-init
loop-t-init c = grind (arith, common_steps)

pub loop-t-preserved : goal.loop-t-preserved
loop-t-preserved c = grind (arith, common_steps)

pub returns : goal.returns
returns c = grind (arith, common_steps)

pub returns-in_err-add_decl : goal.returns-in_err-add_decl
returns-in_err-add_decl c = grind (arith, common_steps)
