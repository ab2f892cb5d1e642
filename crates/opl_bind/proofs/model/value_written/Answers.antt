use Rattle.std.proofs.Common.{arith}
use Rattle.std.proofs.lemmas.Grind.{common_steps}
use Rattle.opl_bind.proofs.Answering.{gives_same}
use Rattle.opl_bind.proofs.model.value_written.Goals as goal

pub returns-clause-value : goal.returns-clause-value
returns-clause-value c = gives_same (λ a. a) _ _ c.alone.result (grind (arith, common_steps)) c.alone.ensures.value

pub returns-clause-keyed : goal.returns-clause-keyed
returns-clause-keyed c = c.alone.ensures.keyed
