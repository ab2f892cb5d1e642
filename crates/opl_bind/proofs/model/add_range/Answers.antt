use Rattle.std.proofs.Common.{arith}
use Rattle.std.proofs.lemmas.Grind.{common_steps}
use Rattle.opl_bind.proofs.TakenArrays.{gives_done}
use Rattle.opl_bind.proofs.model.add_range.Goals as goal

pub returns : goal.returns
returns c = gives_done _ _ _ c.add_ends.result (grind (arith, common_steps)) c.add_ends.ensures
