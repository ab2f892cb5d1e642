use Rattle.std.proofs.Common.{arith}
use Rattle.std.proofs.lemmas.Grind.{common_steps}
use Rattle.opl_bind.specs.Bind.{bound}
use Rattle.opl_bind.specs.Readings.{data_of}
use Rattle.opl_bind.proofs.Answering.{gives_same}
use Rattle.opl_bind.proofs.model.bind.Goals as goal

pub returns : goal.returns
unfolding bound
returns c = gives_same data_of _ _ c.with_decls.result (grind (arith, common_steps)) c.with_decls.ensures
