use Rattle.std.proofs.Common.{arith}
use Rattle.opl_bind.proofs.Answering.{does_more}
use Rattle.opl_bind.proofs.Data.{kept}
use Rattle.opl_bind.proofs.model.DataValues.add_names.Goals as goal

pub returns : goal.returns
returns c = does_more _ _ c.enumeration_type.result (λ r p. grind (arith, kept)) c.enumeration_type.ensures
