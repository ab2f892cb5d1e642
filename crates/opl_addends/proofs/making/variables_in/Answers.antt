use Rattle.std.proofs.Common.{◌∙◌}
use Rattle.std.proofs.lemmas.Result.{IfOk-weaker}
use Rattle.opl_addends.proofs.Finding.{named_read}
use Rattle.opl_addends.proofs.making.variables_in.Goals as goal

pub returns : goal.returns
returns c = IfOk-weaker c.variables_of.result _ _ (named_read c.args.core.now c.args.e.now c.get.result.now (c.get.ensures ∙ c.in_ok-comparison.ensures)) c.variables_of.ensures
