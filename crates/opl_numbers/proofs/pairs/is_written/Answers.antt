use Rattle.std.proofs.Common.{ap, ◌∙◌}
use Rattle.opl_numbers.specs.Numbers.{is_constant}
use Rattle.opl_numbers.proofs.pairs.is_written.Goals as goal

pub returns : goal.returns
returns c k = c.is_constant.ensures k ∙ ap (is_constant k) c.get.ensures
