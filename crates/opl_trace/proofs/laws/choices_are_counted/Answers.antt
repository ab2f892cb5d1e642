use Rattle.opl_trace.proofs.Prefixes.{choices_counted}
use Rattle.opl_trace.proofs.laws.choices_are_counted.Goals as goal

pub returns : goal.returns
returns c = choices_counted
