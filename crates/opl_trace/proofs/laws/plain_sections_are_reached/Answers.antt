use Rattle.opl_trace.proofs.Reached.{plain_sections}
use Rattle.opl_trace.proofs.laws.plain_sections_are_reached.Goals as goal

pub returns : goal.returns
returns c = plain_sections
