use Rattle.opl_trace.proofs.Prefixes.{marks_begin}
use Rattle.opl_trace.proofs.laws.marks_are_prefixes.Goals as goal

pub returns : goal.returns
returns c = marks_begin
