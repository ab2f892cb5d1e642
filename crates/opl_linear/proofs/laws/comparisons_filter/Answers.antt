use Rattle.opl_linear.proofs.Carrying as laws
use Rattle.opl_linear.proofs.laws.comparisons_filter.Goals as goal

pub returns : goal.returns
returns c = laws.comparisons_filter
