use Rattle.opl_addends.proofs.Staying as lemmas
use Rattle.opl_addends.proofs.laws.sums_split.Goals as goal

pub returns : goal.returns
returns c = lemmas.sums_split
