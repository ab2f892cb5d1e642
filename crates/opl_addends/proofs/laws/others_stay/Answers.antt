use Rattle.opl_addends.proofs.Staying as lemmas
use Rattle.opl_addends.proofs.laws.others_stay.Goals as goal

pub returns : goal.returns
returns c = lemmas.others_stay
