use Rattle.opl_addends.proofs.Deciding as lemmas
use Rattle.opl_addends.proofs.laws.addends_decide.Goals as goal

pub returns : goal.returns
returns c = lemmas.addends_decide
