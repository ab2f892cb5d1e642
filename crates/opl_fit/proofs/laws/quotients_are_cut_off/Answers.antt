use Rattle.opl_fit.proofs.Quotients.{quotients_are_cut_off}
use Rattle.opl_fit.proofs.laws.quotients_are_cut_off.Goals as goal

pub returns : goal.returns
returns c = quotients_are_cut_off
