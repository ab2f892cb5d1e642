use Rattle.opl_trace.proofs.Removals.{kept_self, kept_cut, kept_closed, dead_fails, single_fails}
use Rattle.opl_trace.proofs.laws.removals_close.Goals as goal

pub returns : goal.returns
returns c = record { begins = kept_self; goes_on = kept_cut; closes = kept_closed; fails = dead_fails; empties = single_fails }
