use Rattle.opl_domain.proofs.IntervalLaws.{rem_is_sound}
use Rattle.opl_domain.proofs.laws.remainders_are_sound.Goals as goal

pub returns : goal.returns
returns c = rem_is_sound
