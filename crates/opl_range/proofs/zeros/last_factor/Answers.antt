use Rattle.opl_range.proofs.Named.{passed_start, passed_none}
use Rattle.opl_range.proofs.zeros.last_factor.Goals as goal

pub named-init : goal.named-init
named-init c = passed_start _ _

pub returns-in-None : goal.returns-in-None
returns-in-None c = passed_none _ _ _ c.named.invariant (c.in-None.ensures)
