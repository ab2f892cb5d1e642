use Rattle.std.proofs.Common.{sym, ◌∙◌}
use Rattle.opl_domain.proofs.Sets.{length-only, only_is_family}
use Rattle.opl_domain.proofs.only.OnlyView.vars.Goals as goal

pub returns-clause-count : goal.returns-clause-count
returns-clause-count g c = c.vars.ensures.count ∙ sym (length-only _ _ _)

pub returns-clause-sets : goal.returns-clause-sets
returns-clause-sets g c = only_is_family _ _ _ c.vars.ensures.sets
