use Rattle.std.proofs.Common.{◌∙◌, length, ap, subst}
use Rattle.opl_domain.specs.Family.{IsFamily}
use Rattle.opl_solver.specs.Pairs.{Joint}
use Rattle.opl_solver.proofs.pair.PairView.vars.Goals as goal

pub returns-clause-count : goal.returns-clause-count
returns-clause-count c = c.vars.ensures.count ∙ ap (λ (p : Joint). length p.store.top) c.self.view_is

pub returns-clause-sets : goal.returns-clause-sets
returns-clause-sets c = subst (λ (p : Joint). IsFamily p.store.top) c.self.view_is c.vars.ensures.sets
