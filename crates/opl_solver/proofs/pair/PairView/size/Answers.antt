use Rattle.std.proofs.Common.{◌∙◌, ◌<◌, length, ap, sym, subst}
use Rattle.opl_domain.specs.Family.{set_of}
use Rattle.opl_solver.specs.Pairs.{Joint}
use Rattle.opl_solver.proofs.pair.PairView.size.Goals as goal

pub size-requires : goal.size-requires
size-requires c = subst (λ (p : Joint). c.args.x < length p.store.top) (sym c.self.view_is) c.requires

pub returns : goal.returns
returns c = c.size.ensures ∙ ap (λ (p : Joint). length (set_of p.store.top c.args.x)) c.self.view_is
