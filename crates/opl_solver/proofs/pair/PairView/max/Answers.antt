use Rattle.std.proofs.Common.{rules, ◌<◌, length, sym, subst}
use Rattle.std.specs.Prelude.{FitsSigned}
use mir.Syntax.{w64}
use Rattle.std.proofs.lemmas.Int.{to_z-of_z}
use Rattle.opl_domain.specs.Family.{set_of, IsGreatest}
use Rattle.opl_solver.specs.Pairs.{Joint}
use Rattle.opl_solver.proofs.pair.PairView.max.Goals as goal

pub max-requires : goal.max-requires
max-requires c = subst (λ (p : Joint). c.args.x < length p.store.top) (sym c.self.view_is) c.requires

pub returns : goal.returns
returns c =
    let r : FitsSigned w64 c.max.result = search rules in
    rw (to_z-of_z w64 c.max.result r) (subst (λ (p : Joint). IsGreatest (set_of p.store.top c.args.x) c.max.result) c.self.view_is c.max.ensures)
