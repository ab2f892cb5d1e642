use Rattle.std.proofs.Common.{rules, ◌∙◌, ◌<◌, length, ap, sym, subst}
use Rattle.std.specs.Prelude.{FitsSigned}
use mir.Syntax.{w64}
use Rattle.std.proofs.lemmas.Int.{to_z-of_z}
use Rattle.opl_domain.specs.Family.{has}
use Rattle.opl_solver.specs.Pairs.{Joint}
use Rattle.opl_solver.proofs.pair.PairView.has.Goals as goal

pub has-requires : goal.has-requires
has-requires c = subst (λ (p : Joint). c.args.x < length p.store.top) (sym c.self.view_is) c.requires

pub returns : goal.returns
returns c =
    let v : FitsSigned w64 c.args.v = search rules in
    (rw (to_z-of_z w64 c.args.v v) at c.has.ensures) ∙ ap (λ (p : Joint). has p.store.top c.args.x c.args.v) c.self.view_is
