use Rattle.std.proofs.Common.{rules, ◌<◌, length, sym, subst}
use Rattle.std.specs.Prelude.{FitsSigned}
use mir.Syntax.{w64}
use Rattle.std.proofs.lemmas.Int.{to_z-of_z}
use Rattle.opl_domain.specs.Family.{set_of, IsNext}
use Rattle.opl_solver.specs.Pairs.{Joint}
use Rattle.opl_solver.proofs.pair.PairView.next.Goals as goal

pub next-requires : goal.next-requires
next-requires c = subst (λ (p : Joint). c.args.x < length p.store.top) (sym c.self.view_is) c.requires

pub returns : goal.returns
returns c =
    let a : FitsSigned w64 c.args.after = search rules in
    subst (λ (p : Joint). IsNext (set_of p.store.top c.args.x) c.args.after c.next.result) c.self.view_is (rw (to_z-of_z w64 c.args.after a) at c.next.ensures)
