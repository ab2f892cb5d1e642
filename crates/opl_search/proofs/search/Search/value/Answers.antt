use Rattle.std.proofs.Common.{rules, subst}
use Rattle.std.specs.Prelude.{FitsSigned}
use mir.Syntax.{w64}
use Rattle.std.proofs.lemmas.Int.{to_z-of_z}
use Rattle.opl_domain.specs.Family.{set_of, IsRising, IsLeast}
use Rattle.opl_search.proofs.Start.{value_at}
use Rattle.opl_search.proofs.search.Search.value.Goals as goal

pub returns : goal.returns
returns g c =
    let m = c.args.self.now in
    let sees = g.met.S.Solver.sees m.solver in
    let F = (g.S.Solver.state m.solver).sets in
    let least = subst (λ G. IsLeast (set_of G c.args.x) c.min.result) sees c.min.ensures in
    let rising = subst (λ G. IsRising (set_of G c.args.x)) sees (c.vars-vars.ensures.sets.rising c.args.x) in
    let h : FitsSigned w64 c.min.result = search rules in
    rw (to_z-of_z w64 c.min.result h) (value_at F c.args.x c.min.result c.requires rising least)
