use Rattle.std.proofs.Common.{ap, sym, arith, nat_eq, length, ◌≤◌}
use Rattle.opl_domain.proofs.Sets.{set_of-past}
use Rattle.opl_search.proofs.search.is_single.Goals as goal

pub returns-then-x-vars : goal.returns-then-x-vars
returns-then-x-vars g c =
    let F = g.V.View.family c.args.view.now in
    let past : length F ≤ c.args.x = omega (arith, c.vars.ensures.count, c.if-x-vars.true) in
    ap (λ vs. nat_eq (length vs) 1) (sym (set_of-past F c.args.x past))
