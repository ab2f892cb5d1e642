use Rattle.std.proofs.Common.{rules, ◌≤◌, sym, subst, arith, length}
use Rattle.std.specs.Prelude.{FitsSigned, None}
use mir.Syntax.{w64}
use Rattle.std.proofs.lemmas.Int.{to_z-of_z}
use Rattle.opl_domain.specs.Family.{set_of}
use Rattle.opl_domain.proofs.Sets.{set_of-past}
use Rattle.opl_search.specs.Pending.{IsNextValue}
use Rattle.opl_search.proofs.Values.{least_first, next_is, none_left}
use Rattle.opl_search.proofs.search.value_after.Goals as goal

pub returns-then-x-vars : goal.returns-then-x-vars
returns-then-x-vars g c =
    let F = g.V.View.family c.args.view.now in
    let past : length F ≤ c.args.x = omega (arith, c.vars.ensures.count, c.if-x-vars.true) in
    subst (λ vs. IsNextValue vs c.args.last None) (sym (set_of-past F c.args.x past)) (none_left c.args.last)

pub returns-in-None : goal.returns-in-None
returns-in-None g c =
    let vs = set_of (g.V.View.family c.args.view.now) c.args.x in
    let h : FitsSigned w64 c.min.result = search rules in
    rw (to_z-of_z w64 c.min.result h, c.in-None.is) (least_first vs c.min.result (c.vars.ensures.sets.rising c.args.x) c.min.ensures)

pub returns-in-Some : goal.returns-in-Some
returns-in-Some g c =
    let vs = set_of (g.V.View.family c.args.view.now) c.args.x in
    let h : FitsSigned w64 c.in-Some.v = search rules in
    let next = rw (to_z-of_z w64 c.in-Some.v h) at c.next.ensures in
    subst (λ l. IsNextValue vs l c.next.result) (sym c.in-Some.is) (next_is vs c.in-Some.v c.next.result (c.vars.ensures.sets.rising c.args.x) next)
