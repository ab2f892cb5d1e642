use Rattle.std.proofs.Common.{◌+◌, ◌-◌, arith}
use Rattle.opl_expr.specs.Solutions.{declared}
use Rattle.opl_trace.proofs.Families.{below_join}
use Rattle.opl_filter.proofs.Removals.{left_below, left_sets}
use Rattle.opl_notes.proofs.Rightness.{knows_on, tells_on}
use Rattle.opl_count.specs.Costs.{prices, is_over}
use Rattle.opl_count.specs.Places.{means_sum}
use Rattle.opl_count.proofs.Known.{knows_read, tells_read}
use Rattle.opl_count.proofs.Prices.{is_less, not_less, prices_fall}
use Rattle.opl_count.proofs.Settling.{cost_read, last_read, forced_first, forced_next, forced_failed, forced_all, over_settles}
use Rattle.opl_count.proofs.forcing.settle.Goals as goal

pub returns-then-total-sum-clause-settles : goal.returns-then-total-sum-clause-settles
returns-then-total-sum-clause-settles g c =
    let s = c.args.sum.now in
    let D = g.N.View.family c.args.n.now in
    let e = cost_read c.args.core.now D s.costs.paid s.costs.literals c.as_slice-literals.result.now c.cost_as_noted-total.result c.as_slice-literals.ensures c.cost_as_noted-total.ensures.cost in
    over_settles c.args.core.now s D (is_less s.costs.room (s.costs.paid + prices c.args.core.now D s.costs.literals) (omega (arith, e, c.if-total-sum.true)))

pub force-requires-clause-declared : goal.force-requires-clause-declared
force-requires-clause-declared g c =
    below_join (g.N.View.family c.loop-at.n) (g.N.View.family c.args.n.now) (declared c.args.core.now)
    (left_below (is_over c.args.core.now c.args.sum.now.costs) (g.N.View.family c.args.n.now) (g.N.View.family c.loop-at.n) c.loop-at.invariant.0.removals) c.requires.declared

pub force-requires-clause-slack : goal.force-requires-clause-slack
force-requires-clause-slack g c =
    let s = c.args.sum.now in
    let D = g.N.View.family c.args.n.now in
    let F = g.N.View.family c.loop-at.n in
    let dead = is_over c.args.core.now s.costs in
    let a = c.loop-at.invariant.0.removals in
    let e = cost_read c.args.core.now D s.costs.paid s.costs.literals c.as_slice-literals.result.now c.cost_as_noted-total.result c.as_slice-literals.ensures c.cost_as_noted-total.ensures.cost in
    let p = prices_fall c.args.core.now F D s.costs.literals (left_sets dead D F c.vars-vars.ensures.sets a).full (left_below dead D F a) in
    omega (arith, e, p, c.if-total-sum.false)

pub returns-then-not-force-clause-settles : goal.returns-then-not-force-clause-settles
returns-then-not-force-clause-settles g c =
    let s = c.args.sum.now in
    forced_failed c.args.core.now s (s.costs.room - c.cost_as_noted-total.result) (g.N.View.family c.args.n.now) (g.N.View.family c.loop-at.n) (g.N.View.family c.force.new.n) c.loop-at.at c.loop-at.invariant.0 c.if-not-force.ensures.forces

pub loop-at-preserved : goal.loop-at-preserved
loop-at-preserved g c =
    let s = c.args.sum.now in
    let D = g.N.View.family c.args.n.now in
    let e = cost_read c.args.core.now D s.costs.paid s.costs.literals c.as_slice-literals.result.now c.cost_as_noted-total.result c.as_slice-literals.ensures c.cost_as_noted-total.ensures.cost in
    let o = not_less s.costs.room (s.costs.paid + prices c.args.core.now D s.costs.literals) (omega (arith, e, c.if-total-sum.false)) in (
      forced_next c.args.core.now s (s.costs.room - c.cost_as_noted-total.result) D (g.N.View.family c.loop-at.n) (g.N.View.family c.force.new.n) c.loop-at.at o c.loop-at.invariant.0 c.if-not-force.ensures.forces,
      g.met.N.Narrow.leads_on _ _ _ c.loop-at.invariant.1 c.force.ensures.leads_to,
      tells_on (means_sum c.args.core.now s) c.args.notes.now D c.loop-at.notes (g.N.View.family c.loop-at.n) c.force.new.notes (g.N.View.family c.force.new.n) c.loop-at.invariant.2 c.force.ensures.tells,
    )

pub returns-clause-settles : goal.returns-clause-settles
returns-clause-settles g c =
    let s = c.args.sum.now in
    let D = g.N.View.family c.args.n.now in
    let e = cost_read c.args.core.now D s.costs.paid s.costs.literals c.as_slice-literals.result.now c.cost_as_noted-total.result c.as_slice-literals.ensures c.cost_as_noted-total.ensures.cost in
    forced_all c.args.core.now s (s.costs.room - c.cost_as_noted-total.result) D (g.N.View.family c.loop-at.n) c.loop-at.at c.requires.made c.vars-vars.ensures.sets.full (omega (arith, e, c.if-total-sum.false)) c.loop-at.invariant.0
    (last_read s.costs.literals c.as_slice-literals.result.now c.loop-at.at c.as_slice-literals.ensures c.loop-at-test.false)

pub cost_as_noted-total-requires-clause-knows : goal.cost_as_noted-total-requires-clause-knows
cost_as_noted-total-requires-clause-knows g c =
    let s = c.args.sum.now in
    knows_read c.args.core.now s.costs.literals c.as_slice-literals.result.now s.first_place c.args.notes.now.top (g.N.View.family c.args.n.now) c.as_slice-literals.ensures c.requires.knows

pub returns-then-total-sum-clause-tells : goal.returns-then-total-sum-clause-tells
returns-then-total-sum-clause-tells g c =
    let s = c.args.sum.now in
    let D = g.N.View.family c.args.n.now in
    tells_read c.args.core.now s.costs.literals c.as_slice-literals.result.now s.first_place c.args.notes.now c.cost_as_noted-total.new.notes D D c.as_slice-literals.ensures c.cost_as_noted-total.ensures.tells

pub loop-at-init : goal.loop-at-init
loop-at-init g c =
    let s = c.args.sum.now in
    let D = g.N.View.family c.args.n.now in (
      forced_first c.args.core.now s (s.costs.room - c.cost_as_noted-total.result) D,
      g.met.N.Narrow.leads_to_itself c.args.n.now,
      tells_read c.args.core.now s.costs.literals c.as_slice-literals.result.now s.first_place c.args.notes.now c.cost_as_noted-total.new.notes D D c.as_slice-literals.ensures c.cost_as_noted-total.ensures.tells,
    )

pub force-requires-clause-knows : goal.force-requires-clause-knows
force-requires-clause-knows g c =
    knows_on (means_sum c.args.core.now c.args.sum.now) c.args.notes.now (g.N.View.family c.args.n.now) c.loop-at.notes (g.N.View.family c.loop-at.n) c.requires.knows c.loop-at.invariant.2

pub returns-then-not-force-clause-tells : goal.returns-then-not-force-clause-tells
returns-then-not-force-clause-tells g c =
    tells_on (means_sum c.args.core.now c.args.sum.now) c.args.notes.now (g.N.View.family c.args.n.now) c.loop-at.notes (g.N.View.family c.loop-at.n) c.force.new.notes (g.N.View.family c.force.new.n) c.loop-at.invariant.2 c.force.ensures.tells
