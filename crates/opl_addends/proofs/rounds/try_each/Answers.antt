use Rattle.opl_expr.specs.Solutions.{declared}
use Rattle.opl_reify.proofs.Looking.{still_below}
use Rattle.opl_addends.specs.Sums.{is_refuted, variables}
use Rattle.opl_addends.proofs.Going.{ended_later, ended_each, variable_there, next_shared, read_length, read_item}
use Rattle.opl_addends.proofs.rounds.try_each.Goals as goal

pub try_variable-requires-clause-declared : goal.try_variable-requires-clause-declared
try_variable-requires-clause-declared g c =
    still_below (is_refuted c.args.core.now c.args.sum.now) (g.N.View.family c.args.n.now) (g.N.View.family c.loop-mention.n) (declared c.args.core.now) c.loop-mention.invariant.0.removals c.requires.declared

pub try_variable-requires-clause-variable : goal.try_variable-requires-clause-variable
try_variable-requires-clause-variable g c =
    let ms = c.args.sum.now.mentions in
    let F = g.N.View.family c.loop-mention.n in
    let m = c.mention-item.result in
    let b = still_below (is_refuted c.args.core.now c.args.sum.now) (g.N.View.family c.args.n.now) F (declared c.args.core.now) c.loop-mention.invariant.0.removals c.requires.declared in
    variable_there ms c.loop-mention.mention-index m F (read_length ms c.as_slice-mention-items.result.now c.loop-mention.mention-index c.as_slice-mention-items.ensures c.loop-mention-test.true)
    (read_item ms c.as_slice-mention-items.result.now c.loop-mention.mention-index m c.as_slice-mention-items.ensures c.mention-item.is) (c.requires.sum.there F b)

pub returns-in_err-removed-clause-tries : goal.returns-in_err-removed-clause-tries
returns-in_err-removed-clause-tries g c =
    let dead = is_refuted c.args.core.now c.args.sum.now in
    let D = g.N.View.family c.args.n.now in
    let F = g.N.View.family c.loop-mention.n in
    let G = g.N.View.family c.try_variable.new.n in
    ended_each dead (variables c.args.sum.now.mentions) D G _ c.from_residual.ensures (ended_later dead D F G c.requires.sum.falls c.loop-mention.invariant.0.removals c.in_err-removed.ensures.tries)

pub loop-mention-preserved : goal.loop-mention-preserved
loop-mention-preserved g c =
    let dead = is_refuted c.args.core.now c.args.sum.now in
    let ms = c.args.sum.now.mentions in
    let D = g.N.View.family c.args.n.now in
    let F = g.N.View.family c.loop-mention.n in
    let G = g.N.View.family c.try_variable.new.n in
    let m = c.mention-item.result in (
      next_shared dead ms D F G c.loop-mention.mention-index m c.loop-mention.removed c.in_ok-removed.field-0
          (read_length ms c.as_slice-mention-items.result.now c.loop-mention.mention-index c.as_slice-mention-items.ensures c.loop-mention-test.true)
          (read_item ms c.as_slice-mention-items.result.now c.loop-mention.mention-index m c.as_slice-mention-items.ensures c.mention-item.is) c.loop-mention.invariant.0 c.in_ok-removed.ensures.tries,
      g.met.N.Narrow.leads_on _ _ _ c.loop-mention.invariant.1 c.try_variable.ensures.leads_to,
      c.in_ok-removed.ensures.kept,
    )
