use Rattle.std.proofs.Common.{◌∙◌, Some, ap, sym}
use Rattle.opl_expr.specs.Solutions.{declared}
use Rattle.opl_filter.proofs.Removals.{left_self}
use Rattle.opl_reify.proofs.Looking.{still_below}
use Rattle.opl_addends.specs.Addends.{plains}
use Rattle.opl_addends.specs.Sums.{is_refuted}
use Rattle.opl_addends.proofs.Going.{mention_can_add, mention_total, missing_refuted, asked_fits, is_less, less_is, can_ask, dead_ended, stuck_ended, ended_variable, left_tried, others_kept, whole_kept}
use Rattle.opl_addends.proofs.rounds.try_variable.Goals as goal

pub total_at-requires-clause-sound : goal.total_at-requires-clause-sound
total_at-requires-clause-sound g c = mention_can_add c.args.core.now c.args.sum.now c.args.mention.now c.as_slice-places.result.now c.as_slice-places.ensures c.requires.mention c.requires.sum.can_add

pub returns-in_err-own-clause-tries : goal.returns-in_err-own-clause-tries
returns-in_err-own-clause-tries g c =
    let core = c.args.core.now in
    let s = c.args.sum.now in
    let m = c.args.mention.now in
    let D = g.N.View.family c.args.n.now in
    ended_variable (is_refuted core s) D D m.variable _ c.from_residual.ensures
    (dead_ended (is_refuted core s) D D c.requires.sum.falls (left_self (is_refuted core s) D)
    (missing_refuted core s D m.variable (c.in_err-own.ensures ∙ mention_total core s m D c.as_slice-places.result.now c.as_slice-places.ensures c.requires.mention)))

pub less-others-requires : goal.less-others-requires
less-others-requires g c =
    let core = c.args.core.now in
    let s = c.args.sum.now in
    let m = c.args.mention.now in
    let D = g.N.View.family c.args.n.now in
    is_less core D m.variable (plains core s.addends) c.args.kept.now c.in_ok-own.own c.vars-vars.ensures.sets.full c.requires.declared c.requires.sum.can_add c.requires.kept
    (c.in_ok-own.ensures ∙ mention_total core s m D c.as_slice-places.result.now c.as_slice-places.ensures c.requires.mention)

pub try_values-requires-clause-tests : goal.try_values-requires-clause-tests
try_values-requires-clause-tests g c =
    let core = c.args.core.now in
    let s = c.args.sum.now in
    let m = c.args.mention.now in
    let D = g.N.View.family c.args.n.now in
    can_ask core s m c.less-others.result D c.vars-vars.ensures.sets.full c.requires.declared c.requires.sum c.requires.mention
    (less_is D m.variable (plains core s.addends) c.args.kept.now c.in_ok-own.own c.less-others.result c.less-others.ensures c.requires.kept
    (c.in_ok-own.ensures ∙ mention_total core s m D c.as_slice-places.result.now c.as_slice-places.ensures c.requires.mention))

pub returns-in_err-try_values-clause-tries : goal.returns-in_err-try_values-clause-tries
returns-in_err-try_values-clause-tries g c =
    let dead = is_refuted c.args.core.now c.args.sum.now in
    let D = g.N.View.family c.args.n.now in
    let F = g.N.View.family c.try_values.new.n in
    ended_variable dead D F c.args.mention.now.variable _ c.from_residual-in_err-try_values.ensures (stuck_ended dead D F c.args.mention.now.variable c.requires.sum.falls c.in_err-try_values.ensures.tries)

pub total_at-requires-2-clause-sound : goal.total_at-requires-2-clause-sound
total_at-requires-2-clause-sound g c = mention_can_add c.args.core.now c.args.sum.now c.args.mention.now c.as_slice-places.result.now c.as_slice-places.ensures c.requires.mention c.requires.sum.can_add

pub total_at-requires-2-clause-within : goal.total_at-requires-2-clause-within
total_at-requires-2-clause-within g c =
    let dead = is_refuted c.args.core.now c.args.sum.now in
    let D = g.N.View.family c.args.n.now in
    let F = g.N.View.family c.try_values.new.n in
    still_below dead D F (declared c.args.core.now) (left_tried dead D F c.args.mention.now.variable c.in_ok-try_values.field-0 c.in_ok-try_values.ensures.tries) c.requires.declared

pub returns-in_err-own-2-clause-tries : goal.returns-in_err-own-2-clause-tries
returns-in_err-own-2-clause-tries g c =
    let core = c.args.core.now in
    let s = c.args.sum.now in
    let m = c.args.mention.now in
    let dead = is_refuted core s in
    let D = g.N.View.family c.args.n.now in
    let F = g.N.View.family c.try_values.new.n in
    ended_variable dead D F m.variable _ c.from_residual-in_err-own-2.ensures
    (dead_ended dead D F c.requires.sum.falls (left_tried dead D F m.variable c.in_ok-try_values.field-0 c.in_ok-try_values.ensures.tries)
    (missing_refuted core s F m.variable (c.in_err-own-2.ensures ∙ mention_total core s m F c.as_slice-places.result.now c.as_slice-places.ensures c.requires.mention)))

pub add-requires : goal.add-requires
add-requires g c =
    let core = c.args.core.now in
    let s = c.args.sum.now in
    let m = c.args.mention.now in
    let ss = plains core s.addends in
    let dead = is_refuted core s in
    let D = g.N.View.family c.args.n.now in
    let F = g.N.View.family c.try_values.new.n in
    asked_fits core F m.variable ss c.less-others.result c.in_ok-own-2.own
    (still_below dead D F (declared core) (left_tried dead D F m.variable c.in_ok-try_values.field-0 c.in_ok-try_values.ensures.tries) c.requires.declared)
    c.requires.sum.can_add
    (others_kept dead D F m.variable c.in_ok-try_values.field-0 ss c.less-others.result c.vars-vars.ensures.sets c.in_ok-try_values.ensures.others c.in_ok-try_values.ensures.tries
    (less_is D m.variable ss c.args.kept.now c.in_ok-own.own c.less-others.result c.less-others.ensures c.requires.kept
    (c.in_ok-own.ensures ∙ mention_total core s m D c.as_slice-places.result.now c.as_slice-places.ensures c.requires.mention)))
    (c.in_ok-own-2.ensures ∙ mention_total core s m F c.as_slice-places.result.now c.as_slice-places.ensures c.requires.mention)

pub returns-clause-kept : goal.returns-clause-kept
returns-clause-kept g c =
    let core = c.args.core.now in
    let s = c.args.sum.now in
    let m = c.args.mention.now in
    let ss = plains core s.addends in
    let dead = is_refuted core s in
    let D = g.N.View.family c.args.n.now in
    let F = g.N.View.family c.try_values.new.n in
    whole_kept F m.variable ss c.less-others.result c.in_ok-own-2.own
    (others_kept dead D F m.variable c.in_ok-try_values.field-0 ss c.less-others.result c.vars-vars.ensures.sets c.in_ok-try_values.ensures.others c.in_ok-try_values.ensures.tries
    (less_is D m.variable ss c.args.kept.now c.in_ok-own.own c.less-others.result c.less-others.ensures c.requires.kept
    (c.in_ok-own.ensures ∙ mention_total core s m D c.as_slice-places.result.now c.as_slice-places.ensures c.requires.mention)))
    (c.in_ok-own-2.ensures ∙ mention_total core s m F c.as_slice-places.result.now c.as_slice-places.ensures c.requires.mention)
    ∙ ap Some (sym c.add.ensures)
