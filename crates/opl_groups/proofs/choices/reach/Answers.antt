use Rattle.std.proofs.Common.{◌+◌, ap, rules, ◌∙◌}
use Rattle.opl_groups.specs.Visits.{group_met, met_at, sees_under}
use Rattle.opl_groups.proofs.Leads.{leads-fault, visits-more}
use Rattle.opl_groups.proofs.choices.reach.Goals as goal

pub returns-in_err-next : goal.returns-in_err-next
returns-in_err-next c =
    let h = leads-fault c.args.visit c.args.place c.index-visit-place.result _ (sees_under c.args.scope c.args.turns.now) c.in_err-next.field-0.0
    (visits-more c.args.visit c.args.place c.index-visit-place.result (sees_under c.args.scope c.args.turns.now) c.if-place-visit.false c.index-visit-place.is)
    c.index-visit-place.is c.in_err-next.ensures in
    search rules

pub returns : goal.returns
returns c =
    visits-more c.args.visit c.args.place c.index-visit-place.result (sees_under c.args.scope c.args.turns.now) c.if-place-visit.false c.index-visit-place.is
    ∙ ap (λ g. group_met g (met_at c.args.visit (c.args.place + 1)) (sees_under c.args.scope c.args.turns.now)) c.index-visit-place.is
    ∙ c.in_ok-next.ensures (met_at c.args.visit)
