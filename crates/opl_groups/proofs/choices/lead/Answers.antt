use Rattle.std.proofs.Common.{true, false, ap, sym, ◌∙◌}
use Rattle.opl_groups.specs.Visits.{group_met, over_met, sees_under}
use Rattle.opl_groups.proofs.Leads.{group-Ordered, group-Unordered, leads-same}
use Rattle.opl_groups.proofs.choices.lead.Goals as goal

pub returns-in-Unordered : goal.returns-in-Unordered
returns-in-Unordered c =
    leads-same (λ inner. group_met c.args.group.now (inner c.args.later) (sees_under c.args.scope c.args.turns.now)) _ (sees_under c.args.scope c.args.turns.now) c.lead_over.result
    (λ inner. ap (λ g. group_met g (inner c.args.later) (sees_under c.args.scope c.args.turns.now)) c.in-Unordered.is ∙ group-Unordered c.in-Unordered.patterns c.in-Unordered.over (inner c.args.later) (sees_under c.args.scope c.args.turns.now) ∙ ap (λ ps. over_met false ps c.in-Unordered.over (inner c.args.later) (sees_under c.args.scope c.args.turns.now)) (sym c.as_slice.ensures))
    c.lead_over.ensures

pub returns-in-Ordered : goal.returns-in-Ordered
returns-in-Ordered c =
    leads-same (λ inner. group_met c.args.group.now (inner c.args.later) (sees_under c.args.scope c.args.turns.now)) _ (sees_under c.args.scope c.args.turns.now) c.lead_over-in-Ordered.result
    (λ inner. ap (λ g. group_met g (inner c.args.later) (sees_under c.args.scope c.args.turns.now)) c.in-Ordered.is ∙ group-Ordered c.in-Ordered.patterns c.in-Ordered.over (inner c.args.later) (sees_under c.args.scope c.args.turns.now) ∙ ap (λ ps. over_met true ps c.in-Ordered.over (inner c.args.later) (sees_under c.args.scope c.args.turns.now)) (sym c.as_slice-in-Ordered.ensures))
    c.lead_over-in-Ordered.ensures
