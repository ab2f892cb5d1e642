use Rattle.std.proofs.Common.{map, subst, sym}
use Rattle.std.specs.List.{flat_map}
use Rattle.opl_draft.specs.Instances.{constraint}
use Rattle.opl_eval.specs.Evaluation.{group_meaning}
use Rattle.opl_groups.specs.Met.{met_under}
use Rattle.opl_groups.specs.Visits as visits
use Rattle.opl_groups.specs.Visits.{latest, sees}
use Rattle.opl_nodes.specs.Pieces.{Refuses}
use Rattle.opl_unfolding.specs.Posted.{Posted}
use Rattle.opl_unfolding.specs.Unrolling.{instances_met}
use Rattle.opl_posting.specs.Walks.{behind}
use Rattle.opl_posting.proofs.Behind.{met-next, met-stop}
use Rattle.opl_posting.proofs.constraints.term_constraints.Goals as goal

pub loop-preserved : goal.loop-preserved
loop-preserved c =
    met-next c.args.plan c.args.scope.environment.now
    (behind c.args.plan c.args.scope.environment.now c.args.posted (flat_map (instances_met (constraint c.args.at c.args.term.now)) (met_under (map group_meaning c.args.groups.now) c.args.condition.now (sees c.args.scope))))
    (constraint c.args.at c.args.term.now) (visits.behind c.loop.choices (sees c.args.scope)) c.loop.posted c.loop.invariant c.posted_by_choice.ensures
    (latest c.advance.new.self (sees c.args.scope)) (visits.behind c.advance.new.self (sees c.args.scope)) c.in-Ok.next
    (rw c.if-not-is_met.false at c.in_ok-is_met.ensures) c.in-Ok.ensures

pub returns-in-Err : goal.returns-in-Err
returns-in-Err c =
    subst (λ is. Refuses {A = Posted} (behind c.args.plan c.args.scope.environment.now c.args.posted is) c.in-Err.fault)
    (sym (c.for_all_by_choice.ensures (constraint c.args.at c.args.term.now) (map group_meaning c.args.groups.now) c.args.condition.now (sees c.args.scope)))
    (met-stop c.args.plan c.args.scope.environment.now
    (behind c.args.plan c.args.scope.environment.now c.args.posted (flat_map (instances_met (constraint c.args.at c.args.term.now)) (met_under (map group_meaning c.args.groups.now) c.args.condition.now (sees c.args.scope))))
    (constraint c.args.at c.args.term.now) (visits.behind c.loop.choices (sees c.args.scope)) c.loop.posted c.loop.invariant c.posted_by_choice.ensures
    (latest c.advance.new.self (sees c.args.scope)) (visits.behind c.advance.new.self (sees c.args.scope)) c.in-Err.fault
    (rw c.if-not-is_met.false at c.in_ok-is_met.ensures) c.in-Err.ensures)
