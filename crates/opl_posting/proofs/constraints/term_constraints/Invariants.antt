use Rattle.std.proofs.Common.{◌≡◌, map}
use Rattle.std.specs.List.{flat_map}
use Rattle.opl_draft.specs.Instances.{constraint}
use Rattle.opl_eval.specs.Evaluation.{group_meaning}
use Rattle.opl_groups.specs.Met.{met_under}
use Rattle.opl_groups.specs.Visits as visits
use Rattle.opl_groups.specs.Visits.{sees}
use Rattle.opl_unfolding.specs.Unrolling.{instances_met}
use Rattle.opl_posting.specs.Walks.{behind}
use Rattle.opl_posting.proofs.constraints.term_constraints.Given as goal

-- the same is posted behind what was posted so far
abbrev pub invariant-loop : goal.invariant-loop
invariant-loop l =
    behind l.plan l.scope.environment.now l.initial.posted (flat_map (instances_met (constraint l.at l.term)) (met_under (map group_meaning l.groups) l.condition (sees l.scope)))
    ≡ behind l.plan l.scope.environment.now l.posted (flat_map (instances_met (constraint l.at l.term)) (visits.behind l.choices (sees l.scope)))
