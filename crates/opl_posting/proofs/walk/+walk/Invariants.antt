use Rattle.std.proofs.Common.{◌≡◌, drop, map}
use Rattle.std.specs.List.{flat_map}
use Rattle.opl_draft.specs.Instances.{in_turn}
use Rattle.opl_eval.specs.Evaluation.{group_meaning}
use Rattle.opl_groups.specs.Met.{met_under}
use Rattle.opl_groups.specs.Visits as visits
use Rattle.opl_groups.specs.Visits.{sees}
use Rattle.opl_unfolding.specs.Unrolling.{instances_met}
use Rattle.opl_posting.specs.Items.{item_instances}
use Rattle.opl_posting.specs.Walks.{behind}
use Rattle.opl_posting.proofs.walk.+walk.Given as goal

-- the same is posted behind what was posted so far
abbrev pub invariant-each-loop-part : goal.invariant-each-loop-part
invariant-each-loop-part l =
    behind l.plan l.scope.environment.now l.initial.posted (in_turn (map item_instances l.parts) (sees l.scope))
    ≡ behind l.plan l.scope.environment.now l.posted (in_turn (map item_instances (drop l.part-index l.parts)) (sees l.scope))

abbrev pub invariant-under_groups-loop : goal.invariant-under_groups-loop
invariant-under_groups-loop l =
    behind l.plan l.scope.environment.now l.initial.posted (flat_map (instances_met (item_instances l.body)) (met_under (map group_meaning l.groups) l.condition (sees l.scope)))
    ≡ behind l.plan l.scope.environment.now l.posted (flat_map (instances_met (item_instances l.body)) (visits.behind l.choices (sees l.scope)))
