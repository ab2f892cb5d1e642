use Rattle.std.proofs.Common.{◌∷◌, Ok, map, true, false, ap, refl, subst, sym, ◌∙◌}
use Rattle.std.specs.List.{flat_map}
use Rattle.std.specs.Option.{option_map}
use Rattle.opl_eval.specs.Evaluation.{group_meaning}
use Rattle.opl_draft.specs.Instances.{block_instances, constraint, for_all, for_all_params, in_turn, or_nothing}
use Rattle.opl_meaning.specs.Uses.{place_of}
use Rattle.opl_term.specs.Terms.{expr_term, params_term}
use Rattle.opl_groups.specs.Met.{met_under}
use Rattle.opl_groups.specs.Visits as visits
use Rattle.opl_groups.specs.Visits.{latest, sees}
use Rattle.opl_nodes.specs.Pieces.{Refuses, told}
use Rattle.opl_making.proofs.Next.{refuses-same}
use Rattle.opl_unfolding.specs.Posted.{Posted}
use Rattle.opl_unfolding.specs.Unrolling.{instances_met}
use Rattle.opl_posting.specs.Items.{item_instances, items_instances}
use Rattle.opl_posting.specs.Walks.{behind}
use Rattle.opl_posting.proofs.Behind.{decided-failed, decided-held, each-next, each-stop, instances-same, met-next, met-stop, posts-same, turn-next, turn-stop}
use Rattle.opl_posting.proofs.ItemForms.{at-Block, at-Constraint, at-Empty, at-ForAll, at-If, at-Precedes, at-Requires, at-Several, at-block, instances-Constraint}
use Rattle.opl_posting.proofs.walk.+walk.Goals as goal

-- ---- forms of items

pub item-returns-in-Block : goal.item-returns-in-Block
item-returns-in-Block t c =
    instances-same c.args.plan c.args.scope.environment.now c.args.posted (item_instances c.args.t.now (sees c.args.scope)) (block_instances c.in-Block.inner (sees c.args.scope)) c.block.result
    (at-Block c.args.t.now (sees c.args.scope) c.in-Block.inner c.in-Block.is) c.block.ensures

pub item-returns-in-ForAll : goal.item-returns-in-ForAll
item-returns-in-ForAll t c =
    instances-same c.args.plan c.args.scope.environment.now c.args.posted (item_instances c.args.t.now (sees c.args.scope))
    (for_all_params (params_term c.in-ForAll.params) (item_instances c.get.result.now) (sees c.args.scope)) c.for_all.result
    (at-ForAll c.args.t.now (sees c.args.scope) c.in-ForAll.field-0 c.in-ForAll.params c.in-ForAll.body c.get.result.now c.in-ForAll.is c.get.ensures) c.for_all.ensures

pub item-returns-in-Ok-true : goal.item-returns-in-Ok-true
item-returns-in-Ok-true t c =
    instances-same c.args.plan c.args.scope.environment.now c.args.posted (item_instances c.args.t.now (sees c.args.scope)) (items_instances c.in-If.positive (sees c.args.scope)) c.items.result
    (at-If c.args.t.now (sees c.args.scope) c.in-If.field-0 c.in-If.condition c.in-If.positive c.in-If.negative c.in-If.is
    ∙ decided-held (expr_term c.in-If.condition) (items_instances c.in-If.positive) (or_nothing (option_map items_instances c.in-If.negative)) (sees c.args.scope) true (c.in-Ok-true.ensures ∙ ap (λ b. Ok b) c.in-Ok-true.field-0-test))
    c.items.ensures

pub item-returns-in-Ok-false : goal.item-returns-in-Ok-false
item-returns-in-Ok-false t c =
    instances-same c.args.plan c.args.scope.environment.now c.args.posted (item_instances c.args.t.now (sees c.args.scope)) (or_nothing (option_map items_instances c.in-If.negative) (sees c.args.scope)) c.written.result
    (at-If c.args.t.now (sees c.args.scope) c.in-If.field-0 c.in-If.condition c.in-If.positive c.in-If.negative c.in-If.is
    ∙ decided-held (expr_term c.in-If.condition) (items_instances c.in-If.positive) (or_nothing (option_map items_instances c.in-If.negative)) (sees c.args.scope) false (c.in-Ok-false.ensures ∙ ap (λ b. Ok b) c.in-Ok-false.field-0-test))
    c.written.ensures

pub item-returns-in-Err : goal.item-returns-in-Err
item-returns-in-Err t c =
    subst (λ e. Refuses {A = Posted} (behind c.args.plan c.args.scope.environment.now c.args.posted (item_instances c.args.t.now (sees c.args.scope))) e) (sym c.from.ensures)
    (subst (λ is. Refuses {A = Posted} (behind c.args.plan c.args.scope.environment.now c.args.posted is) (told c.in-Err.fault))
    (sym (at-If c.args.t.now (sees c.args.scope) c.in-If.field-0 c.in-If.condition c.in-If.positive c.in-If.negative c.in-If.is))
    (decided-failed (expr_term c.in-If.condition) (items_instances c.in-If.positive) (or_nothing (option_map items_instances c.in-If.negative)) (sees c.args.scope) c.args.plan c.args.scope.environment.now c.args.posted c.in-Err.fault c.in-Err.ensures))

pub item-returns-in-Precedes : goal.item-returns-in-Precedes
item-returns-in-Precedes t c =
    ap (behind c.args.plan c.args.scope.environment.now c.args.posted) (at-Precedes c.args.t.now (sees c.args.scope) c.in-Precedes.field-0 c.in-Precedes.field-1 c.in-Precedes.field-2 c.in-Precedes.is)

pub item-returns-in-Requires : goal.item-returns-in-Requires
item-returns-in-Requires t c = ap (behind c.args.plan c.args.scope.environment.now c.args.posted) (at-Requires c.args.t.now (sees c.args.scope) c.in-Requires.field-0 c.in-Requires.is)

pub item-returns-in-Constraint : goal.item-returns-in-Constraint
item-returns-in-Constraint t c =
    instances-same c.args.plan c.args.scope.environment.now c.args.posted (item_instances c.args.t.now (sees c.args.scope))
    (constraint (place_of (expr_term c.in-Constraint.t)) (expr_term c.in-Constraint.t) (sees c.args.scope)) c.constraint.result
    (at-Constraint c.args.t.now (sees c.args.scope) c.in-Constraint.t c.in-Constraint.is) c.constraint.ensures

pub block-returns : goal.block-returns
block-returns t c =
    instances-same c.args.plan c.args.scope.environment.now c.args.posted (block_instances c.args.t.now (sees c.args.scope)) _ c.items.result (at-block c.args.t.now (sees c.args.scope)) c.items.ensures

-- ---- one after another

pub items-returns-in-Empty : goal.items-returns-in-Empty
items-returns-in-Empty t c = ap (behind c.args.plan c.args.scope.environment.now c.args.posted) (at-Empty c.args.t.now (sees c.args.scope) c.in-Empty.field-0 c.in-Empty.is)

pub items-returns-in-Ok : goal.items-returns-in-Ok
items-returns-in-Ok t c =
    instances-same c.args.plan c.args.scope.environment.now c.args.posted (items_instances c.args.t.now (sees c.args.scope))
    (in_turn (item_instances c.get.result.now ∷ map item_instances c.as_slice.result.now) (sees c.args.scope)) c.each.result
    (at-Several c.args.t.now (sees c.args.scope) c.in-Several.field-0 c.in-Several.first c.get.result.now c.in-Several.rest c.as_slice.result.now c.in-Several.field-3 c.in-Several.is c.get.ensures c.as_slice.ensures)
    (posts-same (behind c.args.plan c.args.scope.environment.now c.args.posted (in_turn (item_instances c.get.result.now ∷ map item_instances c.as_slice.result.now) (sees c.args.scope))) _ c.each.result
    (turn-next c.args.plan c.args.scope.environment.now c.posted_in_turn.ensures c.args.posted c.in-Ok.posted (item_instances c.get.result.now) (map item_instances c.as_slice.result.now) (sees c.args.scope) c.in-Ok.ensures)
    c.each.ensures)

pub items-returns-in-Err : goal.items-returns-in-Err
items-returns-in-Err t c =
    refuses-same Posted (behind c.args.plan c.args.scope.environment.now c.args.posted (in_turn (item_instances c.get.result.now ∷ map item_instances c.in-Several.rest) (sees c.args.scope)))
    (behind c.args.plan c.args.scope.environment.now c.args.posted (items_instances c.args.t.now (sees c.args.scope))) c.in-Err.fault
    (ap (behind c.args.plan c.args.scope.environment.now c.args.posted)
    (sym (at-Several c.args.t.now (sees c.args.scope) c.in-Several.field-0 c.in-Several.first c.get.result.now c.in-Several.rest c.in-Several.rest c.in-Several.field-3 c.in-Several.is c.get.ensures refl)))
    (turn-stop c.args.plan c.args.scope.environment.now c.posted_in_turn.ensures c.args.posted (item_instances c.get.result.now) (map item_instances c.in-Several.rest) (sees c.args.scope) c.in-Err.fault c.in-Err.ensures)

pub each-loop-part-preserved : goal.each-loop-part-preserved
each-loop-part-preserved t c =
    each-next c.args.plan c.args.scope.environment.now c.posted_in_turn.ensures (behind c.args.plan c.args.scope.environment.now c.args.posted (in_turn (map item_instances c.args.parts.now) (sees c.args.scope)))
    c.args.parts.now c.loop-part.part-index c.loop-part.posted (sees c.args.scope) c.loop-part.invariant c.part-item.result c.in-Ok.next c.loop-part-test.true c.part-item.is c.in-Ok.ensures

pub each-returns-in-Err : goal.each-returns-in-Err
each-returns-in-Err t c =
    each-stop c.args.plan c.args.scope.environment.now c.posted_in_turn.ensures (behind c.args.plan c.args.scope.environment.now c.args.posted (in_turn (map item_instances c.args.parts.now) (sees c.args.scope)))
    c.args.parts.now c.loop-part.part-index c.loop-part.posted (sees c.args.scope) c.loop-part.invariant c.part-item.result c.in-Err.fault c.loop-part-test.true c.part-item.is c.in-Err.ensures

-- ---- choices

pub under_groups-loop-preserved : goal.under_groups-loop-preserved
under_groups-loop-preserved t c =
    met-next c.args.plan c.args.scope.environment.now
    (behind c.args.plan c.args.scope.environment.now c.args.posted (flat_map (instances_met (item_instances c.args.body.now)) (met_under (map group_meaning c.args.groups.now) c.args.condition.now (sees c.args.scope))))
    (item_instances c.args.body.now) (visits.behind c.loop.choices (sees c.args.scope)) c.loop.posted c.loop.invariant c.posted_by_choice.ensures
    (latest c.advance.new.self (sees c.args.scope)) (visits.behind c.advance.new.self (sees c.args.scope)) c.in-Ok.next
    (rw c.if-not-is_met.false at c.in_ok-is_met.ensures) c.in-Ok.ensures

pub under_groups-returns-in-Err : goal.under_groups-returns-in-Err
under_groups-returns-in-Err t c =
    subst (λ is. Refuses {A = Posted} (behind c.args.plan c.args.scope.environment.now c.args.posted is) c.in-Err.fault)
    (sym (c.for_all_by_choice.ensures (item_instances c.args.body.now) (map group_meaning c.args.groups.now) c.args.condition.now (sees c.args.scope)))
    (met-stop c.args.plan c.args.scope.environment.now
    (behind c.args.plan c.args.scope.environment.now c.args.posted (flat_map (instances_met (item_instances c.args.body.now)) (met_under (map group_meaning c.args.groups.now) c.args.condition.now (sees c.args.scope))))
    (item_instances c.args.body.now) (visits.behind c.loop.choices (sees c.args.scope)) c.loop.posted c.loop.invariant c.posted_by_choice.ensures
    (latest c.advance.new.self (sees c.args.scope)) (visits.behind c.advance.new.self (sees c.args.scope)) c.in-Err.fault
    (rw c.if-not-is_met.false at c.in_ok-is_met.ensures) c.in-Err.ensures)

-- ---- a condition under choices

pub for_all-returns-in-Constraint : goal.for_all-returns-in-Constraint
for_all-returns-in-Constraint t c =
    instances-same c.args.plan c.args.scope.environment.now c.args.posted (for_all_params (params_term c.args.params.now) (item_instances c.args.body.now) (sees c.args.scope))
    (for_all (map group_meaning c.as_slice-groups.result.now) c.in_ok-params.params.condition (constraint (place_of (expr_term c.in-Constraint.t)) (expr_term c.in-Constraint.t)) (sees c.args.scope)) c.constraints.result
    (ap (λ f. for_all_params (params_term c.args.params.now) f (sees c.args.scope)) (ap item_instances c.in-Constraint.is ∙ instances-Constraint c.in-Constraint.t)
    ∙ ap (λ ps. for_all_params ps (constraint (place_of (expr_term c.in-Constraint.t)) (expr_term c.in-Constraint.t)) (sees c.args.scope)) (sym c.in_ok-params.ensures)
    ∙ ap (λ gs. for_all (map group_meaning gs) c.in_ok-params.params.condition (constraint (place_of (expr_term c.in-Constraint.t)) (expr_term c.in-Constraint.t)) (sees c.args.scope)) (sym c.as_slice-groups.ensures))
    c.constraints.ensures
