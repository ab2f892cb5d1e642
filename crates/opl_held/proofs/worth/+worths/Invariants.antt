use Rattle.std.proofs.Common.{◌≡◌, ◌+◌, [], drop, map}
use Rattle.opl_eval.specs.Evaluation.{group_meaning}
use Rattle.opl_eval.specs.Weights.{step_weight, total, weight}
use Rattle.opl_groups.specs.Met.{met_under}
use Rattle.opl_groups.specs.Visits.{behind, sees}
use Rattle.opl_held.specs.declared.outcome.Outcome.TheVariants.{Fixed}
use Rattle.opl_held.specs.Gathered.{longer, met, nothing, start}
use Rattle.opl_held.specs.Sourced.{bodies_behind, steps_behind, terms_behind}
use Rattle.opl_held.proofs.worth.+worths.Given as goal

abbrev pub decreases-worth : goal.decreases-worth
decreases-worth l = weight l.term.now + 4

abbrev pub decreases-live_worth : goal.decreases-live_worth
decreases-live_worth l = weight l.term.now + 3

abbrev pub decreases-negative : goal.decreases-negative
decreases-negative l = weight l.inner.now + 10

abbrev pub decreases-call : goal.decreases-call
decreases-call l = weight l.inner.now + 10

abbrev pub decreases-absolute : goal.decreases-absolute
decreases-absolute l = weight l.inner.now + 8

abbrev pub decreases-chain : goal.decreases-chain
decreases-chain l = weight l.first.now + total (map step_weight l.steps.now) + 12

abbrev pub decreases-chain_from : goal.decreases-chain_from
decreases-chain_from l = total (map step_weight l.steps.now) + 11

abbrev pub decreases-steps_taken : goal.decreases-steps_taken
decreases-steps_taken l = total (map step_weight l.steps.now) + 10

abbrev pub decreases-step_taken : goal.decreases-step_taken
decreases-step_taken l = step_weight l.step.now + 9

abbrev pub decreases-signed_step : goal.decreases-signed_step
decreases-signed_step l = weight l.inner.now + 8

abbrev pub decreases-comparison : goal.decreases-comparison
decreases-comparison l = weight l.left.now + weight l.right.now + 12

abbrev pub decreases-compared_to : goal.decreases-compared_to
decreases-compared_to l = weight l.right.now + 10

abbrev pub decreases-implication : goal.decreases-implication
decreases-implication l = weight l.premise.now + weight l.conclusion.now + 8

abbrev pub decreases-implied_by : goal.decreases-implied_by
decreases-implied_by l = weight l.conclusion.now + 6

abbrev pub decreases-negation : goal.decreases-negation
decreases-negation l = weight l.inner.now + 8

abbrev pub decreases-connected : goal.decreases-connected
decreases-connected l = total (map weight l.terms.now) + 8

abbrev pub decreases-truths : goal.decreases-truths
decreases-truths l = total (map weight l.terms.now) + 7

abbrev pub decreases-aggregate : goal.decreases-aggregate
decreases-aggregate l = weight l.body.now + 12

abbrev pub decreases-bodies : goal.decreases-bodies
decreases-bodies l = weight l.body.now + 10

abbrev pub decreases-body_worth : goal.decreases-body_worth
decreases-body_worth l = weight l.body.now + 8

abbrev pub decreases-each : goal.decreases-each
decreases-each l = total (map weight l.terms.now) + 7

abbrev pub decreases-element : goal.decreases-element
decreases-element l = weight l.base.now + total (map weight l.subscripts.now) + 8

-- what is still to come, behind what is made so far, makes the whole
abbrev pub invariant-steps_taken-loop-step : goal.invariant-steps_taken-loop-step
invariant-steps_taken-loop-step l = steps_behind l.site l.scope l.values l.at l.initial.sum l.steps ≡ steps_behind l.site l.scope l.values l.at l.sum (drop l.step-index l.steps)

abbrev pub invariant-truths-loop-term : goal.invariant-truths-loop-term
invariant-truths-loop-term l =
    terms_behind l.site l.scope l.values (met l.connective) (Fixed (start l.connective)) l.terms ≡ terms_behind l.site l.scope l.values (met l.connective) l.so_far (drop l.term-index l.terms)

abbrev pub invariant-each-loop-term : goal.invariant-each-loop-term
invariant-each-loop-term l = terms_behind l.site l.scope l.values longer [] l.terms ≡ terms_behind l.site l.scope l.values longer l.found.items (drop l.term-index l.terms)

abbrev pub invariant-bodies-loop : goal.invariant-bodies-loop
invariant-bodies-loop l =
    bodies_behind l.site l.values l.operation l.at (Fixed (nothing l.operation l.at)) l.body (met_under (map group_meaning l.groups) l.condition (sees l.scope))
    ≡ bodies_behind l.site l.values l.operation l.at l.total l.body (behind l.choices (sees l.scope))
