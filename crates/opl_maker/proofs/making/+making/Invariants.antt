use Rattle.std.proofs.Common.{◌≡◌, ◌+◌, [], ◌∷◌, drop, map}
use Rattle.opl_eval.specs.Evaluation.{group_meaning}
use Rattle.opl_eval.specs.Weights.{step_weight, total, weight}
use Rattle.opl_form.specs.Nodes as nodes
use Rattle.opl_groups.specs.Met.{met_under}
use Rattle.opl_groups.specs.Visits.{behind, sees}
use Rattle.opl_nodes.specs.Pieces.{AreParts, IsPart, form, forms}
use Rattle.opl_unfolding.specs.Onto.{onto}
use Rattle.opl_unfolding.specs.Unrolling.{body_met}
use Rattle.opl_making.specs.Sites.{AreSome, SoFar, StepsSoFar, drafts, items, maker, names, operand_maker, same_maker, step_drafts, steps_maker}
use Rattle.opl_maker.proofs.making.+making.Given as goal

abbrev pub decreases-make : goal.decreases-make
decreases-make l = weight l.term.now + 4

abbrev pub decreases-live_part : goal.decreases-live_part
decreases-live_part l = weight l.term.now + 3

abbrev pub decreases-operand_part : goal.decreases-operand_part
decreases-operand_part l = weight l.term.now + 5

abbrev pub decreases-negative_part : goal.decreases-negative_part
decreases-negative_part l = weight l.inner.now + 10

abbrev pub decreases-call : goal.decreases-call
decreases-call l = weight l.inner.now + 10

abbrev pub decreases-absolute_part : goal.decreases-absolute_part
decreases-absolute_part l = weight l.inner.now + 8

abbrev pub decreases-chain_part : goal.decreases-chain_part
decreases-chain_part l = weight l.first.now + total (map step_weight l.steps.now) + 12

abbrev pub decreases-first_part : goal.decreases-first_part
decreases-first_part l = weight l.term.now + 6

abbrev pub decreases-chain_from : goal.decreases-chain_from
decreases-chain_from l = total (map step_weight l.steps.now) + 11

abbrev pub decreases-steps_taken : goal.decreases-steps_taken
decreases-steps_taken l = total (map step_weight l.steps.now) + 10

abbrev pub decreases-step_taken : goal.decreases-step_taken
decreases-step_taken l = step_weight l.step.now + 9

abbrev pub decreases-signed_step : goal.decreases-signed_step
decreases-signed_step l = weight l.inner.now + 8

abbrev pub decreases-comparison : goal.decreases-comparison
decreases-comparison l = weight l.left.now + weight l.right.now + 12

abbrev pub decreases-compared_to : goal.decreases-compared_to
decreases-compared_to l = weight l.right.now + 10

abbrev pub decreases-make_truth : goal.decreases-make_truth
decreases-make_truth l = weight l.term.now + 5

abbrev pub decreases-equivalence : goal.decreases-equivalence
decreases-equivalence l = total (map weight l.terms.now) + 9

abbrev pub decreases-same_from : goal.decreases-same_from
decreases-same_from l = weight l.first.now + total (map weight l.others.now) + 8

abbrev pub decreases-same_as_all : goal.decreases-same_as_all
decreases-same_as_all l = total (map weight l.terms.now) + 7

abbrev pub decreases-same_as : goal.decreases-same_as
decreases-same_as l = weight l.term.now + 6

abbrev pub decreases-implication : goal.decreases-implication
decreases-implication l = weight l.premise.now + weight l.conclusion.now + 8

abbrev pub decreases-implied_by : goal.decreases-implied_by
decreases-implied_by l = weight l.conclusion.now + 6

abbrev pub decreases-negation : goal.decreases-negation
decreases-negation l = weight l.inner.now + 8

abbrev pub decreases-disjunction : goal.decreases-disjunction
decreases-disjunction l = total (map weight l.terms.now) + 8

abbrev pub decreases-conjunction : goal.decreases-conjunction
decreases-conjunction l = total (map weight l.terms.now) + 8

abbrev pub decreases-parts_of : goal.decreases-parts_of
decreases-parts_of l = total (map weight l.terms.now) + 7

abbrev pub decreases-with_part : goal.decreases-with_part
decreases-with_part l = weight l.term.now + 6

abbrev pub decreases-with_operand : goal.decreases-with_operand
decreases-with_operand l = weight l.term.now + 6

abbrev pub decreases-aggregate : goal.decreases-aggregate
decreases-aggregate l = weight l.body.now + 12

abbrev pub decreases-bodies : goal.decreases-bodies
decreases-bodies l = weight l.body.now + 10

abbrev pub decreases-with_body : goal.decreases-with_body
decreases-with_body l = weight l.body.now + 8

abbrev pub decreases-element : goal.decreases-element
decreases-element l = weight l.base.now + total (map weight l.subscripts.now) + 8

abbrev pub invariant-steps_taken-loop-step : goal.invariant-steps_taken-loop-step
invariant-steps_taken-loop-step l = record {
  kept : AreParts l.site.context.now l.parts;
  some : AreSome l.parts;
  so : (sum : nodes.Parts) → forms l.initial.parts.items ≡ sum.0 ∷ sum.1 →
      StepsSoFar l.site l.at l.initial.parts.before (steps_maker l.site l.at l.initial.parts.before sum (step_drafts l.site l.scope l.steps)) l.parts (step_drafts l.site l.scope (drop l.step-index l.steps));
}

abbrev pub invariant-same_as_all-loop-term : goal.invariant-same_as_all-loop-term
invariant-same_as_all-loop-term l = record {
  same : same_maker l.site l.before (form l.initial.part) (drafts l.site l.scope l.terms) ≡ same_maker l.site l.before (form l.part) (drafts l.site l.scope (drop l.term-index l.terms));
  kept : IsPart l.site.context.now l.part;
}

abbrev pub invariant-parts_of-loop-term : goal.invariant-parts_of-loop-term
invariant-parts_of-loop-term l =
    SoFar l.site.context.now (maker l.site) l.before (onto (maker l.site) l.before [] (drafts l.site l.scope l.terms)) l.parts (drafts l.site l.scope (drop l.term-index l.terms))

abbrev pub invariant-bodies-loop : goal.invariant-bodies-loop
invariant-bodies-loop l =
    SoFar l.site.context.now (operand_maker l.site) l.before
    (onto (operand_maker l.site) l.before [] (map (body_met (items l.site) (names l.site) l.body) (met_under (map group_meaning l.groups) l.condition (sees l.scope)))) l.parts
    (map (body_met (items l.site) (names l.site) l.body) (behind l.choices (sees l.scope)))
