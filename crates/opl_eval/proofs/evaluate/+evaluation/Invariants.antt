use Rattle.std.proofs.Common.{◌≡◌, ◌+◌, ◌++◌, drop, map}
use Rattle.std.specs.Option.{option_copied, option_map}
use Rattle.opl_eval.specs.Evaluation.{all, eval, found, step_meaning}
use Rattle.opl_eval.specs.Gathered.{with_more}
use Rattle.opl_eval.specs.Scopes.{names_in}
use Rattle.opl_eval.specs.Turns.{pending}
use Rattle.opl_eval.specs.Visible.{within}
use Rattle.opl_eval.specs.Visits.{bodies_at}
use Rattle.opl_eval.specs.Weights.{weight, step_weight, set_weight, group_weight, visit_weight, if_any, total}
use Rattle.opl_term.specs.declared.term.Term.TheVariants as terms
use Rattle.opl_eval.specs.declared.turns.Ahead.TheVariants as ahead
use Rattle.opl_eval.proofs.evaluate.+evaluation.Given as goal

abbrev pub decreases-evaluate : goal.decreases-evaluate
decreases-evaluate l = weight l.term.now + 4

abbrev pub decreases-evaluate_set : goal.decreases-evaluate_set
decreases-evaluate_set l = set_weight l.set.now + 5

abbrev pub decreases-values : goal.decreases-values
decreases-values l = total (map weight l.terms.now) + 5

abbrev pub decreases-key_of : goal.decreases-key_of
decreases-key_of l = total (map weight l.subscripts.now) + 5

abbrev pub decreases-operations : goal.decreases-operations
decreases-operations l = total (map step_weight l.steps.now) + 6

abbrev pub decreases-operation : goal.decreases-operation
decreases-operation l = step_weight l.step.now + 5

abbrev pub decreases-opposite : goal.decreases-opposite
decreases-opposite l = weight (terms.Negative l.at l.operand.now) + 3

abbrev pub decreases-chain : goal.decreases-chain
decreases-chain l = weight (terms.Chain l.at l.first.now l.steps.now) + 3

abbrev pub decreases-comparison : goal.decreases-comparison
decreases-comparison l = weight (terms.Related l.at l.left.now l.relation l.right.now) + 3

abbrev pub decreases-membership : goal.decreases-membership
decreases-membership l = weight (terms.Member l.at l.value.now l.over.now) + 3

abbrev pub decreases-equivalence : goal.decreases-equivalence
decreases-equivalence l = weight (terms.Equivalent l.at l.terms.now) + 3

abbrev pub decreases-implication : goal.decreases-implication
decreases-implication l = weight (terms.Implied l.at l.premise.now l.conclusion.now) + 3

abbrev pub decreases-disjunction : goal.decreases-disjunction
decreases-disjunction l = weight (terms.Or l.at l.terms.now) + 3

abbrev pub decreases-conjunction : goal.decreases-conjunction
decreases-conjunction l = weight (terms.And l.at l.terms.now) + 3

abbrev pub decreases-negation : goal.decreases-negation
decreases-negation l = weight (terms.Not l.at l.operand.now) + 3

abbrev pub decreases-call : goal.decreases-call
decreases-call l = weight (terms.Call l.at l.operation l.operand.now) + 3

abbrev pub decreases-difference : goal.decreases-difference
decreases-difference l = weight (terms.AllDifferent l.at l.array.now) + 3

abbrev pub decreases-element_under : goal.decreases-element_under
decreases-element_under l = weight (terms.Element l.at l.base.now l.subscripts.now) + 3

abbrev pub decreases-field : goal.decreases-field
decreases-field l = weight (terms.Fields l.at l.whole.now l.names.now) + 3

abbrev pub decreases-record : goal.decreases-record
decreases-record l = weight (terms.Record l.at l.terms.now) + 3

abbrev pub decreases-listed : goal.decreases-listed
decreases-listed l = weight (terms.Listed l.at l.terms.now) + 3

abbrev pub decreases-described : goal.decreases-described
decreases-described l = weight (terms.Described l.at l.body.now l.groups.now l.condition.now) + 3

abbrev pub decreases-aggregated : goal.decreases-aggregated
decreases-aggregated l = total (map group_weight l.groups.now) + if_any (option_map weight l.condition.now) + weight l.body.now + 17

abbrev pub decreases-bodies : goal.decreases-bodies
decreases-bodies l = total (map group_weight l.groups.now) + if_any (option_map weight l.condition.now) + weight l.body.now + 16

abbrev pub decreases-visit_all : goal.decreases-visit_all
decreases-visit_all l = visit_weight l.visit + 11

abbrev pub decreases-walk : goal.decreases-walk
decreases-walk l = visit_weight l.visit + 10

abbrev pub decreases-operand_of : goal.decreases-operand_of
decreases-operand_of l = weight l.operand.now + 5

abbrev pub decreases-step : goal.decreases-step
decreases-step l = visit_weight l.visit + 9

abbrev pub decreases-visit_groups : goal.decreases-visit_groups
decreases-visit_groups l = visit_weight l.visit + 8

abbrev pub decreases-visit_body : goal.decreases-visit_body
decreases-visit_body l = if_any (option_map weight (option_copied l.condition)) + weight l.body.now + 6

abbrev pub decreases-visit_group : goal.decreases-visit_group
decreases-visit_group l = group_weight l.group.now + 7

abbrev pub decreases-visit_over : goal.decreases-visit_over
decreases-visit_over l = set_weight l.over.now + 6

abbrev pub invariant-values-loop-term : goal.invariant-values-loop-term
invariant-values-loop-term l =
    all (map (λ t. eval t (names_in l.scope)) l.terms)
    ≡ found (λ vs. l.found.items ++ vs) (all (map (λ t. eval t (names_in l.scope)) (drop l.term-index l.terms)))

abbrev pub invariant-key_of-loop-subscript : goal.invariant-key_of-loop-subscript
invariant-key_of-loop-subscript l =
    all (map (λ t. eval t (names_in l.scope)) l.subscripts)
    ≡ found (λ vs. l.key.items ++ vs) (all (map (λ t. eval t (names_in l.scope)) (drop l.subscript-index l.subscripts)))

abbrev pub invariant-operations-loop-step : goal.invariant-operations-loop-step
invariant-operations-loop-step l =
    all (map (λ s. step_meaning s (names_in l.scope)) l.steps)
    ≡ found (λ os. l.found.items ++ os) (all (map (λ s. step_meaning s (names_in l.scope)) (drop l.step-index l.steps)))

abbrev pub invariant-walk-loop : goal.invariant-walk-loop
invariant-walk-loop l =
    with_more l.initial.gathered (pending (bodies_at l.visit) (within l.base.environment.now l.base.parameters.now) (ahead.Groups 0) l.initial.turns.chosen.items)
    ≡ with_more l.gathered (pending (bodies_at l.visit) (within l.base.environment.now l.base.parameters.now) l.ahead l.turns.chosen.items)
