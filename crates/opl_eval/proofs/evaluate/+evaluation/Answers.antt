use Rattle.std.proofs.lemmas.Grind.{common_steps}
use Rattle.std.proofs.Common.{arith, ◌+◌, true, false, [], Ok, ap, refl, rules, subst, sym, ◌∙◌}
use Rattle.opl_eval.specs.declared.gather.Gathered.TheVariants as made
use Rattle.opl_eval.specs.declared.turns.Ahead.TheVariants as ahead
use Rattle.opl_eval.specs.Gathered.{Gathers, with_more}
use Rattle.opl_eval.specs.Scopes.{names_in}
use Rattle.opl_eval.specs.Turns.{Leads, left, pending, still}
use Rattle.opl_eval.specs.Visible.{Gives, held, within}
use Rattle.opl_eval.specs.Visits.{bodies_at, bodies_in, group_visits, operations_in, over_visits, values_in}
use Rattle.opl_eval.proofs.Aggregates.{aggregate-fault, aggregate-is, begins, err-both, err-more, err-same, listed-found, passes-back, passes-groups}
use Rattle.opl_eval.proofs.Choices.{group-Ordered, group-Unordered, leads-same, over-faults, over-made, reaches, visits-more, visits-none}
use Rattle.opl_eval.proofs.Evals.{descriptions, evals, sets_of, steps_of}
use Rattle.opl_eval.proofs.evaluate.+evaluation.Goals as goal

-- ---- the steps

pub step-returns-in_err-visit_groups-in-Groups : goal.step-returns-in_err-visit_groups-in-Groups
step-returns-in_err-visit_groups-in-Groups t c =
    let h = err-both _ (still (bodies_at c.args.visit) (within c.args.base.environment.now c.args.base.parameters.now) (Ok []) c.args.turns.now.chosen.items) _ c.in_err-visit_groups-in-Groups.ensures in
    search rules

pub step-returns-in_ok-visit_groups-in-Groups : goal.step-returns-in_ok-visit_groups-in-Groups
step-returns-in_ok-visit_groups-in-Groups t c =
    passes-groups (bodies_at c.args.visit) (within c.args.base.environment.now c.args.base.parameters.now) c.args.gathered.now c.visit_groups.new.gathered c.args.turns.now.chosen.items c.args.turns.now.chosen.items
    c.args.ahead c.in_ok-visit_groups-in-Groups.field-0 c.in-Groups.place c.in-Groups.is refl c.in_ok-visit_groups-in-Groups.ensures

pub step-returns-in_ok-enter-in-Patterns : goal.step-returns-in_ok-enter-in-Patterns
step-returns-in_ok-enter-in-Patterns t c =
    ap (λ a. with_more c.args.gathered.now (pending (bodies_at c.args.visit) (within c.args.base.environment.now c.args.base.parameters.now) a c.args.turns.now.chosen.items)) c.in-Patterns.is
    ∙ ap (with_more c.args.gathered.now) (c.in_ok-enter-in-Patterns.ensures (bodies_at c.args.visit) (within c.args.base.environment.now c.args.base.parameters.now))

pub step-returns-in_ok-go_back-in-Back : goal.step-returns-in_ok-go_back-in-Back
step-returns-in_ok-go_back-in-Back t c =
    passes-back (bodies_at c.args.visit) (within c.args.base.environment.now c.args.base.parameters.now) c.args.gathered.now c.args.turns.now.chosen.items c.go_back.new.turns.chosen.items c.args.ahead _ c.in-Back.is c.in_ok-go_back-in-Back.ensures.none c.in_ok-go_back-in-Back.ensures.some

-- ---- the loop

pub walk-loop-init : goal.walk-loop-init
walk-loop-init t c = refl

pub walk-loop-preserved : goal.walk-loop-preserved
walk-loop-preserved t c = c.loop.invariant ∙ (rw c.in-Some.is at c.in_ok-next.ensures)

pub walk-returns-in-None : goal.walk-returns-in-None
walk-returns-in-None t c = c.loop.invariant ∙ (rw c.in-None.is at c.in_ok-next.ensures)

pub walk-returns-in_err-next : goal.walk-returns-in_err-next
walk-returns-in_err-next t c =
    let h = err-more c.args.gathered.now c.loop.gathered (pending (bodies_at c.args.visit) (within c.args.base.environment.now c.args.base.parameters.now) (ahead.Groups 0) c.args.turns.now.chosen.items) _ _ c.loop.invariant c.in_err-next.ensures in
    search rules

pub visit_all-returns : goal.visit_all-returns
visit_all-returns t c =
    subst (λ f. Gathers f c.args.gathered.now c.walk.new.gathered c.walk.result)
    (sym (begins c.args.visit (names_in c.args.scope) (within c.args.scope.environment.now c.as_slice.result.now) c.new-turns.result.chosen.items
    (ap (within c.args.scope.environment.now) c.as_slice.ensures.value ∙ c.in_ok-known.ensures) c.new-turns.ensures))
    c.walk.ensures

-- ---- bodies

pub aggregated-returns : goal.aggregated-returns
aggregated-returns t c =
    subst (λ f. Gives held f c.outcome.result)
    (sym (aggregate-is c.args.at c.args.operation c.args.groups.now c.args.condition.now c.args.body.now (names_in c.args.scope) c.visit_all.new.gathered
    ((λ i. with_more (sym c.new-gathered.ensures i) (bodies_in (sym c.visit_of.ensures.groups i) (sym c.visit_of.ensures.condition i) (sym c.visit_of.ensures.body i) (names_in c.args.scope))) ∙ c.in_ok-visit_all.ensures)))
    c.outcome.ensures

pub aggregated-returns-in_err-visit_all : goal.aggregated-returns-in_err-visit_all
aggregated-returns-in_err-visit_all t c =
    let h = aggregate-fault c.args.at c.args.operation c.args.groups.now c.args.condition.now c.args.body.now (names_in c.args.scope) _ _
    (λ i. bodies_in (sym c.visit_of.ensures.groups i) (sym c.visit_of.ensures.condition i) (sym c.visit_of.ensures.body i) (names_in c.args.scope)) c.in_err-visit_all.ensures in
    search rules

pub bodies-returns : goal.bodies-returns
bodies-returns t c =
    listed-found (bodies_in c.args.groups.now c.args.condition.now c.args.body.now (names_in c.args.scope)) c.visit_all.new.gathered
    ((λ i. with_more (made.Listed (sym c.new-none.ensures i)) (bodies_in (sym c.visit_of.ensures.groups i) (sym c.visit_of.ensures.condition i) (sym c.visit_of.ensures.body i) (names_in c.args.scope))) ∙ c.in_ok-visit_all.ensures)
    ∙ ap (λ vs. Ok vs) (sym c.values_of.ensures)

-- ---- groups

pub visit_groups-returns-in_err-visit_body : goal.visit_groups-returns-in_err-visit_body
visit_groups-returns-in_err-visit_body t c =
    let h = err-same _ _ _ (visits-none c.args.visit c.args.place (names_in c.args.scope) c.if-place-visit.true) c.in_err-visit_body.ensures in
    search rules

pub visit_groups-returns-then-place-visit : goal.visit_groups-returns-then-place-visit
visit_groups-returns-then-place-visit t c =
    ap (with_more c.args.gathered.now) (visits-none c.args.visit c.args.place (names_in c.args.scope) c.if-place-visit.true) ∙ c.in_ok-visit_body.ensures

pub visit_groups-returns : goal.visit_groups-returns
visit_groups-returns t c =
    reaches c.args.visit c.args.place c.index-visit-place.result (names_in c.args.scope) c.args.gathered.now c.visit_group.result
    (visits-more c.args.visit c.args.place c.index-visit-place.result (names_in c.args.scope) c.if-place-visit.false c.index-visit-place.is)
    (subst (λ g. Leads (λ inner. group_visits g (inner (c.args.place + 1)) (names_in c.args.scope)) (names_in c.args.scope) c.visit_group.result) (sym c.index-visit-place.is) c.visit_group.ensures)

pub visit_group-returns-in-Unordered : goal.visit_group-returns-in-Unordered
visit_group-returns-in-Unordered t c =
    leads-same (λ inner. group_visits c.args.group.now (inner c.args.later) (names_in c.args.scope)) _ (names_in c.args.scope) c.visit_over.result
    (λ inner. ap (λ g. group_visits g (inner c.args.later) (names_in c.args.scope)) c.in-Unordered.is ∙ group-Unordered c.in-Unordered.patterns c.in-Unordered.over (inner c.args.later) (names_in c.args.scope) ∙ ap (λ ps. over_visits false ps c.in-Unordered.over (inner c.args.later) (names_in c.args.scope)) (sym c.as_slice.ensures))
    c.visit_over.ensures

pub visit_group-returns-in-Ordered : goal.visit_group-returns-in-Ordered
visit_group-returns-in-Ordered t c =
    leads-same (λ inner. group_visits c.args.group.now (inner c.args.later) (names_in c.args.scope)) _ (names_in c.args.scope) c.visit_over-in-Ordered.result
    (λ inner. ap (λ g. group_visits g (inner c.args.later) (names_in c.args.scope)) c.in-Ordered.is ∙ group-Ordered c.in-Ordered.patterns c.in-Ordered.over (inner c.args.later) (names_in c.args.scope) ∙ ap (λ ps. over_visits true ps c.in-Ordered.over (inner c.args.later) (names_in c.args.scope)) (sym c.as_slice-in-Ordered.ensures))
    c.visit_over-in-Ordered.ensures

pub visit_over-returns-in_err-set : goal.visit_over-returns-in_err-set
visit_over-returns-in_err-set t c =
    let h = over-faults c.args.is_ordered c.args.patterns.now c.args.over.now c.args.later (names_in c.args.scope) c.in_err-set.field-0.0 c.in_err-set.ensures in
    search rules

pub visit_over-returns : goal.visit_over-returns
visit_over-returns t c = λ inner.
    over-made c.args.is_ordered c.args.patterns.now c.args.over.now (inner c.args.later) (names_in c.args.scope) (held c.in_ok-set.set) c.declaration_of.result (left c.in_ok-elements.elements)
    c.in_ok-set.ensures c.declaration_of.ensures c.in_ok-elements.ensures

-- src/evaluate.rt
pub described-returns : goal.described-returns
described-returns t c = grind (arith, descriptions)

-- src/evaluate.rt
pub described-returns-in_err-found : goal.described-returns-in_err-found
described-returns-in_err-found t c = grind (arith, descriptions)

-- src/evaluate.rt
pub evaluate-returns-in-Aggregate : goal.evaluate-returns-in-Aggregate
evaluate-returns-in-Aggregate t c = grind (arith, evals)

-- src/evaluate.rt
pub evaluate-returns-in-Bracket : goal.evaluate-returns-in-Bracket
evaluate-returns-in-Bracket t c = grind (arith, evals)

-- src/evaluate.rt
pub evaluate-returns-in-Described : goal.evaluate-returns-in-Described
evaluate-returns-in-Described t c = grind (arith, evals)

-- src/evaluate.rt
pub evaluate-returns-in-Named : goal.evaluate-returns-in-Named
evaluate-returns-in-Named t c = grind (arith, evals)

-- src/evaluate.rt
pub evaluate-returns-in-Number : goal.evaluate-returns-in-Number
evaluate-returns-in-Number t c = grind (arith, evals)

-- src/evaluate.rt
pub evaluate-returns-in-Question : goal.evaluate-returns-in-Question
evaluate-returns-in-Question t c = grind (arith, evals)

-- src/evaluate.rt
pub opposite-returns : goal.opposite-returns
opposite-returns t c = grind (arith, evals)

-- src/evaluate.rt
pub opposite-returns-in_err-operand : goal.opposite-returns-in_err-operand
opposite-returns-in_err-operand t c = grind (arith, evals)

-- src/evaluate.rt
pub chain-returns : goal.chain-returns
chain-returns t c = grind (arith, evals)

-- src/evaluate.rt
pub chain-returns-in_err-first : goal.chain-returns-in_err-first
chain-returns-in_err-first t c = grind (arith, evals)

-- src/evaluate.rt
pub chain-returns-in_err-first-2 : goal.chain-returns-in_err-first-2
chain-returns-in_err-first-2 t c = grind (arith, evals)

-- src/evaluate.rt
pub comparison-returns : goal.comparison-returns
comparison-returns t c = grind (arith, evals)

-- src/evaluate.rt
pub comparison-returns-in_err-left : goal.comparison-returns-in_err-left
comparison-returns-in_err-left t c = grind (arith, evals)

-- src/evaluate.rt
pub comparison-returns-in_err-left-2 : goal.comparison-returns-in_err-left-2
comparison-returns-in_err-left-2 t c = grind (arith, evals)

-- src/evaluate.rt
pub membership-returns : goal.membership-returns
membership-returns t c = grind (arith, evals)

-- src/evaluate.rt
pub membership-returns-in_err-value : goal.membership-returns-in_err-value
membership-returns-in_err-value t c = grind (arith, evals)

-- src/evaluate.rt
pub membership-returns-in_err-value-2 : goal.membership-returns-in_err-value-2
membership-returns-in_err-value-2 t c = grind (arith, evals)

-- src/evaluate.rt
pub equivalence-returns : goal.equivalence-returns
equivalence-returns t c = grind (arith, evals)

-- src/evaluate.rt
pub equivalence-returns-in_err-values : goal.equivalence-returns-in_err-values
equivalence-returns-in_err-values t c = grind (arith, evals)

-- src/evaluate.rt
pub implication-returns : goal.implication-returns
implication-returns t c = grind (arith, evals)

-- src/evaluate.rt
pub implication-returns-in_err-premise : goal.implication-returns-in_err-premise
implication-returns-in_err-premise t c = grind (arith, evals)

-- src/evaluate.rt
pub implication-returns-in_err-premise-2 : goal.implication-returns-in_err-premise-2
implication-returns-in_err-premise-2 t c = grind (arith, evals)

-- src/evaluate.rt
pub disjunction-returns : goal.disjunction-returns
disjunction-returns t c = grind (arith, evals)

-- src/evaluate.rt
pub disjunction-returns-in_err-values : goal.disjunction-returns-in_err-values
disjunction-returns-in_err-values t c = grind (arith, evals)

-- src/evaluate.rt
pub conjunction-returns : goal.conjunction-returns
conjunction-returns t c = grind (arith, evals)

-- src/evaluate.rt
pub conjunction-returns-in_err-values : goal.conjunction-returns-in_err-values
conjunction-returns-in_err-values t c = grind (arith, evals)

-- src/evaluate.rt
pub negation-returns : goal.negation-returns
negation-returns t c = grind (arith, evals)

-- src/evaluate.rt
pub negation-returns-in_err-operand : goal.negation-returns-in_err-operand
negation-returns-in_err-operand t c = grind (arith, evals)

-- src/evaluate.rt
pub call-returns : goal.call-returns
call-returns t c = grind (arith, evals)

-- src/evaluate.rt
pub call-returns-in_err-operand : goal.call-returns-in_err-operand
call-returns-in_err-operand t c = grind (arith, evals)

-- src/evaluate.rt
pub difference-returns : goal.difference-returns
difference-returns t c = grind (arith, evals)

-- src/evaluate.rt
pub difference-returns-in_err-array : goal.difference-returns-in_err-array
difference-returns-in_err-array t c = grind (arith, evals)

-- src/evaluate.rt
pub element_under-returns : goal.element_under-returns
element_under-returns t c = grind (arith, evals)

-- src/evaluate.rt
pub element_under-returns-in_err-key : goal.element_under-returns-in_err-key
element_under-returns-in_err-key t c = grind (arith, evals)

-- src/evaluate.rt
pub field-returns : goal.field-returns
field-returns t c = grind (arith, evals)

-- src/evaluate.rt
pub field-returns-in_err-whole : goal.field-returns-in_err-whole
field-returns-in_err-whole t c = grind (arith, evals)

-- src/evaluate.rt
pub record-returns : goal.record-returns
record-returns t c = grind (arith, evals)

-- src/evaluate.rt
pub record-returns-in_err-parts : goal.record-returns-in_err-parts
record-returns-in_err-parts t c = grind (arith, evals)

-- src/evaluate.rt
pub listed-returns : goal.listed-returns
listed-returns t c = grind (arith, evals)

-- src/evaluate.rt
pub listed-returns-in_err-elements : goal.listed-returns-in_err-elements
listed-returns-in_err-elements t c = grind (arith, evals)

-- src/evaluate.rt
pub evaluate_set-returns-in-Whole : goal.evaluate_set-returns-in-Whole
evaluate_set-returns-in-Whole t c = grind (arith, sets_of)

-- src/evaluate.rt
pub evaluate_set-returns-in_err-low-in-Between : goal.evaluate_set-returns-in_err-low-in-Between
evaluate_set-returns-in_err-low-in-Between t c = grind (arith, sets_of)

-- src/evaluate.rt
pub evaluate_set-returns-in_err-low-in-Between-2 : goal.evaluate_set-returns-in_err-low-in-Between-2
evaluate_set-returns-in_err-low-in-Between-2 t c = grind (arith, sets_of)

-- src/evaluate.rt
pub evaluate_set-returns-in_ok-low-in-Between-2 : goal.evaluate_set-returns-in_ok-low-in-Between-2
evaluate_set-returns-in_ok-low-in-Between-2 t c = grind (arith, sets_of)

-- src/evaluate.rt
pub key_of-loop-subscript-init : goal.key_of-loop-subscript-init
unfolding values_in
key_of-loop-subscript-init t c = grind (arith, common_steps)

-- src/evaluate.rt
pub key_of-loop-subscript-preserved : goal.key_of-loop-subscript-preserved
unfolding values_in
key_of-loop-subscript-preserved t c = grind (arith, common_steps)

-- src/evaluate.rt
pub key_of-returns : goal.key_of-returns
unfolding values_in
key_of-returns t c = grind (arith, common_steps)

-- src/evaluate.rt
pub operation-returns-in_err-operand_of-in-Minus : goal.operation-returns-in_err-operand_of-in-Minus
operation-returns-in_err-operand_of-in-Minus t c = grind (arith, steps_of)

-- src/evaluate.rt
pub operation-returns-in_err-operand_of-in-Plus : goal.operation-returns-in_err-operand_of-in-Plus
operation-returns-in_err-operand_of-in-Plus t c = grind (arith, steps_of)

-- src/evaluate.rt
pub operation-returns-in_err-operand_of-in-Quotient : goal.operation-returns-in_err-operand_of-in-Quotient
operation-returns-in_err-operand_of-in-Quotient t c = grind (arith, steps_of)

-- src/evaluate.rt
pub operation-returns-in_err-operand_of-in-Remainder : goal.operation-returns-in_err-operand_of-in-Remainder
operation-returns-in_err-operand_of-in-Remainder t c = grind (arith, steps_of)

-- src/evaluate.rt
pub operation-returns-in_err-operand_of-in-Times : goal.operation-returns-in_err-operand_of-in-Times
operation-returns-in_err-operand_of-in-Times t c = grind (arith, steps_of)

-- src/evaluate.rt
pub operation-returns-in_ok-operand_of-in-Minus : goal.operation-returns-in_ok-operand_of-in-Minus
operation-returns-in_ok-operand_of-in-Minus t c = grind (arith, steps_of)

-- src/evaluate.rt
pub operation-returns-in_ok-operand_of-in-Plus : goal.operation-returns-in_ok-operand_of-in-Plus
operation-returns-in_ok-operand_of-in-Plus t c = grind (arith, steps_of)

-- src/evaluate.rt
pub operation-returns-in_ok-operand_of-in-Quotient : goal.operation-returns-in_ok-operand_of-in-Quotient
operation-returns-in_ok-operand_of-in-Quotient t c = grind (arith, steps_of)

-- src/evaluate.rt
pub operation-returns-in_ok-operand_of-in-Remainder : goal.operation-returns-in_ok-operand_of-in-Remainder
operation-returns-in_ok-operand_of-in-Remainder t c = grind (arith, steps_of)

-- src/evaluate.rt
pub operation-returns-in_ok-operand_of-in-Times : goal.operation-returns-in_ok-operand_of-in-Times
operation-returns-in_ok-operand_of-in-Times t c = grind (arith, steps_of)

-- src/evaluate.rt
pub operations-loop-step-init : goal.operations-loop-step-init
unfolding operations_in
operations-loop-step-init t c = grind (arith, common_steps)

-- src/evaluate.rt
pub operations-loop-step-preserved : goal.operations-loop-step-preserved
unfolding operations_in
operations-loop-step-preserved t c = grind (arith, common_steps)

-- src/evaluate.rt
pub operations-returns : goal.operations-returns
unfolding operations_in
operations-returns t c = grind (arith, common_steps)

-- src/evaluate.rt
pub values-loop-term-init : goal.values-loop-term-init
unfolding values_in
values-loop-term-init t c = grind (arith, common_steps)

-- src/evaluate.rt
pub values-loop-term-preserved : goal.values-loop-term-preserved
unfolding values_in
values-loop-term-preserved t c = grind (arith, common_steps)

-- src/evaluate.rt
pub values-returns : goal.values-returns
unfolding values_in
values-returns t c = grind (arith, common_steps)
