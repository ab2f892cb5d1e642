use Rattle.std.proofs.Common.{◌+◌, ◌<◌, subst, arith}
use Rattle.opl_eval.specs.Visible.{Gives}
use Rattle.opl_eval.specs.Weights.{weight}
use Rattle.opl_groups.specs.Visits.{sees}
use Rattle.opl_making.specs.Sites.{items, names}
use Rattle.opl_held.proofs.Forms as forms
use Rattle.opl_held.proofs.Weighing.{aggregate-weighs}
use Rattle.opl_held.proofs.worth.+worths.Goals as goal

pub live_worth-aggregate-requires : goal.live_worth-aggregate-requires
live_worth-aggregate-requires t c =
    let smaller : weight c.get-in-Aggregate.result.now + 12 < weight c.args.term.now + 3 =
    aggregate-weighs c.args.term.now c.in-Aggregate.body c.get-in-Aggregate.result.now c.in-Aggregate.at c.in-Aggregate.operation c.in-Aggregate.groups c.in-Aggregate.condition c.in-Aggregate.is c.get-in-Aggregate.ensures in
    (omega (arith, smaller, c.decreases), c.requires)

pub live_worth-returns-in-Named : goal.live_worth-returns-in-Named
live_worth-returns-in-Named t c =
    subst (λ r. Gives (λ part. part) r c.named.result)
    (forms.live-Named c.args.site c.args.scope c.args.values.now c.args.term.now c.in-Named.field-0 c.in-Named.name c.as_slice.result.now c.in-Named.is c.as_slice.ensures) (c.named.ensures c.in-Named.field-0)

pub live_worth-returns-in-Chain : goal.live_worth-returns-in-Chain
live_worth-returns-in-Chain t c =
    subst (λ r. Gives (λ part. part) r c.chain.result)
    (forms.live-Chain c.args.site c.args.scope c.args.values.now c.args.term.now c.in-Chain.at c.in-Chain.first c.get-in-Chain.result.now c.in-Chain.steps c.as_slice-in-Chain.result.now c.in-Chain.is c.get-in-Chain.ensures c.as_slice-in-Chain.ensures) (c.chain.ensures)

pub live_worth-returns-in-Equivalent : goal.live_worth-returns-in-Equivalent
live_worth-returns-in-Equivalent t c =
    subst (λ r. Gives (λ part. part) r c.connected.result)
    (forms.live-Equivalent c.args.site c.args.scope c.args.values.now c.args.term.now c.in-Equivalent.field-0 c.in-Equivalent.terms c.as_slice-in-Equivalent.result.now c.in-Equivalent.is c.as_slice-in-Equivalent.ensures) (c.connected.ensures)

pub live_worth-returns-in-Or : goal.live_worth-returns-in-Or
live_worth-returns-in-Or t c =
    subst (λ r. Gives (λ part. part) r c.connected-in-Or.result)
    (forms.live-Or c.args.site c.args.scope c.args.values.now c.args.term.now c.in-Or.field-0 c.in-Or.terms c.as_slice-in-Or.result.now c.in-Or.is c.as_slice-in-Or.ensures) (c.connected-in-Or.ensures)

pub live_worth-returns-in-And : goal.live_worth-returns-in-And
live_worth-returns-in-And t c =
    subst (λ r. Gives (λ part. part) r c.connected-in-And.result)
    (forms.live-And c.args.site c.args.scope c.args.values.now c.args.term.now c.in-And.field-0 c.in-And.terms c.as_slice-in-And.result.now c.in-And.is c.as_slice-in-And.ensures) (c.connected-in-And.ensures)

pub live_worth-returns-in-Aggregate : goal.live_worth-returns-in-Aggregate
live_worth-returns-in-Aggregate t c =
    subst (λ r. Gives (λ part. part) r c.aggregate.result)
    (forms.live-Aggregate c.args.site c.args.scope c.args.values.now c.args.term.now c.bodies_by_choice.ensures c.in-Aggregate.at c.in-Aggregate.operation c.in-Aggregate.groups c.as_slice-in-Aggregate.result.now c.in-Aggregate.condition c.in-Aggregate.body c.get-in-Aggregate.result.now c.in-Aggregate.is c.as_slice-in-Aggregate.ensures c.get-in-Aggregate.ensures) (c.aggregate.ensures)

pub live_worth-returns-in-AllDifferent : goal.live_worth-returns-in-AllDifferent
live_worth-returns-in-AllDifferent t c =
    subst (λ r. Gives (λ part. part) r c.difference.result)
    (forms.live-AllDifferent c.args.site c.args.scope c.args.values.now c.args.term.now c.in-AllDifferent.field-0 c.in-AllDifferent.array c.get-in-AllDifferent.result.now c.in-AllDifferent.is c.get-in-AllDifferent.ensures) (c.difference.ensures c.in-AllDifferent.field-0)

pub live_worth-returns-in-Element : goal.live_worth-returns-in-Element
live_worth-returns-in-Element t c =
    subst (λ r. Gives (λ part. part) r c.element.result)
    (forms.live-Element c.args.site c.args.scope c.args.values.now c.args.term.now c.in-Element.at c.in-Element.base c.get-in-Element.result.now c.in-Element.subscripts c.as_slice-in-Element.result.now c.in-Element.is c.get-in-Element.ensures c.as_slice-in-Element.ensures) (c.element.ensures)

pub step_taken-returns-in-Plus : goal.step_taken-returns-in-Plus
step_taken-returns-in-Plus t c =
    subst (λ r. Gives (λ sum. sum) r c.signed_step.result)
    (forms.step-is c.args.site c.args.scope c.args.values.now c.args.at c.args.sum c.args.step.now _ _ c.in-Plus.is ((c.drafts_of_steps.ensures (items c.args.site) (names c.args.site) (sees c.args.scope)).plus c.in-Plus.inner))
    c.signed_step.ensures

pub step_taken-returns-in-Minus : goal.step_taken-returns-in-Minus
step_taken-returns-in-Minus t c =
    subst (λ r. Gives (λ sum. sum) r c.signed_step-in-Minus.result)
    (forms.step-is c.args.site c.args.scope c.args.values.now c.args.at c.args.sum c.args.step.now _ _ c.in-Minus.is ((c.drafts_of_steps.ensures (items c.args.site) (names c.args.site) (sees c.args.scope)).minus c.in-Minus.inner))
    c.signed_step-in-Minus.ensures

pub step_taken-returns-in-Times : goal.step_taken-returns-in-Times
step_taken-returns-in-Times t c =
    subst (λ r. Gives (λ sum. sum) r c.signed_step-in-Times.result)
    (forms.step-is c.args.site c.args.scope c.args.values.now c.args.at c.args.sum c.args.step.now _ _ c.in-Times.is ((c.drafts_of_steps.ensures (items c.args.site) (names c.args.site) (sees c.args.scope)).times c.in-Times.inner))
    c.signed_step-in-Times.ensures

pub step_taken-returns-in-Quotient : goal.step_taken-returns-in-Quotient
step_taken-returns-in-Quotient t c =
    subst (λ r. Gives (λ sum. sum) r c.signed_step-in-Quotient.result)
    (forms.step-is c.args.site c.args.scope c.args.values.now c.args.at c.args.sum c.args.step.now _ _ c.in-Quotient.is ((c.drafts_of_steps.ensures (items c.args.site) (names c.args.site) (sees c.args.scope)).quotient c.in-Quotient.inner))
    c.signed_step-in-Quotient.ensures

pub step_taken-returns-in-Remainder : goal.step_taken-returns-in-Remainder
step_taken-returns-in-Remainder t c =
    subst (λ r. Gives (λ sum. sum) r c.signed_step-in-Remainder.result)
    (forms.step-is c.args.site c.args.scope c.args.values.now c.args.at c.args.sum c.args.step.now _ _ c.in-Remainder.is ((c.drafts_of_steps.ensures (items c.args.site) (names c.args.site) (sees c.args.scope)).remainder c.in-Remainder.inner))
    c.signed_step-in-Remainder.ensures
