use Rattle.std.proofs.Common.{◌+◌, ◌<◌, ℕ, List, [], Option, drop, map, refl, ap, subst, sym, ◌∙◌, arith, rules, to_z, of_z}
use Rattle.std.proofs.lemmas.Int.{to_z-of_z}
use Rattle.std.specs.Prelude.{FitsSigned}
use mir.Syntax.{w128}
use Rattle.opl_tree.specs.declared.expression.CallOp.TheVariants.{Absolute, Cardinality}
use Rattle.opl_term.specs.declared.term.Step.{Step}
use Rattle.opl_value.specs.declared.value.Value.TheVariants as values
use Rattle.opl_eval.specs.Evaluation.{Environment, group_meaning}
use Rattle.opl_eval.specs.Visible.{within}
use Rattle.opl_eval.specs.Weights.{weight}
use Rattle.opl_draft.specs.Drafts.{Draft, DraftStep}
use Rattle.opl_draft.specs.Drafts.Sign.{plus, minus, times, quotient, remainder}
use Rattle.opl_draft.specs.Forms.{array_in}
use Rattle.opl_draft.specs.Unrolled.{called}
use Rattle.opl_form.specs.Made.{array_of}
use Rattle.opl_form.specs.Nodes as nodes
use Rattle.opl_form.specs.Nodes.{Made, next}
use Rattle.opl_form.specs.Parts.{Form}
use Rattle.opl_groups.specs.Met.{Met, met_under}
use Rattle.opl_groups.specs.Visits.{behind, latest, sees}
use Rattle.opl_nodes.specs.Contexts.{arrays, sets}
use Rattle.opl_nodes.specs.Pieces.{Makes, form, forms}
use Rattle.opl_numbers.specs.Signs as signs
use Rattle.opl_unfolding.specs.Onto.{onto}
use Rattle.opl_unfolding.specs.Unrolling.{body_met, live_draft, value_draft}
use Rattle.opl_making.specs.Sites as sites
use Rattle.opl_making.specs.Sites.{SoFar, StepsSoFar, draft, draft_under, drafts, implied_maker, items, maker, names, operand_maker, reached, same_maker, step_draft, step_drafts, step_maker, steps_maker}
use Rattle.opl_making.proofs.Forms as by
use Rattle.opl_making.proofs.Live as live
use Rattle.opl_making.proofs.Loops as loops
use Rattle.opl_making.proofs.Next.{forms-same, makes-same, part-made, parts-made, refused, sum-same}
use Rattle.opl_making.proofs.DraftPlaces.{own-places}
use Rattle.opl_making.proofs.Steps as steps
use Rattle.opl_maker.proofs.Sums.{of-parts}
use Rattle.opl_maker.proofs.Weighing.{aggregate-weighs}
use Rattle.opl_maker.proofs.making.+making.Goals as goal

-- ---- one part

pub operand_part-returns-in-Ok : goal.operand_part-returns-in-Ok
operand_part-returns-in-Ok t c =
    by.operand-part c.args.site c.args.before c.draft_place-at.result (draft c.args.site c.args.scope c.args.term.now) c.in-Ok.part c.operand.result
    (c.draft_place-at.ensures (sees c.args.scope)) c.in-Ok.ensures c.operand.ensures

pub operand_part-returns-in-Err : goal.operand_part-returns-in-Err
operand_part-returns-in-Err t c =
    refused Form Form (maker c.args.site c.args.before (draft c.args.site c.args.scope c.args.term.now)) _ c.in-Err.fault c.in-Err.ensures

pub negative_part-returns-in-Ok : goal.negative_part-returns-in-Ok
negative_part-returns-in-Ok t c =
    part-made c.args.site.context.now (operand_maker c.args.site c.args.before (draft c.args.site c.args.scope c.args.inner.now))
    (λ g. nodes.negated (sets c.args.site.context.now) (arrays c.args.site.context.now) c.args.site.context.now.item c.args.at c.args.before g) c.in-Ok.part c.negated.result c.in-Ok.ensures c.negated.ensures

pub negative_part-returns-in-Err : goal.negative_part-returns-in-Err
negative_part-returns-in-Err t c =
    refused Form Form (operand_maker c.args.site c.args.before (draft c.args.site c.args.scope c.args.inner.now)) _ c.in-Err.fault c.in-Err.ensures

pub absolute_part-returns-in-Ok : goal.absolute_part-returns-in-Ok
absolute_part-returns-in-Ok t c =
    part-made c.args.site.context.now (operand_maker c.args.site c.args.before (draft c.args.site c.args.scope c.args.inner.now))
    (λ g. nodes.absolute (sets c.args.site.context.now) (arrays c.args.site.context.now) c.args.site.context.now.item c.args.at c.args.before g) c.in-Ok.part c.absolute.result c.in-Ok.ensures c.absolute.ensures

pub absolute_part-returns-in-Err : goal.absolute_part-returns-in-Err
absolute_part-returns-in-Err t c =
    refused Form Form (operand_maker c.args.site c.args.before (draft c.args.site c.args.scope c.args.inner.now)) _ c.in-Err.fault c.in-Err.ensures

pub make_truth-returns-in-Ok : goal.make_truth-returns-in-Ok
make_truth-returns-in-Ok t c =
    part-made c.args.site.context.now (maker c.args.site c.args.before (draft c.args.site c.args.scope c.args.term.now))
    (λ g. nodes.truth_part c.args.site.context.now.item c.args.before g) c.in-Ok.part c.truth_part.result c.in-Ok.ensures c.truth_part.ensures

pub make_truth-returns-in-Err : goal.make_truth-returns-in-Err
make_truth-returns-in-Err t c =
    refused Form Form (maker c.args.site c.args.before (draft c.args.site c.args.scope c.args.term.now)) _ c.in-Err.fault c.in-Err.ensures

pub negation-returns-in-Ok : goal.negation-returns-in-Ok
negation-returns-in-Ok t c =
    part-made c.args.site.context.now (maker c.args.site c.args.before (draft c.args.site c.args.scope c.args.inner.now))
    (λ g. nodes.opposite c.args.site.context.now.item c.args.before g) c.in-Ok.part c.opposite.result c.in-Ok.ensures c.opposite.ensures

pub negation-returns-in-Err : goal.negation-returns-in-Err
negation-returns-in-Err t c =
    refused Form Form (maker c.args.site c.args.before (draft c.args.site c.args.scope c.args.inner.now)) _ c.in-Err.fault c.in-Err.ensures

-- ---- two parts

pub comparison-returns-in-Ok : goal.comparison-returns-in-Ok
comparison-returns-in-Ok t c =
    part-made c.args.site.context.now (operand_maker c.args.site c.args.before (draft c.args.site c.args.scope c.args.left.now)) _ c.in-Ok.part c.compared_to.result c.in-Ok.ensures c.compared_to.ensures

pub comparison-returns-in-Err : goal.comparison-returns-in-Err
comparison-returns-in-Err t c =
    refused Form Form (operand_maker c.args.site c.args.before (draft c.args.site c.args.scope c.args.left.now)) _ c.in-Err.fault c.in-Err.ensures

pub compared_to-returns-in-Ok : goal.compared_to-returns-in-Ok
compared_to-returns-in-Ok t c =
    by.second-made c.args.site.context.now (operand_maker c.args.site) c.args.before c.in_ok-reached.reached (draft c.args.site c.args.scope c.args.right.now)
    (λ h. nodes.compared (sets c.args.site.context.now) (arrays c.args.site.context.now) c.args.site.context.now.item c.args.at c.args.before c.args.relation (form c.args.left) h)
    c.args.left c.in-Ok.part c.compared.result c.in_ok-reached.ensures c.requires.left c.in-Ok.ensures c.compared.ensures

pub compared_to-returns-in-Err : goal.compared_to-returns-in-Err
compared_to-returns-in-Err t c =
    by.second-refused c.args.site.context.now (operand_maker c.args.site) c.args.before c.in_ok-reached.reached (draft c.args.site c.args.scope c.args.right.now)
    (λ h. nodes.compared (sets c.args.site.context.now) (arrays c.args.site.context.now) c.args.site.context.now.item c.args.at c.args.before c.args.relation (form c.args.left) h)
    c.args.left c.in-Err.fault c.in_ok-reached.ensures c.requires.left c.in-Err.ensures

pub implication-returns-in-Ok : goal.implication-returns-in-Ok
implication-returns-in-Ok t c =
    part-made c.args.site.context.now (maker c.args.site c.args.before (draft c.args.site c.args.scope c.args.premise.now))
    (λ g. implied_maker c.args.site c.args.before g (draft c.args.site c.args.scope c.args.conclusion.now)) c.in-Ok.part c.implied_by.result c.in-Ok.ensures c.implied_by.ensures

pub implication-returns-in-Err : goal.implication-returns-in-Err
implication-returns-in-Err t c =
    refused Form Form (maker c.args.site c.args.before (draft c.args.site c.args.scope c.args.premise.now)) _ c.in-Err.fault c.in-Err.ensures

pub implied_by-returns-in-Ok : goal.implied_by-returns-in-Ok
implied_by-returns-in-Ok t c =
    by.second-made c.args.site.context.now (maker c.args.site) c.args.before c.in_ok-reached.reached (draft c.args.site c.args.scope c.args.conclusion.now)
    (λ h. nodes.implied c.args.site.context.now.item c.args.before (form c.args.premise) h)
    c.args.premise c.in-Ok.part c.implied.result c.in_ok-reached.ensures c.requires.premise c.in-Ok.ensures c.implied.ensures

pub implied_by-returns-in-Err : goal.implied_by-returns-in-Err
implied_by-returns-in-Err t c =
    by.second-refused c.args.site.context.now (maker c.args.site) c.args.before c.in_ok-reached.reached (draft c.args.site c.args.scope c.args.conclusion.now)
    (λ h. nodes.implied c.args.site.context.now.item c.args.before (form c.args.premise) h)
    c.args.premise c.in-Err.fault c.in_ok-reached.ensures c.requires.premise c.in-Err.ensures

pub same_as-returns-in-Ok : goal.same_as-returns-in-Ok
same_as-returns-in-Ok t c =
    by.second-made c.args.site.context.now (maker c.args.site) c.args.before c.in_ok-reached.reached (draft c.args.site c.args.scope c.args.term.now)
    (λ h. nodes.same c.args.site.context.now.item c.args.before (form c.args.part) h)
    c.args.part c.in-Ok.other c.same.result c.in_ok-reached.ensures c.requires.part c.in-Ok.ensures c.same.ensures

pub same_as-returns-in-Err : goal.same_as-returns-in-Err
same_as-returns-in-Err t c =
    by.second-refused c.args.site.context.now (maker c.args.site) c.args.before c.in_ok-reached.reached (draft c.args.site c.args.scope c.args.term.now)
    (λ h. nodes.same c.args.site.context.now.item c.args.before (form c.args.part) h)
    c.args.part c.in-Err.fault c.in_ok-reached.ensures c.requires.part c.in-Err.ensures

-- ---- equivalences

pub same_from-returns-in-Ok : goal.same_from-returns-in-Ok
same_from-returns-in-Ok t c =
    by.first-same c.args.site c.args.before (draft c.args.site c.args.scope c.args.first.now) (drafts c.args.site c.args.scope c.args.others.now) c.in-Ok.part c.same_as_all.result c.in-Ok.ensures c.same_as_all.ensures

pub same_from-returns-in-Err : goal.same_from-returns-in-Err
same_from-returns-in-Err t c =
    by.first-refused c.args.site c.args.before (draft c.args.site c.args.scope c.args.first.now) (drafts c.args.site c.args.scope c.args.others.now) c.in-Err.fault c.in-Err.ensures

pub same_as_all-loop-term-init : goal.same_as_all-loop-term-init
same_as_all-loop-term-init t c = record { same = refl; kept = c.requires.part }

pub same_as_all-loop-term-preserved : goal.same_as_all-loop-term-preserved
same_as_all-loop-term-preserved t c = record {
  same =
      by.same-next c.args.site c.args.before (λ t. draft c.args.site c.args.scope t) c.args.terms.now c.loop-term.term-index (same_maker c.args.site c.args.before (form c.args.part) (drafts c.args.site c.args.scope c.args.terms.now)) c.loop-term.part
      c.loop-term.invariant.same c.term-item.result c.in-Ok.next c.loop-term-test.true c.term-item.is c.in-Ok.ensures;
  kept = c.in-Ok.ensures.is_part;
}

pub same_as_all-returns-in-Err : goal.same_as_all-returns-in-Err
same_as_all-returns-in-Err t c =
    by.same-stop c.args.site c.args.before (λ t. draft c.args.site c.args.scope t) c.args.terms.now c.loop-term.term-index (same_maker c.args.site c.args.before (form c.args.part) (drafts c.args.site c.args.scope c.args.terms.now)) c.loop-term.part
    c.loop-term.invariant.same c.term-item.result c.in-Err.fault c.loop-term-test.true c.term-item.is c.in-Err.ensures

pub same_as_all-returns : goal.same_as_all-returns
same_as_all-returns t c =
    by.same-end c.args.site c.args.before (λ t. draft c.args.site c.args.scope t) c.args.terms.now c.loop-term.term-index (same_maker c.args.site c.args.before (form c.args.part) (drafts c.args.site c.args.scope c.args.terms.now)) c.loop-term.part
    c.loop-term.invariant.same c.loop-term-test.false c.loop-term.invariant.kept

-- ---- parts

pub with_part-returns-in-Ok : goal.with_part-returns-in-Ok
with_part-returns-in-Ok t c =
    by.pushed-made c.args.site.context.now (maker c.args.site) (draft c.args.site c.args.scope c.args.term.now) c.args.parts c.in-Ok.part c.pushed.result
    c.requires.parts c.in-Ok.ensures (c.pushed.ensures c.args.site.context.now c.requires.parts c.in-Ok.ensures.is_part)

pub with_part-returns-in-Err : goal.with_part-returns-in-Err
with_part-returns-in-Err t c =
    by.pushed-refused c.args.site.context.now (maker c.args.site) (draft c.args.site c.args.scope c.args.term.now) c.args.parts c.in-Err.fault c.requires.parts c.in-Err.ensures

pub with_operand-returns-in-Ok : goal.with_operand-returns-in-Ok
with_operand-returns-in-Ok t c =
    by.pushed-made c.args.site.context.now (operand_maker c.args.site) (draft c.args.site c.args.scope c.args.term.now) c.args.parts c.in-Ok.part c.pushed.result
    c.requires.parts c.in-Ok.ensures (c.pushed.ensures c.args.site.context.now c.requires.parts c.in-Ok.ensures.is_part)

pub with_operand-returns-in-Err : goal.with_operand-returns-in-Err
with_operand-returns-in-Err t c =
    by.pushed-refused c.args.site.context.now (operand_maker c.args.site) (draft c.args.site c.args.scope c.args.term.now) c.args.parts c.in-Err.fault c.requires.parts c.in-Err.ensures

pub parts_of-loop-term-init : goal.parts_of-loop-term-init
parts_of-loop-term-init t c =
    loops.so-begin c.args.site.context.now (maker c.args.site) c.args.before c.new-parts.result (drafts c.args.site c.args.scope c.args.terms.now) c.new-parts.ensures.items c.new-parts.ensures.before
    (c.new-parts.ensures.kept c.args.site.context.now)

pub parts_of-loop-term-preserved : goal.parts_of-loop-term-preserved
parts_of-loop-term-preserved t c =
    loops.terms-next c.args.site.context.now (maker c.args.site) c.args.before (onto (maker c.args.site) c.args.before [] (drafts c.args.site c.args.scope c.args.terms.now)) (λ t. draft c.args.site c.args.scope t) c.args.terms.now
    c.loop-term.term-index c.loop-term.parts c.loop-term.invariant c.term-item.result c.in-Ok.next c.loop-term-test.true c.term-item.is c.in-Ok.ensures

pub parts_of-returns-in-Err : goal.parts_of-returns-in-Err
parts_of-returns-in-Err t c =
    loops.terms-stop c.args.site.context.now (maker c.args.site) c.args.before (onto (maker c.args.site) c.args.before [] (drafts c.args.site c.args.scope c.args.terms.now)) (λ t. draft c.args.site c.args.scope t) c.args.terms.now
    c.loop-term.term-index c.loop-term.parts c.loop-term.invariant c.term-item.result c.in-Err.fault c.loop-term-test.true c.term-item.is c.in-Err.ensures

pub parts_of-returns : goal.parts_of-returns
parts_of-returns t c =
    loops.terms-end c.args.site.context.now (maker c.args.site) c.args.before (onto (maker c.args.site) c.args.before [] (drafts c.args.site c.args.scope c.args.terms.now)) (λ t. draft c.args.site c.args.scope t) c.args.terms.now
    c.loop-term.term-index c.loop-term.parts c.loop-term.invariant c.loop-term-test.false

pub disjunction-returns-in-Ok : goal.disjunction-returns-in-Ok
disjunction-returns-in-Ok t c =
    parts-made c.args.site.context.now c.args.before (onto (maker c.args.site) c.args.before [] (drafts c.args.site c.args.scope c.args.terms.now))
    (λ n gs. nodes.one_holds c.args.site.context.now.item n gs) c.in-Ok.parts c.one_holds.result c.in-Ok.ensures c.one_holds.ensures

pub disjunction-returns-in-Err : goal.disjunction-returns-in-Err
disjunction-returns-in-Err t c =
    refused (List Form) Form (onto (maker c.args.site) c.args.before [] (drafts c.args.site c.args.scope c.args.terms.now)) _ c.in-Err.fault c.in-Err.ensures

pub conjunction-returns-in-Ok : goal.conjunction-returns-in-Ok
conjunction-returns-in-Ok t c =
    parts-made c.args.site.context.now c.args.before (onto (maker c.args.site) c.args.before [] (drafts c.args.site c.args.scope c.args.terms.now))
    (λ n gs. nodes.all_hold c.args.site.context.now.item n gs) c.in-Ok.parts c.all_hold.result c.in-Ok.ensures c.all_hold.ensures

pub conjunction-returns-in-Err : goal.conjunction-returns-in-Err
conjunction-returns-in-Err t c =
    refused (List Form) Form (onto (maker c.args.site) c.args.before [] (drafts c.args.site c.args.scope c.args.terms.now)) _ c.in-Err.fault c.in-Err.ensures

-- ---- aggregates

pub with_body-returns : goal.with_body-returns
with_body-returns t c =
    let under : Environment → Made (List Form) = λ e. sites.behind (forms c.args.parts.items) (operand_maker c.args.site (reached c.args.parts) (draft_under c.args.site c.args.body.now e)) in
    forms-same c.args.site.context.now c.args.parts.before (under (within c.args.scope.environment.now c.as_slice.result.now)) (under (latest c.args.choices.now (sees c.args.scope))) c.with_operand.result
    (ap under (ap (within c.args.scope.environment.now) c.as_slice.ensures.value ∙ c.in_ok-parameters.ensures)) c.with_operand.ensures

pub bodies-loop-init : goal.bodies-loop-init
bodies-loop-init t c =
    subst
    (λ (ms : List Met). SoFar c.args.site.context.now (operand_maker c.args.site) c.args.before
    (onto (operand_maker c.args.site) c.args.before [] (map (body_met (items c.args.site) (names c.args.site) c.args.body.now) (met_under (map group_meaning c.args.groups.now) c.args.condition.now (sees c.args.scope))))
    c.new-parts.result (map (body_met (items c.args.site) (names c.args.site) c.args.body.now) ms))
    (sym (c.new-choices.ensures (sees c.args.scope)))
    (loops.so-begin c.args.site.context.now (operand_maker c.args.site) c.args.before c.new-parts.result (map (body_met (items c.args.site) (names c.args.site) c.args.body.now) (met_under (map group_meaning c.args.groups.now) c.args.condition.now (sees c.args.scope)))
    c.new-parts.ensures.items c.new-parts.ensures.before (c.new-parts.ensures.kept c.args.site.context.now))

pub bodies-loop-preserved : goal.bodies-loop-preserved
bodies-loop-preserved t c =
    loops.met-next c.args.site c.args.body.now c.args.before
    (onto (operand_maker c.args.site) c.args.before [] (map (body_met (items c.args.site) (names c.args.site) c.args.body.now) (met_under (map group_meaning c.args.groups.now) c.args.condition.now (sees c.args.scope))))
    (behind c.loop.choices (sees c.args.scope)) c.loop.parts c.loop.invariant (latest c.advance.new.self (sees c.args.scope)) (behind c.advance.new.self (sees c.args.scope)) c.in-Ok.next
    (rw c.if-not-is_met.false at c.in_ok-is_met.ensures) c.in-Ok.ensures

pub bodies-returns-in-Err : goal.bodies-returns-in-Err
bodies-returns-in-Err t c =
    loops.met-stop c.args.site c.args.body.now c.args.before
    (onto (operand_maker c.args.site) c.args.before [] (map (body_met (items c.args.site) (names c.args.site) c.args.body.now) (met_under (map group_meaning c.args.groups.now) c.args.condition.now (sees c.args.scope))))
    (behind c.loop.choices (sees c.args.scope)) c.loop.parts c.loop.invariant (latest c.advance.new.self (sees c.args.scope)) (behind c.advance.new.self (sees c.args.scope)) c.in-Err.fault
    (rw c.if-not-is_met.false at c.in_ok-is_met.ensures) c.in-Err.ensures

pub bodies-returns-then-not-is_met : goal.bodies-returns-then-not-is_met
bodies-returns-then-not-is_met t c =
    loops.met-end c.args.site c.args.body.now c.args.before
    (onto (operand_maker c.args.site) c.args.before [] (map (body_met (items c.args.site) (names c.args.site) c.args.body.now) (met_under (map group_meaning c.args.groups.now) c.args.condition.now (sees c.args.scope))))
    (behind c.loop.choices (sees c.args.scope)) c.loop.parts c.loop.invariant (rw c.if-not-is_met.true at c.in_ok-is_met.ensures)

pub aggregate-returns-in-Ok : goal.aggregate-returns-in-Ok
aggregate-returns-in-Ok t c =
    parts-made c.args.site.context.now c.args.before
    (onto (operand_maker c.args.site) c.args.before [] (map (body_met (items c.args.site) (names c.args.site) c.args.body.now) (met_under (map group_meaning c.args.groups.now) c.args.condition.now (sees c.args.scope))))
    (λ n gs. nodes.aggregated (sets c.args.site.context.now) (arrays c.args.site.context.now) c.args.site.context.now.item c.args.operation c.args.at n gs) c.in-Ok.parts c.aggregated.result c.in-Ok.ensures c.aggregated.ensures

pub aggregate-returns-in-Err : goal.aggregate-returns-in-Err
aggregate-returns-in-Err t c =
    refused (List Form) Form
    (onto (operand_maker c.args.site) c.args.before [] (map (body_met (items c.args.site) (names c.args.site) c.args.body.now) (met_under (map group_meaning c.args.groups.now) c.args.condition.now (sees c.args.scope))))
    _ c.in-Err.fault c.in-Err.ensures

-- ---- chains

pub chain_part-chain_from-requires : goal.chain_part-chain_from-requires
chain_part-chain_from-requires t c = (
  omega arith,
  (
    c.requires,
    (
      c.in-Ok.ensures.are_parts,
      by.chain-some c.args.site.context.now c.args.before (operand_maker c.args.site c.args.before (draft c.args.site c.args.scope c.args.first.now)) c.in-Ok.parts c.in-Ok.ensures,
    ),
  ),
)

pub chain_part-returns-in-Ok : goal.chain_part-returns-in-Ok
chain_part-returns-in-Ok t c =
    by.chain-made c.args.site.context.now c.args.before (operand_maker c.args.site c.args.before (draft c.args.site c.args.scope c.args.first.now))
    (λ n sum. next (steps_maker c.args.site c.args.at n sum (step_drafts c.args.site c.args.scope c.args.steps.now))
    (λ ps. nodes.chained (sets c.args.site.context.now) (arrays c.args.site.context.now) c.args.site.context.now.item c.args.at n ps.0 ps.1))
    c.in-Ok.parts c.chain_from.result c.in-Ok.ensures c.chain_from.ensures

pub chain_part-returns-in-Err : goal.chain_part-returns-in-Err
chain_part-returns-in-Err t c =
    by.chain-refused c.args.site.context.now (operand_maker c.args.site c.args.before (draft c.args.site c.args.scope c.args.first.now)) _ c.in-Err.fault c.in-Err.ensures

pub first_part-returns-in-Ok : goal.first_part-returns-in-Ok
first_part-returns-in-Ok t c =
    by.first-made c.args.site.context.now c.args.before (operand_maker c.args.site c.args.before (draft c.args.site c.args.scope c.args.term.now)) c.in-Ok.part c.new.result c.pushed.result
    c.new.ensures.items c.new.ensures.before c.in-Ok.ensures (c.pushed.ensures c.args.site.context.now (c.new.ensures.kept c.args.site.context.now) c.in-Ok.ensures.is_part)

pub first_part-returns-in-Err : goal.first_part-returns-in-Err
first_part-returns-in-Err t c =
    refused Form (List Form) (operand_maker c.args.site c.args.before (draft c.args.site c.args.scope c.args.term.now)) _ c.in-Err.fault c.in-Err.ensures

pub chain_from-returns-in-Ok : goal.chain_from-returns-in-Ok
chain_from-returns-in-Ok t c sum e =
    by.summed-made c.args.site.context.now c.args.parts.before (steps_maker c.args.site c.args.at c.args.parts.before sum (step_drafts c.args.site c.args.scope c.args.steps.now))
    (λ n g hs. nodes.chained (sets c.args.site.context.now) (arrays c.args.site.context.now) c.args.site.context.now.item c.args.at n g hs) c.in-Ok.parts c.chained.result (c.in-Ok.ensures sum e) c.chained.ensures

pub chain_from-returns-in-Err : goal.chain_from-returns-in-Err
chain_from-returns-in-Err t c sum e =
    refused nodes.Parts Form (steps_maker c.args.site c.args.at c.args.parts.before sum (step_drafts c.args.site c.args.scope c.args.steps.now)) _ c.in-Err.fault (c.in-Err.ensures sum e)

pub signed_step-returns-in-Ok : goal.signed_step-returns-in-Ok
signed_step-returns-in-Ok t c sum e =
    by.step-made c.args.site c.args.at c.draft_place-own.result (signs.sign c.args.sign) (draft c.args.site c.args.scope c.args.inner.now) c.args.parts sum c.requires.parts e c.in-Ok.part c.stepped.result
    (c.draft_place-own.ensures (sees c.args.scope)) c.in-Ok.ensures
    (of-parts c.args.site.context.now c.args.parts.before _ c.stepped.result (c.stepped.ensures sum.0 sum.1 e))

pub signed_step-returns-in-Err : goal.signed_step-returns-in-Err
signed_step-returns-in-Err t c sum e =
    by.step-refused c.args.site c.args.at c.draft_place-own.result (signs.sign c.args.sign) (draft c.args.site c.args.scope c.args.inner.now) c.args.parts sum c.requires.parts e c.in-Err.fault
    (c.draft_place-own.ensures (sees c.args.scope)) c.in-Err.ensures

pub step_taken-returns-in-Plus : goal.step_taken-returns-in-Plus
step_taken-returns-in-Plus t c sum e =
    sum-same c.args.site.context.now c.args.parts.before (step_maker c.args.site c.args.at c.args.parts.before sum (record { sign = plus; operand = draft c.args.site c.args.scope c.in-Plus.inner }))
    (step_maker c.args.site c.args.at c.args.parts.before sum (step_draft c.args.site c.args.scope c.args.step.now)) c.signed_step.result
    (ap (step_maker c.args.site c.args.at c.args.parts.before sum)
    (sym (ap (λ u. step_draft c.args.site c.args.scope u) c.in-Plus.is ∙ (c.drafts_of_steps.ensures (items c.args.site) (names c.args.site) (sees c.args.scope)).plus c.in-Plus.inner)))
    (c.signed_step.ensures sum e)

pub step_taken-returns-in-Minus : goal.step_taken-returns-in-Minus
step_taken-returns-in-Minus t c sum e =
    sum-same c.args.site.context.now c.args.parts.before (step_maker c.args.site c.args.at c.args.parts.before sum (record { sign = minus; operand = draft c.args.site c.args.scope c.in-Minus.inner }))
    (step_maker c.args.site c.args.at c.args.parts.before sum (step_draft c.args.site c.args.scope c.args.step.now)) c.signed_step-in-Minus.result
    (ap (step_maker c.args.site c.args.at c.args.parts.before sum)
    (sym (ap (λ u. step_draft c.args.site c.args.scope u) c.in-Minus.is ∙ (c.drafts_of_steps.ensures (items c.args.site) (names c.args.site) (sees c.args.scope)).minus c.in-Minus.inner)))
    (c.signed_step-in-Minus.ensures sum e)

pub step_taken-returns-in-Times : goal.step_taken-returns-in-Times
step_taken-returns-in-Times t c sum e =
    sum-same c.args.site.context.now c.args.parts.before (step_maker c.args.site c.args.at c.args.parts.before sum (record { sign = times; operand = draft c.args.site c.args.scope c.in-Times.inner }))
    (step_maker c.args.site c.args.at c.args.parts.before sum (step_draft c.args.site c.args.scope c.args.step.now)) c.signed_step-in-Times.result
    (ap (step_maker c.args.site c.args.at c.args.parts.before sum)
    (sym (ap (λ u. step_draft c.args.site c.args.scope u) c.in-Times.is ∙ (c.drafts_of_steps.ensures (items c.args.site) (names c.args.site) (sees c.args.scope)).times c.in-Times.inner)))
    (c.signed_step-in-Times.ensures sum e)

pub step_taken-returns-in-Quotient : goal.step_taken-returns-in-Quotient
step_taken-returns-in-Quotient t c sum e =
    sum-same c.args.site.context.now c.args.parts.before (step_maker c.args.site c.args.at c.args.parts.before sum (record { sign = quotient; operand = draft c.args.site c.args.scope c.in-Quotient.inner }))
    (step_maker c.args.site c.args.at c.args.parts.before sum (step_draft c.args.site c.args.scope c.args.step.now)) c.signed_step-in-Quotient.result
    (ap (step_maker c.args.site c.args.at c.args.parts.before sum)
    (sym (ap (λ u. step_draft c.args.site c.args.scope u) c.in-Quotient.is ∙ (c.drafts_of_steps.ensures (items c.args.site) (names c.args.site) (sees c.args.scope)).quotient c.in-Quotient.inner)))
    (c.signed_step-in-Quotient.ensures sum e)

pub step_taken-returns-in-Remainder : goal.step_taken-returns-in-Remainder
step_taken-returns-in-Remainder t c sum e =
    sum-same c.args.site.context.now c.args.parts.before (step_maker c.args.site c.args.at c.args.parts.before sum (record { sign = remainder; operand = draft c.args.site c.args.scope c.in-Remainder.inner }))
    (step_maker c.args.site c.args.at c.args.parts.before sum (step_draft c.args.site c.args.scope c.args.step.now)) c.signed_step-in-Remainder.result
    (ap (step_maker c.args.site c.args.at c.args.parts.before sum)
    (sym (ap (λ u. step_draft c.args.site c.args.scope u) c.in-Remainder.is ∙ (c.drafts_of_steps.ensures (items c.args.site) (names c.args.site) (sees c.args.scope)).remainder c.in-Remainder.inner)))
    (c.signed_step-in-Remainder.ensures sum e)

pub steps_taken-loop-step-init : goal.steps_taken-loop-step-init
steps_taken-loop-step-init t c = record {
  kept = c.requires.parts;
  some = c.requires.some;
  so = λ sum e. steps.steps-begin c.args.site c.args.at c.args.parts.before sum c.args.parts (step_drafts c.args.site c.args.scope c.args.steps.now) e refl c.requires.parts;
}

pub steps_taken-loop-step-preserved : goal.steps_taken-loop-step-preserved
steps_taken-loop-step-preserved t c =
    let some = c.loop-step.invariant.some in
    let next = c.in-Ok.ensures some.sum some.are_forms in
    record {
      kept = next.are_parts;
      some = record { sum = next.sum; are_forms = next.are_forms };
      so = λ sum e.
          let f : Step → DraftStep = λ u. step_draft c.args.site c.args.scope u in
          let whole : Made nodes.Parts = steps_maker c.args.site c.args.at c.args.parts.before sum (step_drafts c.args.site c.args.scope c.args.steps.now) in
          let so : StepsSoFar c.args.site c.args.at c.args.parts.before whole c.loop-step.parts (map f (drop c.loop-step.step-index c.args.steps.now)) = c.loop-step.invariant.so sum e in
          steps.steps-next c.args.site c.args.at c.args.parts.before whole f c.args.steps.now c.loop-step.step-index c.loop-step.parts so c.step-item.result c.in-Ok.next c.loop-step-test.true c.step-item.is
          (c.in-Ok.ensures (steps.steps-here c.args.site c.args.at c.args.parts.before whole f c.args.steps.now c.loop-step.step-index c.loop-step.parts so c.step-item.result c.loop-step-test.true c.step-item.is).sum
          (steps.steps-here c.args.site c.args.at c.args.parts.before whole f c.args.steps.now c.loop-step.step-index c.loop-step.parts so c.step-item.result c.loop-step-test.true c.step-item.is).are_forms);
    }

pub steps_taken-returns-in-Err : goal.steps_taken-returns-in-Err
steps_taken-returns-in-Err t c sum e =
    let f : Step → DraftStep = λ u. step_draft c.args.site c.args.scope u in
    let whole : Made nodes.Parts = steps_maker c.args.site c.args.at c.args.parts.before sum (step_drafts c.args.site c.args.scope c.args.steps.now) in
    let so : StepsSoFar c.args.site c.args.at c.args.parts.before whole c.loop-step.parts (map f (drop c.loop-step.step-index c.args.steps.now)) = c.loop-step.invariant.so sum e in
    steps.steps-stop c.args.site c.args.at c.args.parts.before whole f c.args.steps.now c.loop-step.step-index c.loop-step.parts so c.step-item.result c.in-Err.fault c.loop-step-test.true c.step-item.is
    (c.in-Err.ensures (steps.steps-here c.args.site c.args.at c.args.parts.before whole f c.args.steps.now c.loop-step.step-index c.loop-step.parts so c.step-item.result c.loop-step-test.true c.step-item.is).sum
    (steps.steps-here c.args.site c.args.at c.args.parts.before whole f c.args.steps.now c.loop-step.step-index c.loop-step.parts so c.step-item.result c.loop-step-test.true c.step-item.is).are_forms)

pub steps_taken-returns : goal.steps_taken-returns
steps_taken-returns t c sum e =
    let f : Step → DraftStep = λ u. step_draft c.args.site c.args.scope u in
    let whole : Made nodes.Parts = steps_maker c.args.site c.args.at c.args.parts.before sum (step_drafts c.args.site c.args.scope c.args.steps.now) in
    steps.steps-end c.args.site c.args.at c.args.parts.before whole f c.args.steps.now c.loop-step.step-index c.loop-step.parts (c.loop-step.invariant.so sum e) c.loop-step-test.false

-- ---- elements

pub element-returns-in-Ok : goal.element-returns-in-Ok
element-returns-in-Ok t c =
    let k : Option ℕ = array_in (items c.args.site) (names c.args.site) c.args.base.now (sees c.args.scope) in
    let ds : List Draft = drafts c.args.site c.args.scope c.args.subscripts.now in
    let F : ℕ → Option ℕ → List ℕ → List Form → Made Form = λ n k ps gs. nodes.indexed (sets c.args.site.context.now) (arrays c.args.site.context.now) c.args.site.context.now.item c.args.at n k (array_of (arrays c.args.site.context.now) k) ps gs in
    makes-same c.args.site.context.now (next (onto (maker c.args.site) c.args.before [] ds) (F c.args.before k c.in_ok-places.places.items)) _ c.indexed.result
    (sym (own-places (sets c.args.site.context.now) (arrays c.args.site.context.now) c.args.site.context.now.item Form c.args.before [] ds c.in_ok-places.places.items (F c.args.before k) (c.in_ok-places.ensures (sees c.args.scope))))
    (parts-made c.args.site.context.now c.args.before (onto (maker c.args.site) c.args.before [] ds) (λ n gs. F n k c.in_ok-places.places.items gs) c.in-Ok.parts c.indexed.result c.in-Ok.ensures
    (subst (λ (j : Option ℕ). Makes c.args.site.context.now (F c.in-Ok.parts.before j c.in_ok-places.places.items (forms c.in-Ok.parts.items)) c.indexed.result) c.in_ok-array.ensures
    (subst (λ (ps : List ℕ). Makes c.args.site.context.now (F c.in-Ok.parts.before c.in_ok-array.array ps (forms c.in-Ok.parts.items)) c.indexed.result) c.as_slice.ensures c.indexed.ensures)))

-- ---- whole expressions

pub call-returns-in-Absolute : goal.call-returns-in-Absolute
call-returns-in-Absolute t c =
    makes-same c.args.site.context.now (maker c.args.site c.args.before (called Absolute c.args.at (draft c.args.site c.args.scope c.args.inner.now))) (maker c.args.site c.args.before (called c.args.operation c.args.at (draft c.args.site c.args.scope c.args.inner.now))) c.absolute_part.result
    (ap (λ op. maker c.args.site c.args.before (called op c.args.at (draft c.args.site c.args.scope c.args.inner.now))) (sym c.in-Absolute.is)) c.absolute_part.ensures

pub call-returns-in-Cardinality : goal.call-returns-in-Cardinality
call-returns-in-Cardinality t c =
    makes-same c.args.site.context.now (maker c.args.site c.args.before (called Cardinality c.args.at (draft c.args.site c.args.scope c.args.inner.now))) (maker c.args.site c.args.before (called c.args.operation c.args.at (draft c.args.site c.args.scope c.args.inner.now))) c.nothing_part.result
    (ap (λ op. maker c.args.site c.args.before (called op c.args.at (draft c.args.site c.args.scope c.args.inner.now))) (sym c.in-Cardinality.is)) c.nothing_part.ensures

pub make-returns-then-is_mentioned : goal.make-returns-then-is_mentioned
make-returns-then-is_mentioned t c =
    makes-same c.args.site.context.now (maker c.args.site c.args.before (live_draft (items c.args.site) (names c.args.site) c.args.term.now (sees c.args.scope))) (maker c.args.site c.args.before (draft c.args.site c.args.scope c.args.term.now)) c.live_part.result
    (ap (maker c.args.site c.args.before) (sym (c.live_drafts.ensures (items c.args.site) (names c.args.site) c.args.term.now (sees c.args.scope) (sym c.is_mentioned.ensures ∙ c.if-is_mentioned.true)))) c.live_part.ensures

pub make-returns-else-is_mentioned : goal.make-returns-else-is_mentioned
make-returns-else-is_mentioned t c =
    makes-same c.args.site.context.now (maker c.args.site c.args.before (value_draft (items c.args.site) (names c.args.site) c.args.term.now (sees c.args.scope))) (maker c.args.site c.args.before (draft c.args.site c.args.scope c.args.term.now)) c.value_part.result
    (ap (maker c.args.site c.args.before) (sym (c.value_drafts.ensures (items c.args.site) (names c.args.site) c.args.term.now (sees c.args.scope) (sym c.is_mentioned.ensures ∙ c.if-is_mentioned.false)))) c.value_part.ensures

pub live_part-returns-in-Number : goal.live_part-returns-in-Number
live_part-returns-in-Number t c =
    let fits : FitsSigned w128 c.in-Number.number = search rules in
    makes-same c.args.site.context.now (maker c.args.site c.args.before (sites.known c.in-Number.at (values.Int (to_z w128 (of_z w128 c.in-Number.number))))) (maker c.args.site c.args.before (live_draft (items c.args.site) (names c.args.site) c.args.term.now (sees c.args.scope))) c.value_node.result
    (ap (λ k. maker c.args.site c.args.before (sites.known c.in-Number.at (values.Int k))) (to_z-of_z w128 c.in-Number.number fits)
    ∙ live.live-Number c.args.site c.args.scope c.args.before c.args.term.now c.in-Number.at c.in-Number.number c.in-Number.is)
    c.value_node.ensures

pub live_part-aggregate-requires : goal.live_part-aggregate-requires
live_part-aggregate-requires t c =
    let smaller : weight c.get-in-Aggregate.result.now + 12 < weight c.args.term.now + 3 =
    aggregate-weighs c.args.term.now c.in-Aggregate.body c.get-in-Aggregate.result.now c.in-Aggregate.at c.in-Aggregate.operation c.in-Aggregate.groups c.in-Aggregate.condition c.in-Aggregate.is c.get-in-Aggregate.ensures in
    (omega (arith, smaller, c.decreases), c.requires)

pub live_part-returns-in-Named : goal.live_part-returns-in-Named
live_part-returns-in-Named t c =
    makes-same c.args.site.context.now _ (maker c.args.site c.args.before (live_draft (items c.args.site) (names c.args.site) c.args.term.now (sees c.args.scope))) c.named_part.result
    (live.live-Named c.args.site c.args.scope c.args.before c.args.term.now c.in-Named.at c.in-Named.name c.as_slice.result.now c.in-Named.is c.as_slice.ensures) c.named_part.ensures

pub live_part-returns-in-Bracket : goal.live_part-returns-in-Bracket
live_part-returns-in-Bracket t c =
    makes-same c.args.site.context.now _ (maker c.args.site c.args.before (live_draft (items c.args.site) (names c.args.site) c.args.term.now (sees c.args.scope))) c.make.result
    (live.live-Bracket c.args.site c.args.scope c.args.before c.args.term.now c.in-Bracket.field-0 c.in-Bracket.inner c.get.result.now c.in-Bracket.is c.get.ensures) c.make.ensures

pub live_part-returns-in-Negative : goal.live_part-returns-in-Negative
live_part-returns-in-Negative t c =
    makes-same c.args.site.context.now _ (maker c.args.site c.args.before (live_draft (items c.args.site) (names c.args.site) c.args.term.now (sees c.args.scope))) c.negative_part.result
    (live.live-Negative c.args.site c.args.scope c.args.before c.args.term.now c.in-Negative.at c.in-Negative.inner c.get-in-Negative.result.now c.in-Negative.is c.get-in-Negative.ensures) c.negative_part.ensures

pub live_part-returns-in-Chain : goal.live_part-returns-in-Chain
live_part-returns-in-Chain t c =
    makes-same c.args.site.context.now _ (maker c.args.site c.args.before (live_draft (items c.args.site) (names c.args.site) c.args.term.now (sees c.args.scope))) c.chain_part.result
    (live.live-Chain c.args.site c.args.scope c.args.before c.args.term.now c.in-Chain.at c.in-Chain.first c.get-in-Chain.result.now c.in-Chain.steps c.as_slice-in-Chain.result.now c.in-Chain.is c.get-in-Chain.ensures c.as_slice-in-Chain.ensures) c.chain_part.ensures

pub live_part-returns-in-Related : goal.live_part-returns-in-Related
live_part-returns-in-Related t c =
    makes-same c.args.site.context.now _ (maker c.args.site c.args.before (live_draft (items c.args.site) (names c.args.site) c.args.term.now (sees c.args.scope))) c.comparison.result
    (live.live-Related c.args.site c.args.scope c.args.before c.args.term.now c.in-Related.at c.in-Related.left c.get-in-Related.result.now c.in-Related.relation c.in-Related.right c.get-in-Related-2.result.now c.in-Related.is c.get-in-Related.ensures c.get-in-Related-2.ensures) c.comparison.ensures

pub live_part-returns-in-Equivalent : goal.live_part-returns-in-Equivalent
live_part-returns-in-Equivalent t c =
    makes-same c.args.site.context.now _ (maker c.args.site c.args.before (live_draft (items c.args.site) (names c.args.site) c.args.term.now (sees c.args.scope))) c.equivalence.result
    (live.live-Equivalent c.args.site c.args.scope c.args.before c.args.term.now c.in-Equivalent.field-0 c.in-Equivalent.terms c.as_slice-in-Equivalent.result.now c.in-Equivalent.is c.as_slice-in-Equivalent.ensures) c.equivalence.ensures

pub live_part-returns-in-Implied : goal.live_part-returns-in-Implied
live_part-returns-in-Implied t c =
    makes-same c.args.site.context.now _ (maker c.args.site c.args.before (live_draft (items c.args.site) (names c.args.site) c.args.term.now (sees c.args.scope))) c.implication.result
    (live.live-Implied c.args.site c.args.scope c.args.before c.args.term.now c.in-Implied.field-0 c.in-Implied.premise c.get-in-Implied.result.now c.in-Implied.conclusion c.get-in-Implied-2.result.now c.in-Implied.is c.get-in-Implied.ensures c.get-in-Implied-2.ensures) c.implication.ensures

pub live_part-returns-in-Or : goal.live_part-returns-in-Or
live_part-returns-in-Or t c =
    makes-same c.args.site.context.now _ (maker c.args.site c.args.before (live_draft (items c.args.site) (names c.args.site) c.args.term.now (sees c.args.scope))) c.disjunction.result
    (live.live-Or c.args.site c.args.scope c.args.before c.args.term.now c.made_onto.ensures c.in-Or.field-0 c.in-Or.terms c.as_slice-in-Or.result.now c.in-Or.is c.as_slice-in-Or.ensures) c.disjunction.ensures

pub live_part-returns-in-And : goal.live_part-returns-in-And
live_part-returns-in-And t c =
    makes-same c.args.site.context.now _ (maker c.args.site c.args.before (live_draft (items c.args.site) (names c.args.site) c.args.term.now (sees c.args.scope))) c.conjunction.result
    (live.live-And c.args.site c.args.scope c.args.before c.args.term.now c.made_onto.ensures c.in-And.field-0 c.in-And.terms c.as_slice-in-And.result.now c.in-And.is c.as_slice-in-And.ensures) c.conjunction.ensures

pub live_part-returns-in-Not : goal.live_part-returns-in-Not
live_part-returns-in-Not t c =
    makes-same c.args.site.context.now _ (maker c.args.site c.args.before (live_draft (items c.args.site) (names c.args.site) c.args.term.now (sees c.args.scope))) c.negation.result
    (live.live-Not c.args.site c.args.scope c.args.before c.args.term.now c.in-Not.field-0 c.in-Not.inner c.get-in-Not.result.now c.in-Not.is c.get-in-Not.ensures) c.negation.ensures

pub live_part-returns-in-Aggregate : goal.live_part-returns-in-Aggregate
live_part-returns-in-Aggregate t c =
    makes-same c.args.site.context.now _ (maker c.args.site c.args.before (live_draft (items c.args.site) (names c.args.site) c.args.term.now (sees c.args.scope))) c.aggregate.result
    (live.live-Aggregate c.args.site c.args.scope c.args.before c.args.term.now c.aggregates_by_choice.ensures c.in-Aggregate.at c.in-Aggregate.operation c.in-Aggregate.groups c.as_slice-in-Aggregate.result.now c.in-Aggregate.condition c.in-Aggregate.body c.get-in-Aggregate.result.now c.in-Aggregate.is c.as_slice-in-Aggregate.ensures c.get-in-Aggregate.ensures) c.aggregate.ensures

pub live_part-returns-in-Call : goal.live_part-returns-in-Call
live_part-returns-in-Call t c =
    makes-same c.args.site.context.now _ (maker c.args.site c.args.before (live_draft (items c.args.site) (names c.args.site) c.args.term.now (sees c.args.scope))) c.call.result
    (live.live-Call c.args.site c.args.scope c.args.before c.args.term.now c.in-Call.at c.in-Call.operation c.in-Call.inner c.get-in-Call.result.now c.in-Call.is c.get-in-Call.ensures) c.call.ensures

pub live_part-returns-in-AllDifferent : goal.live_part-returns-in-AllDifferent
live_part-returns-in-AllDifferent t c =
    makes-same c.args.site.context.now _ (maker c.args.site c.args.before (live_draft (items c.args.site) (names c.args.site) c.args.term.now (sees c.args.scope))) c.difference.result
    (live.live-AllDifferent c.args.site c.args.scope c.args.before c.args.term.now c.in-AllDifferent.at c.in-AllDifferent.array c.get-in-AllDifferent.result.now c.in-AllDifferent.is c.get-in-AllDifferent.ensures) c.difference.ensures

pub live_part-returns-in-Element : goal.live_part-returns-in-Element
live_part-returns-in-Element t c =
    makes-same c.args.site.context.now _ (maker c.args.site c.args.before (live_draft (items c.args.site) (names c.args.site) c.args.term.now (sees c.args.scope))) c.element.result
    (live.live-Element c.args.site c.args.scope c.args.before c.args.term.now c.made_onto.ensures c.in-Element.at c.in-Element.base c.get-in-Element.result.now c.in-Element.subscripts c.as_slice-in-Element.result.now c.in-Element.is c.get-in-Element.ensures c.as_slice-in-Element.ensures) c.element.ensures
