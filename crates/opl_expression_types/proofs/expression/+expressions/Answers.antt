use Rattle.std.proofs.Common.{Err, Ok, Some, [], ap, arith, drop, map, refl, subst, sym, ◌++◌, ◌+◌, ◌∙◌, ◌∷◌}
use Rattle.std.proofs.lemmas.Grind.{common_steps}
use Rattle.std.specs.Option.{option_map}
use Rattle.opl_expression_types.proofs.Loops.{back_alone, back_made, back_wrong, chain_made, chain_wrong, first_fault, first_typed, front_wrong, none_left, pairs_end, parts_end}
use Rattle.opl_expression_types.proofs.Opening.{condition_added, condition_refused, described_through, ended_with, group_fault, group_here, group_made, group_opened, groups_begin, groups_end, link_added, link_fault, link_wrong, no_condition, params_fault, post_fault, suffix_added, suffix_element, suffix_fault, suffix_field, suffixes_end, wrongly}
use Rattle.opl_expression_types.proofs.Found.{cell_refused, first_kept, first_refused, key_refused, last_kept, last_refused, pair_kept, part_kept, part_refused, through, through_part}
use Rattle.opl_expression_types.proofs.Typing.{rules_of_forms, rules_of_pairs, rules_of_parts, rules_of_sets, typing-arithmetic, typing-connected}
use Rattle.opl_expression_types.specs.Values.{opened_in}
use Rattle.opl_tree.specs.declared.expression.CompareTree.TheViews.{out-AddTree, out-AndTree, out-ExprTree, out-GroupStep, out-GroupTree, out-KeyedTree, out-LastStep, out-OrTree, out-ParamsTree, out-PostTree, out-SubscriptsTree}
use Rattle.opl_type_rules.proofs.Chains.{gives-same}
use Rattle.opl_type_rules.proofs.Forms.{add_forms, add_step_forms, and_forms, compare_forms, expr_forms, form_add-is, form_and-is, form_expr-is, form_group-is, form_group_step-is, form_keyed-is, form_last_step-is, form_mul-Product, form_or-is, form_params-is, form_post-is, form_subscripts-is, form_suffix-Field, form_suffix-Subscripts, group_forms, imp_forms, keyed_forms, mul_forms, mul_step_forms, neg_forms, open_forms, or_forms, params_forms, post_forms, prim_forms, set_forms, sign_forms, suffix_forms}
use Rattle.opl_type_rules.proofs.Steps.{typing-suffixes}
use Rattle.opl_type_rules.specs.Expressions.{all_sorts, data_number, kinds, made, node, open_groups, open_params, part, typed_parts, typing}
use Rattle.opl_type_rules.specs.Expressions.Need.{data_alone}
use Rattle.opl_type_rules.specs.Forms.{form_add, form_add_step, form_and, form_expr, form_group, form_group_step, form_imp, form_keyed, form_last_step, form_mul, form_mul_step, form_neg, form_open, form_or, form_params, form_post, form_prim, form_set, form_sign, form_subscripts, form_suffix, forms_of, groups_of, or_none}
use Rattle.opl_type_rules.specs.Forms.Form.{arithmetic, connected}
use Rattle.opl_type_rules.specs.Scope.{and_then}
use Rattle.opl_type_rules.specs.Steps.{open_each, suffixed}
use Rattle.opl_type_rules.specs.Types.{is_number, is_truth, sort}
use Rattle.opl_type_rules.specs.Types.Sort.{bool, int}
use Rattle.opl_type_rules.specs.Values.{Gives, chained, need_of, node_of, within}
use Rattle.opl_expression_types.proofs.expression.+expressions.Goals as goal

pub expr-returns-in_err-parts : goal.expr-returns-in_err-parts
expr-returns-in_err-parts t c =
    let h = chain_wrong (within c.args.model.now c.args.locals.now) (connected (out-ExprTree c.args.t.now).at) (λ ns. made (out-ExprTree c.args.t.now).at bool ns (all_sorts is_truth ns)) (typing-connected _ (out-ExprTree c.args.t.now).at) (form_expr c.args.t.now) (form_imp (out-ExprTree c.args.t.now).first) (map form_imp (out-ExprTree c.args.t.now).rest) (map form_imp c.as_slice.result.now) (form_expr-is c.args.t.now) (ap (map form_imp) c.as_slice.ensures) (none_left form_imp (out-ExprTree c.args.t.now).rest c.if-is_empty.ensures.1) c.in_ok-first.first c.in_ok-first.ensures c.in_err-parts.field-0.0 c.in_err-parts.ensures in
    grind (arith)

pub expr-returns : goal.expr-returns
expr-returns t c =
    chain_made (within c.args.model.now c.args.locals.now) (connected (out-ExprTree c.args.t.now).at) (λ ns. made (out-ExprTree c.args.t.now).at bool ns (all_sorts is_truth ns)) (typing-connected _ (out-ExprTree c.args.t.now).at) (form_expr c.args.t.now) (form_imp (out-ExprTree c.args.t.now).first) (map form_imp (out-ExprTree c.args.t.now).rest) (map form_imp c.as_slice.result.now) (form_expr-is c.args.t.now) (ap (map form_imp) c.as_slice.ensures) (none_left form_imp (out-ExprTree c.args.t.now).rest c.if-is_empty.ensures.1) c.in_ok-first.first c.in_ok-first.ensures c.in_ok-parts.parts c.in_ok-parts.ensures c.connected.result c.connected.ensures

pub imps-loop-t-preserved : goal.imps-loop-t-preserved
imps-loop-t-preserved t c =
    part_kept (within c.args.model.now c.args.locals.now) form_imp _ c.args.rest.now c.loop-t.t-index c.loop-t.found c.loop-t.invariant c.t-item.result c.loop-t-test.true c.t-item.is c.imp.result c.add_part.new.parts (c.imp.ensures, c.in_ok-add_part.ensures)

pub imps-returns : goal.imps-returns
imps-returns t c =
    parts_end (within c.args.model.now c.args.locals.now) form_imp _ c.args.rest.now c.loop-t.t-index c.loop-t.found c.loop-t.invariant c.loop-t-test.false

pub or-returns-in_err-parts : goal.or-returns-in_err-parts
or-returns-in_err-parts t c =
    let h = chain_wrong (within c.args.model.now c.args.locals.now) (connected (out-OrTree c.args.t.now).at) (λ ns. made (out-OrTree c.args.t.now).at bool ns (all_sorts is_truth ns)) (typing-connected _ (out-OrTree c.args.t.now).at) (form_or c.args.t.now) (form_and (out-OrTree c.args.t.now).first) (map form_and (out-OrTree c.args.t.now).rest) (map form_and c.as_slice.result.now) (form_or-is c.args.t.now) (ap (map form_and) c.as_slice.ensures) (none_left form_and (out-OrTree c.args.t.now).rest c.if-is_empty.ensures.1) c.in_ok-first.first c.in_ok-first.ensures c.in_err-parts.field-0.0 c.in_err-parts.ensures in
    grind (arith)

pub or-returns : goal.or-returns
or-returns t c =
    chain_made (within c.args.model.now c.args.locals.now) (connected (out-OrTree c.args.t.now).at) (λ ns. made (out-OrTree c.args.t.now).at bool ns (all_sorts is_truth ns)) (typing-connected _ (out-OrTree c.args.t.now).at) (form_or c.args.t.now) (form_and (out-OrTree c.args.t.now).first) (map form_and (out-OrTree c.args.t.now).rest) (map form_and c.as_slice.result.now) (form_or-is c.args.t.now) (ap (map form_and) c.as_slice.ensures) (none_left form_and (out-OrTree c.args.t.now).rest c.if-is_empty.ensures.1) c.in_ok-first.first c.in_ok-first.ensures c.in_ok-parts.parts c.in_ok-parts.ensures c.connected.result c.connected.ensures

pub ands-loop-t-preserved : goal.ands-loop-t-preserved
ands-loop-t-preserved t c =
    part_kept (within c.args.model.now c.args.locals.now) form_and _ c.args.rest.now c.loop-t.t-index c.loop-t.found c.loop-t.invariant c.t-item.result c.loop-t-test.true c.t-item.is c.and.result c.add_part.new.parts (c.and.ensures, c.in_ok-add_part.ensures)

pub ands-returns : goal.ands-returns
ands-returns t c =
    parts_end (within c.args.model.now c.args.locals.now) form_and _ c.args.rest.now c.loop-t.t-index c.loop-t.found c.loop-t.invariant c.loop-t-test.false

pub and-returns-in_err-parts : goal.and-returns-in_err-parts
and-returns-in_err-parts t c =
    let h = chain_wrong (within c.args.model.now c.args.locals.now) (connected (out-AndTree c.args.t.now).at) (λ ns. made (out-AndTree c.args.t.now).at bool ns (all_sorts is_truth ns)) (typing-connected _ (out-AndTree c.args.t.now).at) (form_and c.args.t.now) (form_neg (out-AndTree c.args.t.now).first) (map form_neg (out-AndTree c.args.t.now).rest) (map form_neg c.as_slice.result.now) (form_and-is c.args.t.now) (ap (map form_neg) c.as_slice.ensures) (none_left form_neg (out-AndTree c.args.t.now).rest c.if-is_empty.ensures.1) c.in_ok-first.first c.in_ok-first.ensures c.in_err-parts.field-0.0 c.in_err-parts.ensures in
    grind (arith)

pub and-returns : goal.and-returns
and-returns t c =
    chain_made (within c.args.model.now c.args.locals.now) (connected (out-AndTree c.args.t.now).at) (λ ns. made (out-AndTree c.args.t.now).at bool ns (all_sorts is_truth ns)) (typing-connected _ (out-AndTree c.args.t.now).at) (form_and c.args.t.now) (form_neg (out-AndTree c.args.t.now).first) (map form_neg (out-AndTree c.args.t.now).rest) (map form_neg c.as_slice.result.now) (form_and-is c.args.t.now) (ap (map form_neg) c.as_slice.ensures) (none_left form_neg (out-AndTree c.args.t.now).rest c.if-is_empty.ensures.1) c.in_ok-first.first c.in_ok-first.ensures c.in_ok-parts.parts c.in_ok-parts.ensures c.connected.result c.connected.ensures

pub negs-loop-t-preserved : goal.negs-loop-t-preserved
negs-loop-t-preserved t c =
    part_kept (within c.args.model.now c.args.locals.now) form_neg _ c.args.rest.now c.loop-t.t-index c.loop-t.found c.loop-t.invariant c.t-item.result c.loop-t-test.true c.t-item.is c.neg.result c.add_part.new.parts (c.neg.ensures, c.in_ok-add_part.ensures)

pub negs-returns : goal.negs-returns
negs-returns t c =
    parts_end (within c.args.model.now c.args.locals.now) form_neg _ c.args.rest.now c.loop-t.t-index c.loop-t.found c.loop-t.invariant c.loop-t-test.false

pub add-returns-in_err-parts : goal.add-returns-in_err-parts
add-returns-in_err-parts t c =
    let h = chain_wrong (within c.args.model.now c.args.locals.now) (arithmetic (out-AddTree c.args.t.now).at) (λ ns. made (out-AddTree c.args.t.now).at int ns (all_sorts is_number ns)) (typing-arithmetic _ (out-AddTree c.args.t.now).at) (form_add c.args.t.now) (form_mul (out-AddTree c.args.t.now).first) (map form_add_step (out-AddTree c.args.t.now).rest) (map form_add_step c.as_slice.result.now) (form_add-is c.args.t.now) (ap (map form_add_step) c.as_slice.ensures) (none_left form_add_step (out-AddTree c.args.t.now).rest c.if-is_empty.ensures.1) c.in_ok-first.first c.in_ok-first.ensures c.in_err-parts.field-0.0 c.in_err-parts.ensures in
    grind (arith)

pub add-returns : goal.add-returns
add-returns t c =
    chain_made (within c.args.model.now c.args.locals.now) (arithmetic (out-AddTree c.args.t.now).at) (λ ns. made (out-AddTree c.args.t.now).at int ns (all_sorts is_number ns)) (typing-arithmetic _ (out-AddTree c.args.t.now).at) (form_add c.args.t.now) (form_mul (out-AddTree c.args.t.now).first) (map form_add_step (out-AddTree c.args.t.now).rest) (map form_add_step c.as_slice.result.now) (form_add-is c.args.t.now) (ap (map form_add_step) c.as_slice.ensures) (none_left form_add_step (out-AddTree c.args.t.now).rest c.if-is_empty.ensures.1) c.in_ok-first.first c.in_ok-first.ensures c.in_ok-parts.parts c.in_ok-parts.ensures c.arithmetic.result c.arithmetic.ensures

pub add_steps-loop-t-preserved : goal.add_steps-loop-t-preserved
add_steps-loop-t-preserved t c =
    part_kept (within c.args.model.now c.args.locals.now) form_add_step _ c.args.rest.now c.loop-t.t-index c.loop-t.found c.loop-t.invariant c.t-item.result c.loop-t-test.true c.t-item.is c.add_step.result c.add_part.new.parts (c.add_step.ensures, c.in_ok-add_part.ensures)

pub add_steps-returns : goal.add_steps-returns
add_steps-returns t c =
    parts_end (within c.args.model.now c.args.locals.now) form_add_step _ c.args.rest.now c.loop-t.t-index c.loop-t.found c.loop-t.invariant c.loop-t-test.false

pub mul-returns-in_err-parts-in-Product : goal.mul-returns-in_err-parts-in-Product
mul-returns-in_err-parts-in-Product t c =
    let h = front_wrong (within c.args.model.now c.args.locals.now) (arithmetic c.in-Product.at) (λ ns. made c.in-Product.at int ns (all_sorts is_number ns)) (typing-arithmetic _ c.in-Product.at) (form_mul c.args.t.now) (form_sign c.in-Product.first) (map form_mul_step c.in-Product.steps) (map form_mul_step c.as_slice-in-Product.result.now) (or_none (option_map form_last_step c.in-Product.last)) (ap form_mul c.in-Product.is ∙ form_mul-Product c.in-Product.at c.in-Product.first c.in-Product.steps c.in-Product.last) (ap (map form_mul_step) c.as_slice-in-Product.ensures) (λ e. c.if-is_alone.ensures.1 (ap (λ ss. map form_mul_step ss ++ or_none (option_map form_last_step c.in-Product.last)) c.as_slice.ensures ∙ e)) c.in_ok-first-in-Product.first c.in_ok-first-in-Product.ensures c.in_err-parts-in-Product.field-0.0 c.in_err-parts-in-Product.ensures in
    grind (arith)

pub mul-returns-in-None : goal.mul-returns-in-None
mul-returns-in-None t c =
    let a = c.in-None.is in
    back_alone (within c.args.model.now c.args.locals.now) (arithmetic c.in-Product.at) (λ ns. made c.in-Product.at int ns (all_sorts is_number ns)) (typing-arithmetic _ c.in-Product.at) (form_mul c.args.t.now) (form_sign c.in-Product.first) (map form_mul_step c.in-Product.steps) (map form_mul_step c.as_slice-in-Product.result.now) (or_none (option_map form_last_step c.in-Product.last)) (ap form_mul c.in-Product.is ∙ form_mul-Product c.in-Product.at c.in-Product.first c.in-Product.steps c.in-Product.last) (ap (map form_mul_step) c.as_slice-in-Product.ensures) (λ e. c.if-is_alone.ensures.1 (ap (λ ss. map form_mul_step ss ++ or_none (option_map form_last_step c.in-Product.last)) c.as_slice.ensures ∙ e)) c.in_ok-first-in-Product.first c.in_ok-first-in-Product.ensures c.in_ok-parts-in-Product.parts c.in_ok-parts-in-Product.ensures (ap (λ o. or_none (option_map form_last_step o)) c.in-None.is) c.arithmetic.result c.arithmetic.ensures

pub mul-returns-in_err-all-in-Some : goal.mul-returns-in_err-all-in-Some
mul-returns-in_err-all-in-Some t c =
    let h = back_wrong (within c.args.model.now c.args.locals.now) (arithmetic c.in-Product.at) (λ ns. made c.in-Product.at int ns (all_sorts is_number ns)) (typing-arithmetic _ c.in-Product.at) (form_mul c.args.t.now) (form_sign c.in-Product.first) (map form_mul_step c.in-Product.steps) (map form_mul_step c.as_slice-in-Product.result.now) (or_none (option_map form_last_step c.in-Product.last)) (ap form_mul c.in-Product.is ∙ form_mul-Product c.in-Product.at c.in-Product.first c.in-Product.steps c.in-Product.last) (ap (map form_mul_step) c.as_slice-in-Product.ensures) (λ e. c.if-is_alone.ensures.1 (ap (λ ss. map form_mul_step ss ++ or_none (option_map form_last_step c.in-Product.last)) c.as_slice.ensures ∙ e)) c.in_ok-first-in-Product.first c.in_ok-first-in-Product.ensures c.in_ok-parts-in-Product.parts c.in_ok-parts-in-Product.ensures c.in_err-all-in-Some.field-0.0
    (gives-same (map node_of) (and_then (typed_parts (within c.args.model.now c.args.locals.now) (forms_of (or_none (option_map form_last_step c.in-Product.last)))) (λ ns. Ok (map node_of c.in_ok-parts-in-Product.parts ++ ns))) _ (Err c.in_err-all-in-Some.field-0.0)
    (ap (λ gs. and_then (typed_parts (within c.args.model.now c.args.locals.now) (forms_of gs)) (λ ns. Ok (map node_of c.in_ok-parts-in-Product.parts ++ ns))) (ap (λ o. or_none (option_map form_last_step o)) c.in-Some.is))
    c.in_err-all-in-Some.ensures) in
    grind (arith)

pub mul-returns-in_ok-all-in-Some : goal.mul-returns-in_ok-all-in-Some
mul-returns-in_ok-all-in-Some t c =
    back_made (within c.args.model.now c.args.locals.now) (arithmetic c.in-Product.at) (λ ns. made c.in-Product.at int ns (all_sorts is_number ns)) (typing-arithmetic _ c.in-Product.at) (form_mul c.args.t.now) (form_sign c.in-Product.first) (map form_mul_step c.in-Product.steps) (map form_mul_step c.as_slice-in-Product.result.now) (or_none (option_map form_last_step c.in-Product.last)) (ap form_mul c.in-Product.is ∙ form_mul-Product c.in-Product.at c.in-Product.first c.in-Product.steps c.in-Product.last) (ap (map form_mul_step) c.as_slice-in-Product.ensures) (λ e. c.if-is_alone.ensures.1 (ap (λ ss. map form_mul_step ss ++ or_none (option_map form_last_step c.in-Product.last)) c.as_slice.ensures ∙ e)) c.in_ok-first-in-Product.first c.in_ok-first-in-Product.ensures c.in_ok-parts-in-Product.parts c.in_ok-parts-in-Product.ensures c.in_ok-all-in-Some.all
    (ap (λ gs. and_then (typed_parts (within c.args.model.now c.args.locals.now) (forms_of gs)) (λ ns. Ok (map node_of c.in_ok-parts-in-Product.parts ++ ns))) (ap (λ o. or_none (option_map form_last_step o)) c.in-Some.is) ∙ c.in_ok-all-in-Some.ensures)
    c.arithmetic-in-Some.result c.arithmetic-in-Some.ensures

pub with_last-returns : goal.with_last-returns
with_last-returns t c =
    last_kept (within c.args.model.now c.args.locals.now) _ c.args.parts (form_open (out-LastStep c.args.last.now).factor) (ap (λ f. and_then (typed_parts (within c.args.model.now c.args.locals.now) (forms_of (f ∷ []))) (λ ns. Ok (map node_of c.args.parts ++ ns))) (form_last_step-is c.args.last.now)) c.open.result c.add_part.new.parts (c.open.ensures, c.in_ok-add_part.ensures)

pub mul_steps-loop-t-preserved : goal.mul_steps-loop-t-preserved
mul_steps-loop-t-preserved t c =
    part_kept (within c.args.model.now c.args.locals.now) form_mul_step _ c.args.rest.now c.loop-t.t-index c.loop-t.found c.loop-t.invariant c.t-item.result c.loop-t-test.true c.t-item.is c.mul_step.result c.add_part.new.parts (c.mul_step.ensures, c.in_ok-add_part.ensures)

pub mul_steps-returns : goal.mul_steps-returns
mul_steps-returns t c =
    parts_end (within c.args.model.now c.args.locals.now) form_mul_step _ c.args.rest.now c.loop-t.t-index c.loop-t.found c.loop-t.invariant c.loop-t-test.false

pub post-returns-in_err-first : goal.post-returns-in_err-first
post-returns-in_err-first t c =
    let h = post_fault (within c.args.model.now c.args.locals.now) (out-PostTree c.args.t.now).at (form_post c.args.t.now) (form_prim (out-PostTree c.args.t.now).prim) (map form_suffix (out-PostTree c.args.t.now).suffixes) (form_post-is c.args.t.now) c.in_err-first.field-0.0 c.in_err-first.ensures in
    grind (arith)

pub post-loop-suffix-init : goal.post-loop-suffix-init
post-loop-suffix-init t c =
    ap (typing (within c.args.model.now c.args.locals.now)) (form_post-is c.args.t.now) ∙ typing-suffixes (within c.args.model.now c.args.locals.now) (out-PostTree c.args.t.now).at (form_prim (out-PostTree c.args.t.now).prim) (map form_suffix (out-PostTree c.args.t.now).suffixes)
    ∙ ap (λ d. suffixed (within c.args.model.now c.args.locals.now) (out-PostTree c.args.t.now).at d (map form_suffix (out-PostTree c.args.t.now).suffixes)) (c.in_ok-first.ensures ∙ ap (λ n. Ok n) (sym c.begun-chain.ensures))
    ∙ ap (λ ss. suffixed (within c.args.model.now c.args.locals.now) (out-PostTree c.args.t.now).at (Ok (chained c.begun-chain.result)) (map form_suffix ss)) (sym c.as_slice-suffix-items.ensures)

pub post-returns-in_err-base : goal.post-returns-in_err-base
post-returns-in_err-base t c =
    let h = suffix_fault (within c.args.model.now c.args.locals.now) (out-PostTree c.args.t.now).at form_suffix (typing (within c.args.model.now c.args.locals.now) (form_post c.args.t.now)) c.as_slice-suffix-items.result.now c.loop-suffix.suffix-index (chained c.loop-suffix.chain) c.loop-suffix.invariant c.suffix-item.result c.loop-suffix-test.true c.suffix-item.is c.in_err-base.field-0.0 (link_wrong (within c.args.model.now c.args.locals.now) (out-PostTree c.args.t.now).at c.loop-suffix.chain (form_suffix c.suffix-item.result) c.bare.result c.bare.ensures c.in_err-base.field-0.0 c.in_err-base.ensures) in
    grind (arith)

pub post-returns-in_err-next : goal.post-returns-in_err-next
post-returns-in_err-next t c =
    let h = suffix_fault (within c.args.model.now c.args.locals.now) (out-PostTree c.args.t.now).at form_suffix (typing (within c.args.model.now c.args.locals.now) (form_post c.args.t.now)) c.as_slice-suffix-items.result.now c.loop-suffix.suffix-index (chained c.loop-suffix.chain) c.loop-suffix.invariant c.suffix-item.result c.loop-suffix-test.true c.suffix-item.is c.in_err-next.field-0.0 (link_fault (within c.args.model.now c.args.locals.now) (out-PostTree c.args.t.now).at c.loop-suffix.chain (form_suffix c.suffix-item.result) c.bare.result c.bare.ensures c.in_ok-base.base c.in_ok-base.ensures c.in_err-next.field-0.0 c.in_err-next.ensures) in
    grind (arith)

pub post-loop-suffix-preserved : goal.post-loop-suffix-preserved
post-loop-suffix-preserved t c =
    suffix_added (within c.args.model.now c.args.locals.now) (out-PostTree c.args.t.now).at form_suffix (typing (within c.args.model.now c.args.locals.now) (form_post c.args.t.now)) c.as_slice-suffix-items.result.now c.loop-suffix.suffix-index (chained c.loop-suffix.chain) c.loop-suffix.invariant c.suffix-item.result c.loop-suffix-test.true c.suffix-item.is (chained c.in_ok-chain.chain) (link_added (within c.args.model.now c.args.locals.now) (out-PostTree c.args.t.now).at c.loop-suffix.chain (form_suffix c.suffix-item.result) c.bare.result c.bare.ensures c.in_ok-base.base c.in_ok-base.ensures c.in_ok-next.next c.in_ok-next.ensures (Ok c.in_ok-chain.chain) c.in_ok-chain.ensures)

pub post-returns : goal.post-returns
post-returns t c =
    ended_with (typing (within c.args.model.now c.args.locals.now) (form_post c.args.t.now)) (chained c.loop-suffix.chain) (suffixes_end (within c.args.model.now c.args.locals.now) (out-PostTree c.args.t.now).at form_suffix (typing (within c.args.model.now c.args.locals.now) (form_post c.args.t.now)) c.as_slice-suffix-items.result.now c.loop-suffix.suffix-index (chained c.loop-suffix.chain) c.loop-suffix.invariant c.loop-suffix-test.false) c.ended.result c.ended.ensures

pub with_suffix-returns-in_ok-parts-in-Subscripts : goal.with_suffix-returns-in_ok-parts-in-Subscripts
with_suffix-returns-in_ok-parts-in-Subscripts t c =
    let a = c.in-Subscripts.is in
    suffix_element c.args.model.now c.args.locals.now c.args.at c.args.base (form_suffix c.args.suffix.now) (form_subscripts _) (ap form_suffix c.in-Subscripts.is ∙ form_suffix-Subscripts _) c.in_ok-parts-in-Subscripts.parts c.in_ok-parts-in-Subscripts.ensures c.element.result c.element.ensures

pub with_suffix-returns-in-Field : goal.with_suffix-returns-in-Field
with_suffix-returns-in-Field t c =
    let a = c.in-Field.is in
    suffix_field c.args.model.now c.args.locals.now c.args.at c.args.base (form_suffix c.args.suffix.now) _ (ap form_suffix c.in-Field.is ∙ form_suffix-Field _ _) c.field.result c.field.ensures

pub subscripts-returns-in_err-first : goal.subscripts-returns-in_err-first
subscripts-returns-in_err-first t c =
    let h = first_fault (within c.args.model.now c.args.locals.now) form_add (form_subscripts c.args.t.now) (form_add c.get.result.now) (out-SubscriptsTree c.args.t.now).rest (out-SubscriptsTree c.args.t.now).rest (form_subscripts-is c.args.t.now ∙ ap (λ x. form_add x ∷ map form_add (out-SubscriptsTree c.args.t.now).rest) (sym c.get.ensures)) c.in_err-first.field-0.0 c.in_err-first.ensures in
    grind (arith)

pub subscripts-returns : goal.subscripts-returns
subscripts-returns t c =
    gives-same (map node_of) (typed_parts (within c.args.model.now c.args.locals.now) (forms_of (form_subscripts c.args.t.now))) _ c.adds.result
    (first_typed (within c.args.model.now c.args.locals.now) form_add (form_subscripts c.args.t.now) (form_add c.get.result.now) (out-SubscriptsTree c.args.t.now).rest c.as_slice.result.now (form_subscripts-is c.args.t.now ∙ ap (λ x. form_add x ∷ map form_add (out-SubscriptsTree c.args.t.now).rest) (sym c.get.ensures)) c.as_slice.ensures c.in_ok-first.first c.in_ok-first.ensures)
    c.adds.ensures

pub adds-loop-t-preserved : goal.adds-loop-t-preserved
adds-loop-t-preserved t c =
    part_kept (within c.args.model.now c.args.locals.now) form_add _ c.args.rest.now c.loop-t.t-index c.loop-t.found c.loop-t.invariant c.t-item.result c.loop-t-test.true c.t-item.is c.add.result c.add_part.new.parts (c.add.ensures, c.in_ok-add_part.ensures)

pub adds-returns : goal.adds-returns
adds-returns t c =
    parts_end (within c.args.model.now c.args.locals.now) form_add _ c.args.rest.now c.loop-t.t-index c.loop-t.found c.loop-t.invariant c.loop-t-test.false

pub all_adds-loop-t-preserved : goal.all_adds-loop-t-preserved
all_adds-loop-t-preserved t c =
    part_kept (within c.args.model.now c.args.locals.now) form_add _ c.args.parts.now c.loop-t.t-index c.loop-t.found c.loop-t.invariant c.t-item.result c.loop-t-test.true c.t-item.is c.add.result c.add_part.new.parts (c.add.ensures, c.in_ok-add_part.ensures)

pub all_adds-returns : goal.all_adds-returns
all_adds-returns t c =
    parts_end (within c.args.model.now c.args.locals.now) form_add _ c.args.parts.now c.loop-t.t-index c.loop-t.found c.loop-t.invariant c.loop-t-test.false

pub pairs-loop-t-preserved : goal.pairs-loop-t-preserved
pairs-loop-t-preserved t c =
    pair_kept (within c.args.model.now c.args.locals.now) form_keyed _ c.args.parts.now c.loop-t.t-index c.loop-t.found c.loop-t.invariant c.t-item.result c.loop-t-test.true c.t-item.is (form_add (out-KeyedTree c.t-item.result).key) (form_add (out-KeyedTree c.t-item.result).value) (form_keyed-is c.t-item.result) c.add.result c.add_part.new.parts (c.add.ensures, c.in_ok-add_part.ensures) c.add-in-loop-t.result c.add_part-in-loop-t.new.parts (c.add-in-loop-t.ensures, c.in_ok-add_part-2.ensures)

pub pairs-returns : goal.pairs-returns
pairs-returns t c =
    pairs_end (within c.args.model.now c.args.locals.now) form_keyed _ c.args.parts.now c.loop-t.t-index c.loop-t.found c.loop-t.invariant c.loop-t-test.false

pub described_set-returns-in-Ok : goal.described_set-returns-in-Ok
described_set-returns-in-Ok t c =
    described_through (within c.args.model.now c.args.locals.now) c.args.at (form_add c.args.value.now) (form_params c.args.params.now) (opened_in c.args.model.now c.in-Ok.opened) (subst (Gives (opened_in c.args.model.now) (open_params data_alone (within c.args.model.now c.args.locals.now) (form_params c.args.params.now))) c.in-Ok.is c.requires) (within c.args.model.now c.in-Ok.opened.locals) refl c.add.result c.shown.result c.add.ensures c.shown.ensures

pub described_set-returns-else-is_memory : goal.described_set-returns-else-is_memory
described_set-returns-else-is_memory t c =
    wrongly (opened_in c.args.model.now) (within c.args.model.now c.args.locals.now) c.args.at (form_add c.args.value.now) (form_params c.args.params.now) c.in-Err.fault (subst (Gives (opened_in c.args.model.now) (open_params data_alone (within c.args.model.now c.args.locals.now) (form_params c.args.params.now))) c.in-Err.is c.requires) c.if-is_memory.ensures.1 c.wrongly_described.result c.wrongly_described.ensures

pub open_group-returns : goal.open_group-returns
open_group-returns t c =
    group_made c.args.model.now c.args.opened.now.locals c.args.opened.now.kinds (form_group c.args.t.now) (out-GroupTree c.args.t.now).first (out-GroupTree c.args.t.now).rest (form_set (out-GroupTree c.args.t.now).set) (form_group-is c.args.t.now)
    c.args.opened.now.locals refl c.as_slice.result.now c.as_slice.ensures c.in_ok-all_fresh.ensures
    c.args.opened.now.locals refl c.in_ok-over.over c.in_ok-over.ensures
    c.get.result.now (ap sort c.get.ensures ∙ c.in_ok-element.ensures)
    c.in_ok-kinds_in.field-0 c.in_ok-kinds_in.ensures c.append.new.front c.in_ok-append.ensures
    c.as_slice-2.result.now c.as_slice-2.ensures c.bind_patterns.new.locals c.in_ok-bind_patterns.ensures

pub open_groups-returns-in_err-open_group : goal.open_groups-returns-in_err-open_group
open_groups-returns-in_err-open_group t c =
    let h = group_fault (λ (u : Unit {0}). opened_in c.args.model.now c.open_group.new.opened) (opened_in c.args.model.now) (open_groups (within c.args.model.now c.args.locals.now) (groups_of (form_group (out-ParamsTree c.args.t.now).first ∷ map form_group_step (out-ParamsTree c.args.t.now).rest))) (opened_in c.args.model.now (record { locals = c.in_ok-copied.field-0; kinds = c.new.result })) (form_group (out-ParamsTree c.args.t.now).first) (map form_group_step (out-ParamsTree c.args.t.now).rest) (groups_begin c.args.model.now c.args.locals.now c.in_ok-copied.field-0 c.new.result c.in_ok-copied.ensures c.new.ensures (form_group (out-ParamsTree c.args.t.now).first ∷ map form_group_step (out-ParamsTree c.args.t.now).rest)) c.in_err-open_group.field-0.0 c.in_err-open_group.ensures in
    grind (arith)

pub open_groups-loop-step-init : goal.open_groups-loop-step-init
open_groups-loop-step-init t c =
    group_opened (open_groups (within c.args.model.now c.args.locals.now) (groups_of (form_group (out-ParamsTree c.args.t.now).first ∷ map form_group_step (out-ParamsTree c.args.t.now).rest))) (opened_in c.args.model.now (record { locals = c.in_ok-copied.field-0; kinds = c.new.result })) (form_group (out-ParamsTree c.args.t.now).first) (map form_group_step (out-ParamsTree c.args.t.now).rest) (groups_begin c.args.model.now c.args.locals.now c.in_ok-copied.field-0 c.new.result c.in_ok-copied.ensures c.new.ensures (form_group (out-ParamsTree c.args.t.now).first ∷ map form_group_step (out-ParamsTree c.args.t.now).rest)) (opened_in c.args.model.now c.open_group.new.opened) c.in_ok-open_group.ensures
    ∙ ap (λ ss. open_each (opened_in c.args.model.now c.open_group.new.opened) (map form_group_step ss)) (sym c.as_slice-step-items.ensures)

pub open_groups-returns-in_err-open_group-2 : goal.open_groups-returns-in_err-open_group-2
open_groups-returns-in_err-open_group-2 t c =
    let h = group_fault (λ (u : Unit {0}). opened_in c.args.model.now c.open_group-in-loop-step.new.opened) (opened_in c.args.model.now) (open_groups (within c.args.model.now c.args.locals.now) (groups_of (form_group (out-ParamsTree c.args.t.now).first ∷ map form_group_step (out-ParamsTree c.args.t.now).rest))) (opened_in c.args.model.now c.loop-step.opened) (form_group (out-GroupStep c.step-item.result).group) (map form_group_step (drop (c.loop-step.step-index + 1) c.as_slice-step-items.result.now)) (group_here form_group_step (open_groups (within c.args.model.now c.args.locals.now) (groups_of (form_group (out-ParamsTree c.args.t.now).first ∷ map form_group_step (out-ParamsTree c.args.t.now).rest))) (opened_in c.args.model.now c.loop-step.opened) c.as_slice-step-items.result.now c.loop-step.step-index c.loop-step.invariant c.step-item.result c.loop-step-test.true c.step-item.is (form_group (out-GroupStep c.step-item.result).group) (form_group_step-is c.step-item.result)) c.in_err-open_group-2.field-0.0 c.in_err-open_group-2.ensures in
    grind (arith)

pub open_groups-loop-step-preserved : goal.open_groups-loop-step-preserved
open_groups-loop-step-preserved t c =
    group_opened (open_groups (within c.args.model.now c.args.locals.now) (groups_of (form_group (out-ParamsTree c.args.t.now).first ∷ map form_group_step (out-ParamsTree c.args.t.now).rest))) (opened_in c.args.model.now c.loop-step.opened) (form_group (out-GroupStep c.step-item.result).group) (map form_group_step (drop (c.loop-step.step-index + 1) c.as_slice-step-items.result.now)) (group_here form_group_step (open_groups (within c.args.model.now c.args.locals.now) (groups_of (form_group (out-ParamsTree c.args.t.now).first ∷ map form_group_step (out-ParamsTree c.args.t.now).rest))) (opened_in c.args.model.now c.loop-step.opened) c.as_slice-step-items.result.now c.loop-step.step-index c.loop-step.invariant c.step-item.result c.loop-step-test.true c.step-item.is (form_group (out-GroupStep c.step-item.result).group) (form_group_step-is c.step-item.result)) (opened_in c.args.model.now c.open_group-in-loop-step.new.opened) c.in_ok-open_group-2.ensures

pub open_groups-returns : goal.open_groups-returns
open_groups-returns t c =
    groups_end form_group_step (open_groups (within c.args.model.now c.args.locals.now) (groups_of (form_group (out-ParamsTree c.args.t.now).first ∷ map form_group_step (out-ParamsTree c.args.t.now).rest))) (opened_in c.args.model.now c.loop-step.opened) c.as_slice-step-items.result.now c.loop-step.step-index c.loop-step.invariant c.loop-step-test.false

pub open_params-returns-in_err-opened : goal.open_params-returns-in_err-opened
open_params-returns-in_err-opened t c =
    let h = params_fault (opened_in c.args.model.now) (within c.args.model.now c.args.locals.now) (need_of c.args.need) (form_params c.args.t.now) (form_group (out-ParamsTree c.args.t.now).first ∷ map form_group_step (out-ParamsTree c.args.t.now).rest) (form_group (out-ParamsTree c.args.t.now).first ∷ map form_group_step (out-ParamsTree c.args.t.now).rest) (option_map form_expr (out-ParamsTree c.args.t.now).condition) (form_params-is c.args.t.now) refl c.in_err-opened.field-0.0 c.in_err-opened.ensures in
    grind (arith)

pub open_params-returns-in-None : goal.open_params-returns-in-None
open_params-returns-in-None t c =
    no_condition (within c.args.model.now c.args.locals.now) (need_of c.args.need) (form_params c.args.t.now) (form_group (out-ParamsTree c.args.t.now).first ∷ map form_group_step (out-ParamsTree c.args.t.now).rest) (form_group (out-ParamsTree c.args.t.now).first ∷ map form_group_step (out-ParamsTree c.args.t.now).rest) (option_map form_expr (out-ParamsTree c.args.t.now).condition) (form_params-is c.args.t.now) refl (ap (option_map form_expr) c.in-None.is) (opened_in c.args.model.now c.in_ok-opened.opened) c.in_ok-opened.ensures

pub open_params-returns-in_err-add_condition-in-Some : goal.open_params-returns-in_err-add_condition-in-Some
open_params-returns-in_err-add_condition-in-Some t c =
    let h = condition_refused (within c.args.model.now c.args.locals.now) (need_of c.args.need) (form_params c.args.t.now) (form_group (out-ParamsTree c.args.t.now).first ∷ map form_group_step (out-ParamsTree c.args.t.now).rest) (form_group (out-ParamsTree c.args.t.now).first ∷ map form_group_step (out-ParamsTree c.args.t.now).rest) (option_map form_expr (out-ParamsTree c.args.t.now).condition) (form_params-is c.args.t.now) refl (form_expr c.get.result.now) (ap (option_map form_expr) c.in-Some.is ∙ ap (λ x. Some (form_expr x)) (sym c.get.ensures)) (opened_in c.args.model.now c.in_ok-opened.opened) c.in_ok-opened.ensures (within c.args.model.now c.in_ok-opened.opened.locals) refl c.expr.result c.expr.ensures c.add_condition.new.kinds (opened_in c.args.model.now) c.in_err-add_condition-in-Some.field-0.0 c.in_err-add_condition-in-Some.ensures in
    grind (arith)

pub open_params-returns-in_ok-add_condition-in-Some : goal.open_params-returns-in_ok-add_condition-in-Some
open_params-returns-in_ok-add_condition-in-Some t c =
    condition_added (within c.args.model.now c.args.locals.now) (need_of c.args.need) (form_params c.args.t.now) (form_group (out-ParamsTree c.args.t.now).first ∷ map form_group_step (out-ParamsTree c.args.t.now).rest) (form_group (out-ParamsTree c.args.t.now).first ∷ map form_group_step (out-ParamsTree c.args.t.now).rest) (option_map form_expr (out-ParamsTree c.args.t.now).condition) (form_params-is c.args.t.now) refl (form_expr c.get.result.now) (ap (option_map form_expr) c.in-Some.is ∙ ap (λ x. Some (form_expr x)) (sym c.get.ensures)) (opened_in c.args.model.now c.in_ok-opened.opened) c.in_ok-opened.ensures (within c.args.model.now c.in_ok-opened.opened.locals) refl c.expr.result c.expr.ensures c.add_condition.new.kinds c.in_ok-add_condition-in-Some.ensures

pub expr-returns-in_err-first : goal.expr-returns-in_err-first
expr-returns-in_err-first t c = grind (arith, expr_forms, rules_of_forms, rules_of_parts)

pub expr-returns-then-is_empty : goal.expr-returns-then-is_empty
expr-returns-then-is_empty t c = grind (arith, expr_forms, rules_of_forms, rules_of_parts)

pub imp-returns-in_err-premise : goal.imp-returns-in_err-premise
imp-returns-in_err-premise t c = grind (arith, imp_forms, rules_of_forms, rules_of_parts)

pub imp-returns-in-None : goal.imp-returns-in-None
imp-returns-in-None t c = grind (arith, imp_forms, rules_of_forms, rules_of_parts)

pub imp-returns-in_err-premise-in-Some : goal.imp-returns-in_err-premise-in-Some
imp-returns-in_err-premise-in-Some t c = grind (arith, imp_forms, rules_of_forms, rules_of_parts)

pub imp-returns-in_err-conclusion-in-Some : goal.imp-returns-in_err-conclusion-in-Some
imp-returns-in_err-conclusion-in-Some t c =
    let h = through node_of _ part c.imp.result (Err c.in_err-conclusion-in-Some.field-0.0) c.imp.ensures c.in_err-conclusion-in-Some.ensures in
    grind (arith, imp_forms, rules_of_forms, rules_of_parts)

pub imp-returns-in_ok-two-in-Some : goal.imp-returns-in_ok-two-in-Some
imp-returns-in_ok-two-in-Some t c =
    let h = through node_of _ part c.imp.result (Ok c.in_ok-conclusion-in-Some.conclusion) c.imp.ensures c.in_ok-conclusion-in-Some.ensures in
    grind (arith, imp_forms, rules_of_forms, rules_of_parts)

pub or-returns-in_err-first : goal.or-returns-in_err-first
or-returns-in_err-first t c = grind (arith, or_forms, rules_of_forms, rules_of_parts)

pub or-returns-then-is_empty : goal.or-returns-then-is_empty
or-returns-then-is_empty t c = grind (arith, or_forms, rules_of_forms, rules_of_parts)

pub and-returns-in_err-first : goal.and-returns-in_err-first
and-returns-in_err-first t c = grind (arith, and_forms, rules_of_forms, rules_of_parts)

pub and-returns-then-is_empty : goal.and-returns-then-is_empty
and-returns-then-is_empty t c = grind (arith, and_forms, rules_of_forms, rules_of_parts)

pub neg-returns-in_err-inner-in-Not : goal.neg-returns-in_err-inner-in-Not
neg-returns-in_err-inner-in-Not t c =
    let h = through node_of _ part c.neg.result (Err c.in_err-inner-in-Not.field-0.0) c.neg.ensures c.in_err-inner-in-Not.ensures in
    grind (arith, neg_forms, rules_of_forms, rules_of_parts)

pub neg-returns-in_ok-one-in-Not : goal.neg-returns-in_ok-one-in-Not
neg-returns-in_ok-one-in-Not t c =
    let h = through node_of _ part c.neg.result (Ok c.in_ok-inner-in-Not.inner) c.neg.ensures c.in_ok-inner-in-Not.ensures in
    grind (arith, neg_forms, rules_of_forms, rules_of_parts)

pub neg-returns-in-Compare : goal.neg-returns-in-Compare
neg-returns-in-Compare t c = grind (arith, neg_forms, rules_of_forms, rules_of_parts)

pub compare-returns-in-Single : goal.compare-returns-in-Single
compare-returns-in-Single t c = grind (arith, compare_forms, rules_of_forms, rules_of_parts)

pub compare-returns-in_err-left-in-Related : goal.compare-returns-in_err-left-in-Related
compare-returns-in_err-left-in-Related t c =
    let h = through node_of _ part c.add-in-Related.result (Err c.in_err-left-in-Related.field-0.0) c.add-in-Related.ensures c.in_err-left-in-Related.ensures in
    grind (arith, compare_forms, rules_of_forms, rules_of_parts)

pub compare-returns-in_err-right-in-Related : goal.compare-returns-in_err-right-in-Related
compare-returns-in_err-right-in-Related t c =
    let h = through node_of _ part c.add-in-Related.result (Ok c.in_ok-left-in-Related.left) c.add-in-Related.ensures c.in_ok-left-in-Related.ensures in
    let g = through node_of _ part c.add-in-Related-2.result (Err c.in_err-right-in-Related.field-0.0) c.add-in-Related-2.ensures c.in_err-right-in-Related.ensures in
    grind (arith, compare_forms, rules_of_forms, rules_of_parts)

pub compare-returns-in_ok-right-in-Related : goal.compare-returns-in_ok-right-in-Related
compare-returns-in_ok-right-in-Related t c =
    let h = through node_of _ part c.add-in-Related.result (Ok c.in_ok-left-in-Related.left) c.add-in-Related.ensures c.in_ok-left-in-Related.ensures in
    let g = through node_of _ part c.add-in-Related-2.result (Ok c.in_ok-right-in-Related.right) c.add-in-Related-2.ensures c.in_ok-right-in-Related.ensures in
    grind (arith, compare_forms, rules_of_forms, rules_of_parts)

pub compare-returns-in_err-value-in-Member : goal.compare-returns-in_err-value-in-Member
compare-returns-in_err-value-in-Member t c =
    let h = through node_of _ part c.add-in-Member.result (Err c.in_err-value-in-Member.field-0.0) c.add-in-Member.ensures c.in_err-value-in-Member.ensures in
    grind (arith, compare_forms, rules_of_forms, rules_of_parts)

pub compare-returns-in_err-over-in-Member : goal.compare-returns-in_err-over-in-Member
compare-returns-in_err-over-in-Member t c =
    let h = through node_of _ part c.add-in-Member.result (Ok c.in_ok-value-in-Member.value) c.add-in-Member.ensures c.in_ok-value-in-Member.ensures in
    grind (arith, compare_forms, rules_of_forms, rules_of_parts)

pub compare-returns-in_ok-over-in-Member : goal.compare-returns-in_ok-over-in-Member
compare-returns-in_ok-over-in-Member t c =
    let h = through node_of _ part c.add-in-Member.result (Ok c.in_ok-value-in-Member.value) c.add-in-Member.ensures c.in_ok-value-in-Member.ensures in
    grind (arith, compare_forms, rules_of_forms, rules_of_parts)

pub add-returns-in_err-first : goal.add-returns-in_err-first
add-returns-in_err-first t c = grind (arith, add_forms, rules_of_forms, rules_of_parts)

pub add-returns-then-is_empty : goal.add-returns-then-is_empty
add-returns-then-is_empty t c = grind (arith, add_forms, rules_of_forms, rules_of_parts)

pub add_step-returns : goal.add_step-returns
add_step-returns t c = grind (arith, add_step_forms)

pub mul-returns-in-Opened : goal.mul-returns-in-Opened
mul-returns-in-Opened t c = grind (arith, mul_forms, rules_of_forms, rules_of_parts)

pub mul-returns-in_err-first-in-Product : goal.mul-returns-in_err-first-in-Product
mul-returns-in_err-first-in-Product t c = grind (arith, mul_forms, rules_of_forms, rules_of_parts)

pub mul-returns-then-is_alone : goal.mul-returns-then-is_alone
mul-returns-then-is_alone t c = grind (arith, mul_forms, rules_of_forms, rules_of_parts)

pub mul_step-returns : goal.mul_step-returns
mul_step-returns t c = grind (arith, mul_step_forms)

pub open-returns-in-NegativeOpen : goal.open-returns-in-NegativeOpen
open-returns-in-NegativeOpen t c =
    let h = through_part node_of _ (λ n. Ok (made c.in-NegativeOpen.at int (n ∷ []) (is_number n.sort))) c.open.result c.signed.result c.open.ensures c.signed.ensures in
    grind (arith, open_forms, rules_of_forms, rules_of_parts)

pub open-returns-in_err-opened-in-Aggregate : goal.open-returns-in_err-opened-in-Aggregate
open-returns-in_err-opened-in-Aggregate t c = grind (arith, open_forms, rules_of_forms, rules_of_parts)

pub open-returns-in_ok-opened-in-Aggregate : goal.open-returns-in_ok-opened-in-Aggregate
open-returns-in_ok-opened-in-Aggregate t c =
    let h = through_part node_of _ (λ n. Ok (node c.in-Aggregate.at int (n ∷ []) (is_number n.sort) (map sort c.in_ok-opened-in-Aggregate.opened.kinds ++ kinds n))) c.mul.result c.summed.result c.mul.ensures c.summed.ensures in
    grind (arith, open_forms, rules_of_forms, rules_of_parts)

pub sign-returns-in-Negative : goal.sign-returns-in-Negative
sign-returns-in-Negative t c =
    let h = through_part node_of _ (λ n. Ok (made c.in-Negative.at int (n ∷ []) (is_number n.sort))) c.sign.result c.signed.result c.sign.ensures c.signed.ensures in
    grind (arith, sign_forms, rules_of_forms, rules_of_parts)

pub sign-returns-in-Postfix : goal.sign-returns-in-Postfix
sign-returns-in-Postfix t c = grind (arith, sign_forms, rules_of_forms, rules_of_parts)

pub set_of_member-returns-in_err-only-in-None : goal.set_of_member-returns-in_err-only-in-None
set_of_member-returns-in_err-only-in-None t c =
    let h = through node_of _ part c.add.result (Err c.in_err-only-in-None.field-0.0) c.add.ensures c.in_err-only-in-None.ensures in
    grind (arith, set_forms, rules_of_sets)

pub set_of_member-returns-in_ok-only-in-None : goal.set_of_member-returns-in_ok-only-in-None
set_of_member-returns-in_ok-only-in-None t c =
    let h = through node_of _ part c.add.result (Ok c.in_ok-only-in-None.only) c.add.ensures c.in_ok-only-in-None.ensures in
    grind (arith, set_forms, rules_of_sets)

pub set_of_member-returns-in_err-low-in-Some : goal.set_of_member-returns-in_err-low-in-Some
set_of_member-returns-in_err-low-in-Some t c =
    let h = through node_of _ data_number c.add-in-Some.result (Err c.in_err-low-in-Some.field-0.0) c.add-in-Some.ensures c.in_err-low-in-Some.ensures in
    grind (arith, set_forms, rules_of_sets)

pub set_of_member-returns-in_err-high-in-Some : goal.set_of_member-returns-in_err-high-in-Some
set_of_member-returns-in_err-high-in-Some t c =
    let h = through node_of _ data_number c.add-in-Some.result (Ok c.in_ok-low-in-Some.low) c.add-in-Some.ensures c.in_ok-low-in-Some.ensures in
    let g = through node_of _ data_number c.add-in-Some-2.result (Err c.in_err-high-in-Some.field-0.0) c.add-in-Some-2.ensures c.in_err-high-in-Some.ensures in
    grind (arith, set_forms, rules_of_sets)

pub set_of_member-returns-in_ok-high-in-Some : goal.set_of_member-returns-in_ok-high-in-Some
set_of_member-returns-in_ok-high-in-Some t c =
    let h = through node_of _ data_number c.add-in-Some.result (Ok c.in_ok-low-in-Some.low) c.add-in-Some.ensures c.in_ok-low-in-Some.ensures in
    let g = through node_of _ data_number c.add-in-Some-2.result (Ok c.in_ok-high-in-Some.high) c.add-in-Some-2.ensures c.in_ok-high-in-Some.ensures in
    grind (arith, set_forms, rules_of_sets)

pub set-returns-in_err-only-in-None : goal.set-returns-in_err-only-in-None
set-returns-in_err-only-in-None t c = grind (arith, set_forms, rules_of_sets)

pub set-returns-in_err-settled-in-None : goal.set-returns-in_err-settled-in-None
set-returns-in_err-settled-in-None t c = grind (arith, set_forms, rules_of_sets)

pub set-returns-in_ok-settled-in-None : goal.set-returns-in_ok-settled-in-None
set-returns-in_ok-settled-in-None t c = grind (arith, set_forms, rules_of_sets)

pub set-returns-in_err-low-in-Some : goal.set-returns-in_err-low-in-Some
set-returns-in_err-low-in-Some t c =
    let h = through node_of _ data_number c.add-in-Some.result (Err c.in_err-low-in-Some.field-0.0) c.add-in-Some.ensures c.in_err-low-in-Some.ensures in
    grind (arith, set_forms, rules_of_sets)

pub set-returns-in_err-high-in-Some : goal.set-returns-in_err-high-in-Some
set-returns-in_err-high-in-Some t c =
    let h = through node_of _ data_number c.add-in-Some.result (Ok c.in_ok-low-in-Some.low) c.add-in-Some.ensures c.in_ok-low-in-Some.ensures in
    let g = through node_of _ data_number c.add-in-Some-2.result (Err c.in_err-high-in-Some.field-0.0) c.add-in-Some-2.ensures c.in_err-high-in-Some.ensures in
    grind (arith, set_forms, rules_of_sets)

pub set-returns-in_ok-high-in-Some : goal.set-returns-in_ok-high-in-Some
set-returns-in_ok-high-in-Some t c =
    let h = through node_of _ data_number c.add-in-Some.result (Ok c.in_ok-low-in-Some.low) c.add-in-Some.ensures c.in_ok-low-in-Some.ensures in
    let g = through node_of _ data_number c.add-in-Some-2.result (Ok c.in_ok-high-in-Some.high) c.add-in-Some-2.ensures c.in_ok-high-in-Some.ensures in
    grind (arith, set_forms, rules_of_sets)

pub prim-returns-in-Number : goal.prim-returns-in-Number
prim-returns-in-Number t c = grind (arith, prim_forms, rules_of_forms, rules_of_parts)

pub prim-returns-in-Named : goal.prim-returns-in-Named
prim-returns-in-Named t c = grind (arith, prim_forms, rules_of_forms, rules_of_parts)

pub prim-returns-in_err-inner-in-Bracket : goal.prim-returns-in_err-inner-in-Bracket
prim-returns-in_err-inner-in-Bracket t c =
    let h = through node_of _ part c.expr.result (Err c.in_err-inner-in-Bracket.field-0.0) c.expr.ensures c.in_err-inner-in-Bracket.ensures in
    grind (arith, prim_forms, rules_of_forms, rules_of_parts)

pub prim-returns-in_ok-inner-in-Bracket : goal.prim-returns-in_ok-inner-in-Bracket
prim-returns-in_ok-inner-in-Bracket t c =
    let h = through node_of _ part c.expr.result (Ok c.in_ok-inner-in-Bracket.inner) c.expr.ensures c.in_ok-inner-in-Bracket.ensures in
    grind (arith, prim_forms, rules_of_forms, rules_of_parts)

pub prim-returns-in_err-first-in-Record : goal.prim-returns-in_err-first-in-Record
prim-returns-in_err-first-in-Record t c = grind (arith, prim_forms, rules_of_forms, rules_of_parts)

pub prim-returns-in_err-parts-in-Record : goal.prim-returns-in_err-parts-in-Record
prim-returns-in_err-parts-in-Record t c = grind (arith, prim_forms, rules_of_forms, rules_of_parts)

pub prim-returns-in_ok-parts-in-Record : goal.prim-returns-in_ok-parts-in-Record
prim-returns-in_ok-parts-in-Record t c = grind (arith, prim_forms, rules_of_forms, rules_of_parts)

pub prim-returns-in_err-parts-in-Listed : goal.prim-returns-in_err-parts-in-Listed
prim-returns-in_err-parts-in-Listed t c = grind (arith, prim_forms, rules_of_forms, rules_of_parts)

pub prim-returns-in_ok-parts-in-Listed : goal.prim-returns-in_ok-parts-in-Listed
prim-returns-in_ok-parts-in-Listed t c = grind (arith, prim_forms, rules_of_forms, rules_of_parts)

pub prim-returns-in-Described : goal.prim-returns-in-Described
prim-returns-in-Described t c = grind (arith, prim_forms, rules_of_forms, rules_of_parts)

pub prim-returns-in_err-parts-in-Array : goal.prim-returns-in_err-parts-in-Array
prim-returns-in_err-parts-in-Array t c = grind (arith, prim_forms, rules_of_forms, rules_of_parts)

pub prim-returns-in_ok-parts-in-Array : goal.prim-returns-in_ok-parts-in-Array
prim-returns-in_ok-parts-in-Array t c = grind (arith, prim_forms, rules_of_forms, rules_of_parts)

pub prim-returns-in_err-parts-in-KeyedArray : goal.prim-returns-in_err-parts-in-KeyedArray
prim-returns-in_err-parts-in-KeyedArray t c = grind (arith, prim_forms, rules_of_forms, rules_of_parts)

pub prim-returns-in_ok-parts-in-KeyedArray : goal.prim-returns-in_ok-parts-in-KeyedArray
prim-returns-in_ok-parts-in-KeyedArray t c = grind (arith, prim_forms, rules_of_forms, rules_of_parts)

pub prim-returns-in_err-argument-in-Call : goal.prim-returns-in_err-argument-in-Call
prim-returns-in_err-argument-in-Call t c =
    let h = through node_of _ part c.expr-in-Call.result (Err c.in_err-argument-in-Call.field-0.0) c.expr-in-Call.ensures c.in_err-argument-in-Call.ensures in
    grind (arith, prim_forms, rules_of_forms, rules_of_parts)

pub prim-returns-in_ok-argument-in-Call : goal.prim-returns-in_ok-argument-in-Call
prim-returns-in_ok-argument-in-Call t c =
    let h = through node_of _ part c.expr-in-Call.result (Ok c.in_ok-argument-in-Call.argument) c.expr-in-Call.ensures c.in_ok-argument-in-Call.ensures in
    grind (arith, prim_forms, rules_of_forms, rules_of_parts)

pub prim-returns-in_err-argument-in-AllDifferent : goal.prim-returns-in_err-argument-in-AllDifferent
prim-returns-in_err-argument-in-AllDifferent t c =
    let h = through node_of _ part c.add-in-AllDifferent.result (Err c.in_err-argument-in-AllDifferent.field-0.0) c.add-in-AllDifferent.ensures c.in_err-argument-in-AllDifferent.ensures in
    grind (arith, prim_forms, rules_of_forms, rules_of_parts)

pub prim-returns-in_ok-argument-in-AllDifferent : goal.prim-returns-in_ok-argument-in-AllDifferent
prim-returns-in_ok-argument-in-AllDifferent t c =
    let h = through node_of _ part c.add-in-AllDifferent.result (Ok c.in_ok-argument-in-AllDifferent.argument) c.add-in-AllDifferent.ensures c.in_ok-argument-in-AllDifferent.ensures in
    grind (arith, prim_forms, rules_of_forms, rules_of_parts)

pub prim-returns-in_err-argument-in-Question : goal.prim-returns-in_err-argument-in-Question
prim-returns-in_err-argument-in-Question t c =
    let h = through node_of _ part c.post.result (Err c.in_err-argument-in-Question.field-0.0) c.post.ensures c.in_err-argument-in-Question.ensures in
    grind (arith, prim_forms, rules_of_forms, rules_of_parts)

pub prim-returns-in_ok-argument-in-Question : goal.prim-returns-in_ok-argument-in-Question
prim-returns-in_ok-argument-in-Question t c =
    let h = through node_of _ part c.post.result (Ok c.in_ok-argument-in-Question.argument) c.post.ensures c.in_ok-argument-in-Question.ensures in
    grind (arith, prim_forms, rules_of_forms, rules_of_parts)

pub add_steps-loop-t-init : goal.add_steps-loop-t-init
add_steps-loop-t-init t c =
    let h = first_kept (part (node_of c.args.first)) (typed_parts (within c.args.model.now c.args.locals.now) (forms_of (map form_add_step c.args.rest.now))) c.in_ok-found.found c.in_ok-found.ensures in
    grind (arith, common_steps)

pub adds-loop-t-init : goal.adds-loop-t-init
adds-loop-t-init t c =
    let h = first_kept (part (node_of c.args.first)) (typed_parts (within c.args.model.now c.args.locals.now) (forms_of (map form_add c.args.rest.now))) c.in_ok-found.found c.in_ok-found.ensures in
    grind (arith, common_steps)

pub all_adds-loop-t-init : goal.all_adds-loop-t-init
all_adds-loop-t-init t c = grind (arith, rules_of_parts, common_steps)

pub ands-loop-t-init : goal.ands-loop-t-init
ands-loop-t-init t c =
    let h = first_kept (part (node_of c.args.first)) (typed_parts (within c.args.model.now c.args.locals.now) (forms_of (map form_and c.args.rest.now))) c.in_ok-found.found c.in_ok-found.ensures in
    grind (arith, common_steps)

pub described_set-returns-then-is_memory : goal.described_set-returns-then-is_memory
described_set-returns-then-is_memory t c = grind (arith, common_steps)

pub imp-returns-in_err-two-in-Some : goal.imp-returns-in_err-two-in-Some
imp-returns-in_err-two-in-Some t c = grind (arith, imp_forms, rules_of_forms, rules_of_parts)

pub imps-loop-t-init : goal.imps-loop-t-init
imps-loop-t-init t c =
    let h = first_kept (part (node_of c.args.first)) (typed_parts (within c.args.model.now c.args.locals.now) (forms_of (map form_imp c.args.rest.now))) c.in_ok-found.found c.in_ok-found.ensures in
    grind (arith, common_steps)

pub mul_steps-loop-t-init : goal.mul_steps-loop-t-init
mul_steps-loop-t-init t c =
    let h = first_kept (part (node_of c.args.first)) (typed_parts (within c.args.model.now c.args.locals.now) (forms_of (map form_mul_step c.args.rest.now))) c.in_ok-found.found c.in_ok-found.ensures in
    grind (arith, common_steps)

pub neg-returns-in_err-one-in-Not : goal.neg-returns-in_err-one-in-Not
neg-returns-in_err-one-in-Not t c = grind (arith, neg_forms, rules_of_forms, rules_of_parts)

pub negs-loop-t-init : goal.negs-loop-t-init
negs-loop-t-init t c =
    let h = first_kept (part (node_of c.args.first)) (typed_parts (within c.args.model.now c.args.locals.now) (forms_of (map form_neg c.args.rest.now))) c.in_ok-found.found c.in_ok-found.ensures in
    grind (arith, common_steps)

pub open_group-returns-in_err-all_fresh : goal.open_group-returns-in_err-all_fresh
open_group-returns-in_err-all_fresh t c = grind (arith, group_forms)

pub open_group-returns-in_err-append : goal.open_group-returns-in_err-append
open_group-returns-in_err-append t c = grind (arith, group_forms)

pub open_group-returns-in_err-bind_patterns : goal.open_group-returns-in_err-bind_patterns
open_group-returns-in_err-bind_patterns t c = grind (arith, group_forms)

pub open_group-returns-in_err-element : goal.open_group-returns-in_err-element
open_group-returns-in_err-element t c = grind (arith, group_forms)

pub open_group-returns-in_err-kinds_in : goal.open_group-returns-in_err-kinds_in
open_group-returns-in_err-kinds_in t c = grind (arith, group_forms)

pub open_group-returns-in_err-over : goal.open_group-returns-in_err-over
open_group-returns-in_err-over t c = grind (arith, group_forms)

pub open_groups-returns-in_err-copied : goal.open_groups-returns-in_err-copied
open_groups-returns-in_err-copied t c = grind (arith, common_steps)

pub pairs-loop-t-init : goal.pairs-loop-t-init
pairs-loop-t-init t c = grind (arith, keyed_forms, rules_of_pairs, common_steps)

pub post-returns-in_err-chain : goal.post-returns-in_err-chain
post-returns-in_err-chain t c = grind (arith, post_forms)

pub with_suffix-returns-in_err-parts-in-Subscripts : goal.with_suffix-returns-in_err-parts-in-Subscripts
with_suffix-returns-in_err-parts-in-Subscripts t c = grind (arith, suffix_forms)

pub wrongly_described-returns : goal.wrongly_described-returns
wrongly_described-returns t c =
    let h = through node_of _ part c.add.result (Ok c.in_ok-part_of.field-0) c.add.ensures c.in_ok-part_of.ensures in
    grind (arith, common_steps)

pub wrongly_described-returns-in_err-unknown : goal.wrongly_described-returns-in_err-unknown
wrongly_described-returns-in_err-unknown t c = grind (arith, common_steps)

pub imps-returns-in_err-found : goal.imps-returns-in_err-found
imps-returns-in_err-found t c =
    let h = first_refused (part (node_of c.args.first)) (typed_parts (within c.args.model.now c.args.locals.now) (forms_of (map form_imp c.args.rest.now))) c.in_err-found.field-0.0 c.in_err-found.ensures in
    grind (arith)

pub imps-returns-in_err-add_part : goal.imps-returns-in_err-add_part
imps-returns-in_err-add_part t c =
    let h = part_refused (within c.args.model.now c.args.locals.now) form_imp _ c.args.rest.now c.loop-t.t-index c.loop-t.found c.loop-t.invariant c.t-item.result c.loop-t-test.true c.t-item.is c.imp.result c.add_part.new.parts c.in_err-add_part.field-0.0 (c.imp.ensures, c.in_err-add_part.ensures) in
    grind (arith)

pub ands-returns-in_err-found : goal.ands-returns-in_err-found
ands-returns-in_err-found t c =
    let h = first_refused (part (node_of c.args.first)) (typed_parts (within c.args.model.now c.args.locals.now) (forms_of (map form_and c.args.rest.now))) c.in_err-found.field-0.0 c.in_err-found.ensures in
    grind (arith)

pub ands-returns-in_err-add_part : goal.ands-returns-in_err-add_part
ands-returns-in_err-add_part t c =
    let h = part_refused (within c.args.model.now c.args.locals.now) form_and _ c.args.rest.now c.loop-t.t-index c.loop-t.found c.loop-t.invariant c.t-item.result c.loop-t-test.true c.t-item.is c.and.result c.add_part.new.parts c.in_err-add_part.field-0.0 (c.and.ensures, c.in_err-add_part.ensures) in
    grind (arith)

pub negs-returns-in_err-found : goal.negs-returns-in_err-found
negs-returns-in_err-found t c =
    let h = first_refused (part (node_of c.args.first)) (typed_parts (within c.args.model.now c.args.locals.now) (forms_of (map form_neg c.args.rest.now))) c.in_err-found.field-0.0 c.in_err-found.ensures in
    grind (arith)

pub negs-returns-in_err-add_part : goal.negs-returns-in_err-add_part
negs-returns-in_err-add_part t c =
    let h = part_refused (within c.args.model.now c.args.locals.now) form_neg _ c.args.rest.now c.loop-t.t-index c.loop-t.found c.loop-t.invariant c.t-item.result c.loop-t-test.true c.t-item.is c.neg.result c.add_part.new.parts c.in_err-add_part.field-0.0 (c.neg.ensures, c.in_err-add_part.ensures) in
    grind (arith)

pub add_steps-returns-in_err-found : goal.add_steps-returns-in_err-found
add_steps-returns-in_err-found t c =
    let h = first_refused (part (node_of c.args.first)) (typed_parts (within c.args.model.now c.args.locals.now) (forms_of (map form_add_step c.args.rest.now))) c.in_err-found.field-0.0 c.in_err-found.ensures in
    grind (arith)

pub add_steps-returns-in_err-add_part : goal.add_steps-returns-in_err-add_part
add_steps-returns-in_err-add_part t c =
    let h = part_refused (within c.args.model.now c.args.locals.now) form_add_step _ c.args.rest.now c.loop-t.t-index c.loop-t.found c.loop-t.invariant c.t-item.result c.loop-t-test.true c.t-item.is c.add_step.result c.add_part.new.parts c.in_err-add_part.field-0.0 (c.add_step.ensures, c.in_err-add_part.ensures) in
    grind (arith)

pub mul_steps-returns-in_err-found : goal.mul_steps-returns-in_err-found
mul_steps-returns-in_err-found t c =
    let h = first_refused (part (node_of c.args.first)) (typed_parts (within c.args.model.now c.args.locals.now) (forms_of (map form_mul_step c.args.rest.now))) c.in_err-found.field-0.0 c.in_err-found.ensures in
    grind (arith)

pub mul_steps-returns-in_err-add_part : goal.mul_steps-returns-in_err-add_part
mul_steps-returns-in_err-add_part t c =
    let h = part_refused (within c.args.model.now c.args.locals.now) form_mul_step _ c.args.rest.now c.loop-t.t-index c.loop-t.found c.loop-t.invariant c.t-item.result c.loop-t-test.true c.t-item.is c.mul_step.result c.add_part.new.parts c.in_err-add_part.field-0.0 (c.mul_step.ensures, c.in_err-add_part.ensures) in
    grind (arith)

pub adds-returns-in_err-found : goal.adds-returns-in_err-found
adds-returns-in_err-found t c =
    let h = first_refused (part (node_of c.args.first)) (typed_parts (within c.args.model.now c.args.locals.now) (forms_of (map form_add c.args.rest.now))) c.in_err-found.field-0.0 c.in_err-found.ensures in
    grind (arith)

pub adds-returns-in_err-add_part : goal.adds-returns-in_err-add_part
adds-returns-in_err-add_part t c =
    let h = part_refused (within c.args.model.now c.args.locals.now) form_add _ c.args.rest.now c.loop-t.t-index c.loop-t.found c.loop-t.invariant c.t-item.result c.loop-t-test.true c.t-item.is c.add.result c.add_part.new.parts c.in_err-add_part.field-0.0 (c.add.ensures, c.in_err-add_part.ensures) in
    grind (arith)

pub all_adds-returns-in_err-add_part : goal.all_adds-returns-in_err-add_part
all_adds-returns-in_err-add_part t c =
    let h = part_refused (within c.args.model.now c.args.locals.now) form_add _ c.args.parts.now c.loop-t.t-index c.loop-t.found c.loop-t.invariant c.t-item.result c.loop-t-test.true c.t-item.is c.add.result c.add_part.new.parts c.in_err-add_part.field-0.0 (c.add.ensures, c.in_err-add_part.ensures) in
    grind (arith)

pub pairs-returns-in_err-add_part : goal.pairs-returns-in_err-add_part
pairs-returns-in_err-add_part t c =
    let h = key_refused (within c.args.model.now c.args.locals.now) form_keyed _ c.args.parts.now c.loop-t.t-index c.loop-t.found c.loop-t.invariant c.t-item.result c.loop-t-test.true c.t-item.is (form_add (out-KeyedTree c.t-item.result).key) (form_add (out-KeyedTree c.t-item.result).value) (form_keyed-is c.t-item.result) c.add.result c.add_part.new.parts c.in_err-add_part.field-0.0 (c.add.ensures, c.in_err-add_part.ensures) in
    grind (arith)

pub pairs-returns-in_err-add_part-2 : goal.pairs-returns-in_err-add_part-2
pairs-returns-in_err-add_part-2 t c =
    let h = cell_refused (within c.args.model.now c.args.locals.now) form_keyed _ c.args.parts.now c.loop-t.t-index c.loop-t.found c.loop-t.invariant c.t-item.result c.loop-t-test.true c.t-item.is (form_add (out-KeyedTree c.t-item.result).key) (form_add (out-KeyedTree c.t-item.result).value) (form_keyed-is c.t-item.result) c.add.result c.add_part.new.parts (c.add.ensures, c.in_ok-add_part.ensures) c.add-in-loop-t.result c.add_part-in-loop-t.new.parts c.in_err-add_part-2.field-0.0 (c.add-in-loop-t.ensures, c.in_err-add_part-2.ensures) in
    grind (arith)

pub with_last-returns-in_err-add_part : goal.with_last-returns-in_err-add_part
with_last-returns-in_err-add_part t c =
    let h = last_refused (within c.args.model.now c.args.locals.now) _ c.args.parts (form_open (out-LastStep c.args.last.now).factor) (ap (λ f. and_then (typed_parts (within c.args.model.now c.args.locals.now) (forms_of (f ∷ []))) (λ ns. Ok (map node_of c.args.parts ++ ns))) (form_last_step-is c.args.last.now)) c.open.result c.add_part.new.parts c.in_err-add_part.field-0.0 (c.open.ensures, c.in_err-add_part.ensures) in
    grind (arith)

pub wrongly_described-returns-in_err-part_of : goal.wrongly_described-returns-in_err-part_of
wrongly_described-returns-in_err-part_of t c =
    let h = through node_of _ part c.add.result (Err c.in_err-part_of.field-0.0) c.add.ensures c.in_err-part_of.ensures in
    grind (arith, common_steps)
