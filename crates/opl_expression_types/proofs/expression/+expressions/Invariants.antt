use Rattle.std.proofs.Common.{Ok, drop, map, ◌++◌, ◌∷◌, ◌≡◌}
use Rattle.opl_tree.specs.declared.expression.CompareTree.TheViews.{out-ParamsTree, out-PostTree}
use Rattle.opl_type_rules.specs.Expressions.{open_groups, part, typed_pairs, typed_parts, typing}
use Rattle.opl_type_rules.specs.Forms.{form_add, form_add_step, form_and, form_group, form_group_step, form_imp, form_keyed, form_mul_step, form_neg, form_post, form_suffix, forms_of, groups_of, pairs_of}
use Rattle.opl_type_rules.specs.Scope.{and_then}
use Rattle.opl_type_rules.specs.Steps.{open_each, suffixed}
use Rattle.opl_type_rules.specs.Values.{chained, node_of, within}
use Rattle.opl_expression_types.specs.Values.{opened_in}
use Rattle.opl_expression_types.proofs.expression.+expressions.Given as goal

abbrev pub invariant-imps-loop-t : goal.invariant-imps-loop-t
invariant-imps-loop-t l =
    and_then (part (node_of l.fn.first)) (λ n. and_then (typed_parts (within l.model l.locals) (forms_of (map form_imp l.rest))) (λ ns. Ok (n ∷ ns)))
    ≡ and_then (typed_parts (within l.model l.locals) (forms_of (map form_imp (drop l.t-index l.rest)))) (λ ns. Ok (map node_of l.found ++ ns))

abbrev pub invariant-ands-loop-t : goal.invariant-ands-loop-t
invariant-ands-loop-t l =
    and_then (part (node_of l.fn.first)) (λ n. and_then (typed_parts (within l.model l.locals) (forms_of (map form_and l.rest))) (λ ns. Ok (n ∷ ns)))
    ≡ and_then (typed_parts (within l.model l.locals) (forms_of (map form_and (drop l.t-index l.rest)))) (λ ns. Ok (map node_of l.found ++ ns))

abbrev pub invariant-negs-loop-t : goal.invariant-negs-loop-t
invariant-negs-loop-t l =
    and_then (part (node_of l.fn.first)) (λ n. and_then (typed_parts (within l.model l.locals) (forms_of (map form_neg l.rest))) (λ ns. Ok (n ∷ ns)))
    ≡ and_then (typed_parts (within l.model l.locals) (forms_of (map form_neg (drop l.t-index l.rest)))) (λ ns. Ok (map node_of l.found ++ ns))

abbrev pub invariant-add_steps-loop-t : goal.invariant-add_steps-loop-t
invariant-add_steps-loop-t l =
    and_then (part (node_of l.fn.first)) (λ n. and_then (typed_parts (within l.model l.locals) (forms_of (map form_add_step l.rest))) (λ ns. Ok (n ∷ ns)))
    ≡ and_then (typed_parts (within l.model l.locals) (forms_of (map form_add_step (drop l.t-index l.rest)))) (λ ns. Ok (map node_of l.found ++ ns))

abbrev pub invariant-mul_steps-loop-t : goal.invariant-mul_steps-loop-t
invariant-mul_steps-loop-t l =
    and_then (part (node_of l.fn.first)) (λ n. and_then (typed_parts (within l.model l.locals) (forms_of (map form_mul_step l.rest))) (λ ns. Ok (n ∷ ns)))
    ≡ and_then (typed_parts (within l.model l.locals) (forms_of (map form_mul_step (drop l.t-index l.rest)))) (λ ns. Ok (map node_of l.found ++ ns))

abbrev pub invariant-post-loop-suffix : goal.invariant-post-loop-suffix
invariant-post-loop-suffix l =
    typing (within l.model l.locals) (form_post l.t)
    ≡ suffixed (within l.model l.locals) (out-PostTree l.t).at (Ok (chained l.chain)) (map form_suffix (drop l.suffix-index l.suffix-items))

abbrev pub invariant-adds-loop-t : goal.invariant-adds-loop-t
invariant-adds-loop-t l =
    and_then (part (node_of l.fn.first)) (λ n. and_then (typed_parts (within l.model l.locals) (forms_of (map form_add l.rest))) (λ ns. Ok (n ∷ ns)))
    ≡ and_then (typed_parts (within l.model l.locals) (forms_of (map form_add (drop l.t-index l.rest)))) (λ ns. Ok (map node_of l.found ++ ns))

abbrev pub invariant-all_adds-loop-t : goal.invariant-all_adds-loop-t
invariant-all_adds-loop-t l =
    typed_parts (within l.model l.locals) (forms_of (map form_add l.parts))
    ≡ and_then (typed_parts (within l.model l.locals) (forms_of (map form_add (drop l.t-index l.parts)))) (λ ns. Ok (map node_of l.found ++ ns))

abbrev pub invariant-pairs-loop-t : goal.invariant-pairs-loop-t
invariant-pairs-loop-t l =
    typed_pairs (within l.model l.locals) (pairs_of (map form_keyed l.parts))
    ≡ and_then (typed_pairs (within l.model l.locals) (pairs_of (map form_keyed (drop l.t-index l.parts)))) (λ ns. Ok (map node_of l.found ++ ns))

abbrev pub invariant-open_groups-loop-step : goal.invariant-open_groups-loop-step
invariant-open_groups-loop-step l =
    open_groups (within l.model l.locals) (groups_of (form_group (out-ParamsTree l.t).first ∷ map form_group_step (out-ParamsTree l.t).rest))
    ≡ open_each (opened_in l.model l.opened) (map form_group_step (drop l.step-index l.step-items))
