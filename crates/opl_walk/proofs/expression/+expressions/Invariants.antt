use Rattle.std.proofs.Common.{◌≡◌, true, map, drop}
use Rattle.opl_token.specs.declared.sign.Sign.TheVariants as signs
use Rattle.opl_tree.specs.Marks.{behind, joined, marks_add, marks_add_step, marks_and, marks_group_step, marks_imp, marks_keyed, marks_mul_step, marks_neg, marks_pattern, marks_suffix, several}
use Rattle.opl_walk.specs.Told.{told, listed}
use Rattle.opl_walk.proofs.Telling.{ToldTo}
use Rattle.opl_walk.proofs.expression.+expressions.Given as goal

abbrev pub invariant-walk_expr-loop-imp : goal.invariant-walk_expr-loop-imp
invariant-walk_expr-loop-imp g l = ToldTo g.V.Visitor.is_whole g.V.Visitor.token g.V.Visitor.opens l.level (λ ts. behind signs.Equivalent (map marks_imp ts)) l.imp-items l.imp-index l.initial.visitor l.visitor

abbrev pub invariant-walk_or-loop-and : goal.invariant-walk_or-loop-and
invariant-walk_or-loop-and g l = ToldTo g.V.Visitor.is_whole g.V.Visitor.token g.V.Visitor.opens l.level (λ ts. behind signs.Or (map marks_and ts)) l.and-items l.and-index l.initial.visitor l.visitor

abbrev pub invariant-walk_and-loop-neg : goal.invariant-walk_and-loop-neg
invariant-walk_and-loop-neg g l = ToldTo g.V.Visitor.is_whole g.V.Visitor.token g.V.Visitor.opens l.level (λ ts. behind signs.And (map marks_neg ts)) l.neg-items l.neg-index l.initial.visitor l.visitor

abbrev pub invariant-walk_add-loop-step : goal.invariant-walk_add-loop-step
invariant-walk_add-loop-step g l = ToldTo g.V.Visitor.is_whole g.V.Visitor.token g.V.Visitor.opens l.level (λ ts. joined (map marks_add_step ts)) l.step-items l.step-index l.initial.visitor l.visitor

abbrev pub invariant-walk_mul-loop-step : goal.invariant-walk_mul-loop-step
invariant-walk_mul-loop-step g l = ToldTo g.V.Visitor.is_whole g.V.Visitor.token g.V.Visitor.opens l.level (λ ts. joined (map marks_mul_step ts)) l.step-items l.step-index l.initial.visitor l.visitor

abbrev pub invariant-walk_post-loop-suffix : goal.invariant-walk_post-loop-suffix
invariant-walk_post-loop-suffix g l = ToldTo g.V.Visitor.is_whole g.V.Visitor.token g.V.Visitor.opens l.level (λ ts. joined (map marks_suffix ts)) l.suffix-items l.suffix-index l.initial.visitor l.visitor

abbrev pub invariant-walk_params-loop-step : goal.invariant-walk_params-loop-step
invariant-walk_params-loop-step g l = ToldTo g.V.Visitor.is_whole g.V.Visitor.token g.V.Visitor.opens l.level (λ ts. joined (map marks_group_step ts)) l.step-items l.step-index l.initial.visitor l.visitor

abbrev pub invariant-walk_group-loop-pattern : goal.invariant-walk_group-loop-pattern
invariant-walk_group-loop-pattern g l = ToldTo g.V.Visitor.is_whole g.V.Visitor.token g.V.Visitor.opens l.level (λ ts. behind signs.Comma (map marks_pattern ts)) l.pattern-items l.pattern-index l.initial.visitor l.visitor

abbrev pub invariant-walk_adds-loop-add : goal.invariant-walk_adds-loop-add
invariant-walk_adds-loop-add g l =
    let tell = told g.V.Visitor.token g.V.Visitor.opens l.level in
    g.V.Visitor.is_whole l.visitor ≡ true → (g.V.Visitor.is_whole l.fn.visitor ≡ true) × (tell (listed l.is_first signs.Comma (map marks_add (drop l.add-index l.adds))) l.visitor ≡ tell (listed l.fn.is_first signs.Comma (map marks_add l.fn.adds)) l.fn.visitor)

abbrev pub invariant-walk_pairs-loop-pair : goal.invariant-walk_pairs-loop-pair
invariant-walk_pairs-loop-pair g l =
    let tell = told g.V.Visitor.token g.V.Visitor.opens l.level in
    g.V.Visitor.is_whole l.visitor ≡ true → (g.V.Visitor.is_whole l.fn.visitor ≡ true) × (tell (listed l.is_first signs.Comma (map marks_keyed (drop l.pair-index l.pairs))) l.visitor ≡ tell (several signs.Comma (map marks_keyed l.fn.pairs)) l.fn.visitor)
