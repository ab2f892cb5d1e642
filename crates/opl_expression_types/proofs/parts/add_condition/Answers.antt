use Rattle.std.proofs.Common.{Ok, ap, arith, map, ◌++◌, ◌∙◌}
use Rattle.opl_type_rules.specs.Expressions.{kinds, used}
use Rattle.opl_type_rules.specs.Scope.{and_then}
use Rattle.opl_type_rules.specs.Types.{is_truth, sort}
use Rattle.opl_type_rules.specs.Values.{need_of}
use Rattle.opl_expression_types.proofs.Found.{unmet, met, unfound}
use Rattle.opl_expression_types.proofs.parts.add_condition.Goals as goal

pub returns-in_err-taken-in-Ok : goal.returns-in_err-taken-in-Ok
returns-in_err-taken-in-Ok c =
    let h = unmet (need_of c.args.need) c.args.found c.in-Ok.node c.in-Ok.is c.is_truth-is_taken.result (c.is_truth-is_taken.ensures ∙ ap (λ x. is_truth (sort x)) c.get.ensures) c.args.kinds.now c.args.kinds.now c.in_err-taken-in-Ok.field-0.0 c.in_err-taken-in-Ok.ensures in
    grind (arith)

pub returns-in_ok-taken-in-Ok : goal.returns-in_ok-taken-in-Ok
returns-in_ok-taken-in-Ok c =
    met (need_of c.args.need) c.args.found c.in-Ok.node c.in-Ok.is c.is_truth-is_taken.result (c.is_truth-is_taken.ensures ∙ ap (λ x. is_truth (sort x)) c.get.ensures) c.args.kinds.now c.add_kinds.new.kinds c.in_ok-taken-in-Ok.taken c.in_ok-taken-in-Ok.ensures c.add_kinds.result c.add_kinds.ensures

pub returns-in-Err : goal.returns-in-Err
returns-in-Err c =
    unfound (need_of c.args.need) c.args.found c.args.kinds.now c.args.kinds.now c.in-Err.fault c.in-Err.is
