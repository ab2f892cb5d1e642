use Rattle.std.proofs.Common.{◌≡◌, ◌+◌, ◌-◌, ◌^◌, min, max, sym, ap, subst, arith}
use Rattle.std.specs.Prelude.{IfOk}
use Rattle.opl_eval.specs.Compare as compare
use Rattle.opl_nodes.specs.Pieces.{form_of}
use Rattle.opl_numbers.specs.Numbers.{constant}
use Rattle.opl_numbers.proofs.Alone.{condition-measured, known-measured, name-measured, truth-measured}
use Rattle.opl_numbers.proofs.measured.as_number.Goals as goal

pub returns-in-Known-clause-measures : goal.returns-in-Known-clause-measures
returns-in-Known-clause-measures c =
    let same : c.get.result.now ≡ c.in-Known.value = c.get.ensures in
    known-measured c.args.part c.in-Known.value c.constant.result (sym (ap form_of c.in-Known.is))
    (subst (λ v. IfOk c.constant.result (λ n. n ≡ constant (compare.number v))) same c.constant.ensures)

pub returns-in-Name-clause-measures : goal.returns-in-Name-clause-measures
returns-in-Name-clause-measures c =
    let deep : c.saturating_add.result ≡ min (max 1 c.args.part.depth + 1) (2 ^ 32 - 1) = omega arith in
    let many : c.from-nodes.result + 2 ≡ c.args.part.nodes + 2 = omega arith in
    name-measured c.args.part c.in-Name.field-0 c.in-Name.expr c.saturating_add.result (c.from-nodes.result + 2) c.nothing.result (sym (ap form_of c.in-Name.is)) deep many c.nothing.ensures

pub returns-in-Condition-clause-measures : goal.returns-in-Condition-clause-measures
returns-in-Condition-clause-measures c =
    let deep : c.saturating_add-in-Condition.result ≡ min (c.args.part.depth + 1) (2 ^ 32 - 1) = omega arith in
    let many : c.from-nodes.result + 1 ≡ c.args.part.nodes + 1 = omega arith in
    condition-measured c.args.part c.in-Condition.cons c.saturating_add-in-Condition.result (c.from-nodes.result + 1) c.measured.result (sym (ap form_of c.in-Condition.is)) deep many c.measured.ensures

pub returns-in-Truth-clause-measures : goal.returns-in-Truth-clause-measures
returns-in-Truth-clause-measures c =
    let many : c.from-nodes.result ≡ c.args.part.nodes = omega arith in
    truth-measured c.args.part c.in-Truth.cons c.from-nodes.result c.measured-in-Truth.result (sym (ap form_of c.in-Truth.is)) many c.measured-in-Truth.ensures
