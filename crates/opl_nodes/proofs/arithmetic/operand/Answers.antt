use Rattle.std.proofs.Common.{◌≡◌, ◌∙◌, ap, sym}
use Rattle.opl_form.specs.Parts.Form.{condition, truth}
use Rattle.opl_form.specs.Nodes as making
use Rattle.opl_nodes.specs.Pieces.{form, form_of, tested}
use Rattle.opl_nodes.proofs.Tests.{truth-tested, makes-same}
use Rattle.opl_nodes.proofs.arithmetic.operand.Goals as goal

pub returns-in-Condition : goal.returns-in-Condition
returns-in-Condition c =
    let k = c.args.context.now in
    let n = c.args.before in
    let d = c.in-Condition.cons in
    let shape : condition d ≡ form c.args.part = sym (ap form_of c.in-Condition.is) in
    makes-same k (tested k c.args.at n (truth d)) (making.operand k.item c.args.at n (form c.args.part)) c.tested.result
    (truth-tested k c.args.at n d ∙ ap (λ g. making.operand k.item c.args.at n g) shape) c.tested.ensures
