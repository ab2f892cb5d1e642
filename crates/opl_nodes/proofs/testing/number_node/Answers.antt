use Rattle.opl_form.specs.Parts.Form.{number}
use Rattle.opl_form.specs.Nodes as making
use Rattle.opl_nodes.specs.Contexts.{arrays, sets}
use Rattle.opl_nodes.specs.Pieces.{tested}
use Rattle.opl_nodes.proofs.Tests.{makes-same, number-tested}
use Rattle.opl_nodes.proofs.testing.number_node.Goals as goal

pub returns : goal.returns
returns c =
    let k = c.args.context.now in
    makes-same k (tested k c.args.at c.args.before (number c.args.expr)) (making.number_node (sets k) (arrays k) k.item c.args.at c.args.before c.args.expr) c.number_tested.result
    (number-tested k c.args.at c.args.before c.args.expr) c.number_tested.ensures
