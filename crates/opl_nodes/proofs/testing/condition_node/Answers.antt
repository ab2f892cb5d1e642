use Rattle.opl_form.specs.Parts.Form.{condition}
use Rattle.opl_form.specs.Nodes as making
use Rattle.opl_nodes.specs.Pieces.{tested}
use Rattle.opl_nodes.proofs.Tests.{condition-tested, makes-same}
use Rattle.opl_nodes.proofs.testing.condition_node.Goals as goal

pub returns : goal.returns
returns c =
    let k = c.args.context.now in
    makes-same k (tested k 0 c.args.before (condition c.args.cons)) (making.condition_node k.item c.args.before c.args.cons) c.condition_tested.result
    (condition-tested k 0 c.args.before c.args.cons) c.condition_tested.ensures
