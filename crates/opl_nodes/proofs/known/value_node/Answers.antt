use Rattle.opl_form.specs.Parts.Form.{known}
use Rattle.opl_form.specs.Nodes as making
use Rattle.opl_nodes.specs.Pieces.{tested}
use Rattle.opl_nodes.proofs.Tests.{value-tested, makes-same}
use Rattle.opl_nodes.proofs.known.value_node.Goals as goal

pub returns : goal.returns
returns c =
    makes-same c.args.context.now (tested c.args.context.now c.args.at c.args.before (known c.args.value)) (making.value_node c.args.context.now.item c.args.at c.args.before c.args.value) c.value_tested.result
    (value-tested c.args.context.now c.args.at c.args.before c.args.value) c.value_tested.ensures
