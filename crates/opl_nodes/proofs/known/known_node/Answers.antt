use Rattle.opl_form.specs.Parts.Form.{known}
use Rattle.opl_form.specs.Nodes as making
use Rattle.opl_nodes.specs.Pieces.{tested}
use Rattle.opl_nodes.proofs.Tests.{known-tested, makes-same}
use Rattle.opl_nodes.proofs.known.known_node.Goals as goal

pub returns : goal.returns
returns c =
    makes-same c.args.context.now (tested c.args.context.now 0 c.args.before (known c.args.value)) (making.known_node c.args.context.now.item c.args.before c.args.value) c.value_tested.result
    (known-tested c.args.context.now 0 c.args.before c.args.value c.requires) c.value_tested.ensures
