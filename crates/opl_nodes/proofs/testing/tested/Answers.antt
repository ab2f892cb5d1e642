use Rattle.std.proofs.Common.{arith}
use Rattle.opl_nodes.specs.Pieces.{form_of}
use Rattle.opl_nodes.proofs.Tests.{tested-refused, tested-made}
use Rattle.opl_nodes.proofs.testing.tested.Goals as goal

pub returns-in-Err : goal.returns-in-Err
returns-in-Err c =
    tested-refused c.args.context.now c.args.at c.args.before c.args.size c.args.depth c.args.nodes (form_of c.args.form) c.in-Err.fault c.requires.size (omega arith) c.requires.depth c.requires.nodes c.in-Err.ensures

pub returns-in-Ok : goal.returns-in-Ok
returns-in-Ok c = tested-made c.args.context.now c.args.at c.args.before c.args.size c.args.depth c.args.nodes c.in-Ok.nodes c.args.form c.requires.size (omega arith) c.requires.depth c.requires.nodes c.in-Ok.ensures
