use Rattle.opl_type_rules.specs.Expressions.{part}
use Rattle.opl_type_rules.specs.Values.{node_of}
use Rattle.opl_expression_types.proofs.Found.{fault_kept, node_kept}
use Rattle.opl_expression_types.proofs.parts.part_of.Goals as goal

pub returns-in-Ok : goal.returns-in-Ok
returns-in-Ok c =
    node_kept node_of part c.args.found c.in-Ok.node c.in-Ok.is c.part.result c.part.ensures

pub returns-in-Err : goal.returns-in-Err
returns-in-Err c =
    fault_kept node_of part c.args.found c.in-Err.fault c.in-Err.is
