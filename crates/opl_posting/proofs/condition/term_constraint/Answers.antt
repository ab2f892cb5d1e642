use Rattle.opl_posting.proofs.OneConstraint.{one-made, one-refused}
use Rattle.opl_posting.proofs.condition.term_constraint.Goals as goal

pub returns-in-Ok : goal.returns-in-Ok
returns-in-Ok c = one-made c.args.plan c.args.scope c.args.at c.args.term.now c.args.posted _ c.in-Ok.part c.pushed.result c.in-Ok.ensures c.pushed.ensures

pub returns-in-Err : goal.returns-in-Err
returns-in-Err c = one-refused c.args.plan c.args.scope c.args.at c.args.term.now c.args.posted c.in-Err.fault c.in-Err.ensures
