use Rattle.opl_connective.proofs.Made.{literal_made}
use Rattle.opl_connective.proofs.making.with_opposite.Goals as goal

pub returns-in_ok-new-in-Some-clause-node : goal.returns-in_ok-new-in-Some-clause-node
returns-in_ok-new-in-Some-clause-node c =
    literal_made c.args.core.now c.args.c.now c.requires.sound c.in_ok-new-in-Some.field-0 c.args.part c.in-Some.opposite c.in_ok-literal.field-0 c.requires.part c.in_ok-literal.ensures.part c.in-Some.is c.in_ok-new-in-Some.ensures
