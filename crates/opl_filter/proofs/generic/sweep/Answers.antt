use Rattle.opl_expr.specs.Forms.{fact}
use Rattle.opl_filter.proofs.Mentioned.{variables_there, refutes_looks}
use Rattle.opl_filter.proofs.Refuting.{refutes_falls}
use Rattle.opl_filter.proofs.generic.sweep.Goals as goal

pub remove_dead-requires-clause-falls : goal.remove_dead-requires-clause-falls
remove_dead-requires-clause-falls g c = refutes_falls (fact c.args.core.now.tables c.args.core.now.resources c.args.c.now)

pub remove_dead-requires-clause-there : goal.remove_dead-requires-clause-there
remove_dead-requires-clause-there g c = variables_there c.args.core.now (fact c.args.core.now.tables c.args.core.now.resources c.args.c.now) c.args.variables.now _ c.requires.sound c.requires.declared c.requires.named

pub remove_dead-requires-clause-others : goal.remove_dead-requires-clause-others
remove_dead-requires-clause-others g c = refutes_looks (fact c.args.core.now.tables c.args.core.now.resources c.args.c.now) c.args.variables.now c.requires.named
