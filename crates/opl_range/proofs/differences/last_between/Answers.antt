use Rattle.opl_range.proofs.Named.{between_named}
use Rattle.opl_range.proofs.differences.last_between.Goals as goal

pub returns : goal.returns
returns c = between_named c.args.core.now c.args.a.now c.args.b.now c.args.end c.last_named.result c.last_named-2.result c.later.result c.last_named.ensures c.last_named-2.ensures c.later.ensures
