use Rattle.std.proofs.Common.{Some, None}
use Rattle.opl_eval.proofs.Latest.{value-latest}
use Rattle.opl_eval.proofs.environment.Environment.value.Goals as goal

pub returns-in-Some : goal.returns-in-Some
returns-in-Some c = value-latest c.args.self.now c.args.name.now (Some c.in-Some.entry.now) c.in-Some.ensures

pub returns-in-None : goal.returns-in-None
returns-in-None c = value-latest c.args.self.now c.args.name.now None c.in-None.ensures
