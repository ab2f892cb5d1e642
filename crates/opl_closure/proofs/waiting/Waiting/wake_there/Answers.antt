use Rattle.std.proofs.Common.{◌∙◌, ap, arith}
use Rattle.opl_closure.specs.Waits.{waits}
use Rattle.opl_closure.proofs.Waking.{wake_one}
use Rattle.opl_closure.proofs.waiting.Waiting.wake_there.Goals as goal

pub returns-clause-woken : goal.returns-clause-woken
returns-clause-woken c = λ j l. ap (λ w. waits w j) c.wake.ensures ∙ wake_one c.args.self.now j c.args.i (omega arith)
