use Rattle.opl_closure.specs.Waits.{waits}
use Rattle.opl_engine.proofs.Fitting.{not_false}
use Rattle.opl_engine.proofs.engine.give_back.Goals as goal

pub returns-clause-bounded : goal.returns-clause-bounded
returns-clause-bounded c = λ h. absurd (not_false (waits c.wake.new.self.waits 0) c.wake.ensures.woken h)
