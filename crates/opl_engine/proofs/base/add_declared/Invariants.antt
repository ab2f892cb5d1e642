use Rattle.std.proofs.Common.{take}
use Rattle.opl_expr.specs.Solutions.{facts}
use Rattle.opl_engine.specs.Engines.{IsGrown}
use Rattle.opl_engine.proofs.base.add_declared.Given as goal

abbrev pub invariant-loop-place : goal.invariant-loop-place
invariant-loop-place l = IsGrown l.core (take l.place (facts l.core)) l.members
