use Rattle.std.proofs.Common.{◌≡◌, ℕ, ◌<◌, ℤ, true, false}
use Rattle.opl_domain.specs.Family.{has, only}
use Rattle.opl_trace.proofs.closing.dead_pair.Given as goal

abbrev pub invariant-loop-x : goal.invariant-loop-x
invariant-loop-x g l = (x : ℕ) (v : ℤ) → x < l.x → has l.sets x v ≡ true → g.T.Test.dead l.test (only l.sets x v) ≡ false
