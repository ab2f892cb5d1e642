use Rattle.std.proofs.Common.{◌≡◌, ◌<◌, true, ℕ, ℤ}
use Rattle.opl_domain.specs.Family.{has}
use Rattle.opl_expr.specs.Solutions.{declared}
use Rattle.opl_sound.proofs.views.is_within.Given as goal

abbrev pub invariant-loop-x : goal.invariant-loop-x
invariant-loop-x g l = (y : ℕ) (v : ℤ) → y < l.x → has (g.V.View.family l.view) y v ≡ true → has (declared l.core) y v ≡ true
