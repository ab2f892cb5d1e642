use Rattle.std.proofs.Common.{◌≡◌, ◌+◌, drop}
use Rattle.opl_expr.specs.Options.{lift1}
use Rattle.opl_expr.specs.Holds.{place_in}
use Rattle.opl_expr.proofs.eval.place_in.Given as goal

abbrev pub invariant-loop-place : goal.invariant-loop-place
invariant-loop-place l = place_in l.fn.v l.list ≡ lift1 (λ k. l.place + k) (place_in l.fn.v (drop l.place l.list))
