use Rattle.opl_expr.specs.Options.{lift1}
use Rattle.opl_solve.proofs.Found.{Standing}
use Rattle.opl_solve.proofs.latest.find_last.Given as goal

abbrev pub invariant-loop-so_far : goal.invariant-loop-so_far
invariant-loop-so_far g l = Standing l.limit l.fn.machine l.machine l.so_far (lift1 (λ v. v.items) l.values)
