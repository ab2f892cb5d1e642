use Rattle.std.proofs.Common.{length, ap, arith}
use Rattle.opl_solver.proofs.Pairs.{declared_length}
use Rattle.test_machine.proofs.found.push_solution.Goals as goal

pub value-requires-clause-variable : goal.value-requires-clause-variable
value-requires-clause-variable c =
    let n = declared_length c.args.machine.now.core in
    let m = ap (λ k. length k.sets) c.core.ensures in
    omega (arith, m, n)
