use Rattle.std.proofs.Common.{◌≡◌, ◌+◌, ◌≤◌, reverse}
use Rattle.opl_search.specs.Pending.{comes, Goes, weight, closings, leaves}
use Rattle.opl_search.proofs.search.Search.path.Given as goal

abbrev pub invariant-loop-alloc : goal.invariant-loop-alloc
invariant-loop-alloc g l =
    let s = g.S.Solver.state l.fn.self.solver in
    let os = reverse l.fn.self.opens.items in
    record {
      goes : Goes s (comes s os l.fn.self.left l.fn.first) l.fn.self.left (g.S.Solver.state l.self.solver) (reverse l.self.opens.items) l.self.left l.turn;
      same : l.self.left ≡ l.fn.self.left;
      closings : closings l.turn + l.self.left + l.steps ≤ closings l.fn.first + l.fn.self.left + l.fn.steps;
      leaves : leaves l.turn + l.self.left ≤ leaves l.fn.first + l.fn.self.left;
    }

abbrev pub decreases-loop-alloc : goal.decreases-loop-alloc
decreases-loop-alloc g l = weight (g.S.Solver.state l.self.solver) (reverse l.self.opens.items) l.self.left l.turn
