use Rattle.std.proofs.Common.{◌≡◌, ◌+◌, ◌≤◌, reverse}
use Rattle.std.specs.Prelude.{None}
use Rattle.opl_search.specs.Pending.{comes, Goes, closings, leaves, answer_of}
use Rattle.opl_search.proofs.search.Search.go_on.Given as goal

abbrev pub invariant-loop-turn : goal.invariant-loop-turn
invariant-loop-turn g l =
    let s = g.S.Solver.state l.fn.self.solver in
    let os = reverse l.fn.self.opens.items in
    record {
      goes : Goes s (comes s os l.fn.self.left l.fn.first) l.fn.self.left (g.S.Solver.state l.self.solver) (reverse l.self.opens.items) l.self.left l.turn;
      none : answer_of l.turn ≡ None;
      closings : closings l.turn + l.self.left + l.steps ≤ closings l.fn.first + l.fn.self.left + l.fn.steps;
      leaves : leaves l.turn + l.self.left ≤ leaves l.fn.first + l.fn.self.left;
    }

abbrev pub decreases-loop-turn : goal.decreases-loop-turn
decreases-loop-turn g l = l.self.left
