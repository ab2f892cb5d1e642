use Rattle.std.proofs.Common.{◌≡◌, ◌≤◌, length}
use Rattle.opl_engine.specs.States.{seen}
use Rattle.opl_search.specs.States.{back_to}
use Rattle.opl_solver.specs.Pairs.{both, IsPair}
use Rattle.opl_solver.proofs.Pairs.{reached}
use Rattle.opl_solver.proofs.together.go_back.Given as goal

abbrev pub invariant-loop-engine : goal.invariant-loop-engine
invariant-loop-engine l = record {
  pair : IsPair (seen l.engine) l.store;
  level : l.fn.level ≤ length l.store.below;
  reached : reached l.fn.level (both (seen l.engine) l.store) ≡ back_to l.fn.level (both (seen l.fn.engine) l.fn.store);
}

abbrev pub decreases-loop-engine : goal.decreases-loop-engine
decreases-loop-engine l = length l.store.below
