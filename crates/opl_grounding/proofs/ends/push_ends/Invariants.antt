use Rattle.std.proofs.Common.{◌≡◌, ◌++◌, map, drop}
use Rattle.opl_grounding.proofs.ends.push_ends.Given as goal

-- the ends so far, and those that are left
abbrev pub invariant-loop-set : goal.invariant-loop-set
invariant-loop-set l = l.ends ++ map (λ set. (set.low, set.high)) (drop l.set-index l.sets) ≡ l.fn.ends ++ map (λ set. (set.low, set.high)) l.sets
