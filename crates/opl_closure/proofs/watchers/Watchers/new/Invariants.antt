use Rattle.std.proofs.Common.{◌≡◌, [], map, replicate}
use Rattle.opl_closure.proofs.watchers.Watchers.new.Given as goal

abbrev pub invariant-loop-x : goal.invariant-loop-x
invariant-loop-x l = map (λ v. v.items) l.lists.items ≡ replicate l._x []
