use Rattle.std.proofs.Common.{◌≡◌, ◌<◌, ℕ, true, length}
use Rattle.opl_filter.specs.Mentions.{lists}
use Rattle.opl_closure.proofs.watchers.pop_from.Given as goal

abbrev pub invariant-loop-last : goal.invariant-loop-last
invariant-loop-last l = (j : ℕ) → j < l.i → lists l.fn.list.items j ≡ true → lists l.list.items j ≡ true

abbrev pub decreases-loop-last : goal.decreases-loop-last
decreases-loop-last l = length l.list.items
