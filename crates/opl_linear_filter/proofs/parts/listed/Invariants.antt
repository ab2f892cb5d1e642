use Rattle.std.proofs.Common.{◌≡◌}
use Rattle.std.specs.BTreeMap.{btree_map_len}
use Rattle.opl_linear.specs.Linear.{opposite}
use Rattle.opl_linear_filter.proofs.Listing.{IsListed}
use Rattle.opl_linear_filter.proofs.parts.listed.Given as goal

abbrev pub invariant-loop-x : goal.invariant-loop-x
invariant-loop-x l = IsListed l.fn.factors l.left l.parts × (l.opposites ≡ opposite l.parts)

abbrev pub decreases-loop-x : goal.decreases-loop-x
decreases-loop-x l = btree_map_len l.left
