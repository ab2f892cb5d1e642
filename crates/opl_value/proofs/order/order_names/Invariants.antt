use Rattle.std.proofs.Common.{◌≡◌, drop}
use Rattle.std.specs.Ordering.{nat_cmp}
use Rattle.std.specs.Cmp.Lexicographic.{slice_cmp}
use Rattle.opl_value.proofs.order.order_names.Given as goal

abbrev pub invariant-loop-name : goal.invariant-loop-name
invariant-loop-name l = slice_cmp (slice_cmp nat_cmp) l.names l.others ≡ slice_cmp (slice_cmp nat_cmp) (drop l.name-index l.names) l.left
