use Rattle.std.proofs.Common.{◌≡◌, take}
use Rattle.opl_expr.proofs.copy_core.dimensions.Given as goal

abbrev pub invariant-loop-dim : goal.invariant-loop-dim
invariant-loop-dim l = l.copies ≡ take l.dim-index l.dims
