use Rattle.std.proofs.Common.{◌≡◌, drop}
use Rattle.std.specs.List.{list_any}
use Rattle.opl_bind.specs.Written as spec
use Rattle.opl_bind.proofs.written.has_name.Given as goal

abbrev pub invariant-loop-dim : goal.invariant-loop-dim
invariant-loop-dim l = list_any spec.has_name l.dims ≡ list_any spec.has_name (drop l.dim-index l.dims)
