use Rattle.std.proofs.Common.{◌≡◌, take, true}
use Rattle.std.specs.List.{list_all}
use Rattle.opl_expr.specs.Laws.{all_differ}
use Rattle.opl_sound.proofs.tables.are_clear.Given as goal

abbrev pub invariant-loop-dim : goal.invariant-loop-dim
invariant-loop-dim l = list_all all_differ (take l.dim-index l.dims) ≡ true
