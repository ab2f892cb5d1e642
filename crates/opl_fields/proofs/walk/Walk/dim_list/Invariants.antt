use Rattle.std.proofs.Common.{◌≡◌, map, drop}
use Rattle.opl_fields.specs.Trees.{walk_dim}
use Rattle.opl_fields.specs.Walk.{each}
use Rattle.opl_fields.proofs.walk.Walk.dim_list.Given as goal

abbrev pub invariant-loop-t : goal.invariant-loop-t
invariant-loop-t l = each (map (walk_dim l.decls) (drop l.t-index l.dims)) l.self ≡ each (map (walk_dim l.decls) l.dims) l.fn.self
