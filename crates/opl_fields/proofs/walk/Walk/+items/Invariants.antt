use Rattle.std.proofs.Common.{◌≡◌, map, drop}
use Rattle.opl_fields.specs.Trees.{walk_item}
use Rattle.opl_fields.specs.Walk.{each}
use Rattle.opl_fields.proofs.walk.Walk.+items.Given as goal

abbrev pub invariant-item_list-loop-t : goal.invariant-item_list-loop-t
invariant-item_list-loop-t l = each (map (walk_item l.decls) (drop l.t-index l.items)) l.self ≡ each (map (walk_item l.decls) l.items) l.fn.self
