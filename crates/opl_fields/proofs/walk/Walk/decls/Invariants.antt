use Rattle.std.proofs.Common.{◌≡◌, map, drop}
use Rattle.opl_fields.specs.Trees.{walk_decl}
use Rattle.opl_fields.specs.Walk.{each}
use Rattle.opl_fields.proofs.walk.Walk.decls.Given as goal

abbrev pub invariant-loop-t : goal.invariant-loop-t
invariant-loop-t l = each (map (walk_decl l.decls) (drop l.t-index l.parts)) l.self ≡ each (map (walk_decl l.decls) l.parts) l.fn.self
