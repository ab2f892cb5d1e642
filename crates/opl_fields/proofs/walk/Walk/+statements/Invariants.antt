use Rattle.std.proofs.Common.{◌≡◌, map, drop}
use Rattle.opl_fields.specs.Trees.{walk_statement, walk_statements}
use Rattle.opl_fields.specs.Walk.{each}
use Rattle.opl_fields.proofs.walk.Walk.+statements.Given as goal

abbrev pub invariant-branches-loop-t : goal.invariant-branches-loop-t
invariant-branches-loop-t l = each (map (walk_statements l.decls) (drop l.t-index l.parts)) l.self ≡ each (map (walk_statements l.decls) l.parts) l.fn.self

abbrev pub invariant-statement_list-loop-t : goal.invariant-statement_list-loop-t
invariant-statement_list-loop-t l = each (map (walk_statement l.decls) (drop l.t-index l.parts)) l.self ≡ each (map (walk_statement l.decls) l.parts) l.fn.self
