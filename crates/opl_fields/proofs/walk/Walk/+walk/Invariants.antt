use Rattle.std.proofs.Common.{◌≡◌, map, drop}
use Rattle.opl_fields.specs.Walk.{each, in_turn, walk, walk_step, walk_group}
use Rattle.opl_fields.proofs.walk.Walk.+walk.Given as goal

abbrev pub invariant-terms-loop-t : goal.invariant-terms-loop-t
invariant-terms-loop-t l = each (map (walk l.decls) (drop l.t-index l.ts)) l.self ≡ each (map (walk l.decls) l.ts) l.fn.self

abbrev pub invariant-steps-loop-step : goal.invariant-steps-loop-step
invariant-steps-loop-step l = each (map (walk_step l.decls) (drop l.step-index l.steps)) l.self ≡ each (map (walk_step l.decls) l.steps) l.fn.self

abbrev pub invariant-groups-loop-group : goal.invariant-groups-loop-group
invariant-groups-loop-group l = each (map (walk_group l.decls) (drop l.group-index l.groups)) l.self ≡ each (map (walk_group l.decls) l.groups) l.fn.self

abbrev pub invariant-term-loop-i : goal.invariant-term-loop-i
invariant-term-loop-i l = in_turn (map (walk l.decls) (drop l.i l.key-items)) (map (walk l.decls) (drop l.i l.cells)) l.self ≡ walk l.decls l.t l.fn.self
