use Rattle.std.proofs.Common.{◌≡◌, take, true}
use Rattle.std.specs.List.{list_all}
use Rattle.opl_trace.specs.GroundCores.{expr_fits, cons_fits}
use Rattle.opl_sound.proofs.fitting.+fitting.Given as goal

abbrev pub invariant-expressions_fit-loop-part : goal.invariant-expressions_fit-loop-part
invariant-expressions_fit-loop-part l = list_all (expr_fits l.core.tables l.core.resources l.decides l.depth) (take l.part-index l.parts) ≡ true

abbrev pub invariant-constraints_fit-loop-part : goal.invariant-constraints_fit-loop-part
invariant-constraints_fit-loop-part l = list_all (cons_fits l.core.tables l.core.resources l.decides l.depth) (take l.part-index l.parts) ≡ true
