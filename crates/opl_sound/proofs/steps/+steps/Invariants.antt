use Rattle.std.proofs.Common.{◌≡◌, ◌≤◌, map, length, drop, true}
use Rattle.opl_trace.specs.Statements.{statement, statements_of, branches_of}
use Rattle.opl_sound.specs.Cores.{element, fit_statements, fit_branches}
use Rattle.opl_sound.proofs.steps.+steps.Given as goal

abbrev pub invariant-fit_statements-loop-left : goal.invariant-fit_statements-loop-left
invariant-fit_statements-loop-left l = (l.left ≤ length l.parts) × (fit_statements l.core.sets (statements_of (map (statement l.core.tables l.core.resources) (drop l.left l.parts))) ≡ true)

abbrev pub decreases-fit_statements-loop-left : goal.decreases-fit_statements-loop-left
decreases-fit_statements-loop-left l = l.left

abbrev pub invariant-fit_branches-loop-left : goal.invariant-fit_branches-loop-left
invariant-fit_branches-loop-left l = (l.left ≤ length l.parts) × (fit_branches l.core.sets (branches_of (map (element l.core.tables l.core.resources) (drop l.left l.parts))) ≡ true)

abbrev pub decreases-fit_branches-loop-left : goal.decreases-fit_branches-loop-left
decreases-fit_branches-loop-left l = l.left
