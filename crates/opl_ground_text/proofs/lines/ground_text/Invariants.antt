use Rattle.std.proofs.Common.{◌≡◌, ◌++◌, length}
use Rattle.opl_ground_text.specs.Texts.{constraint_line, constraints_heading, lines, variable_line, variables_heading}
use Rattle.opl_ground_text.proofs.lines.ground_text.Given as goal

abbrev pub invariant-loop-number : goal.invariant-loop-number
invariant-loop-number l = l.text.items ≡ variables_heading l.core ++ lines (variable_line l.core) l.number

abbrev pub invariant-loop-number-2 : goal.invariant-loop-number-2
invariant-loop-number-2 l =
    l.text.items ≡ variables_heading l.core ++ lines (variable_line l.core) (length l.core.sets) ++ constraints_heading l.core ++ lines (constraint_line l.core) l.number
