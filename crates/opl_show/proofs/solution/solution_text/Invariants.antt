use Rattle.std.proofs.Common.{◌≡◌, ◌++◌, drop}
use Rattle.opl_show.specs.Readings.{names_of}
use Rattle.opl_show.specs.Texts.{objective_line, solution_text, value_lines}
use Rattle.opl_show.proofs.solution.solution_text.Given as goal

abbrev pub invariant-loop-item : goal.invariant-loop-item
invariant-loop-item l = l.text.items ++ (value_lines (names_of l.enumerations) (drop l.item-index l.items) l.left ++ objective_line l.fn.value)
    ≡ solution_text (names_of l.enumerations) l.items l.fn.number l.fn.numbers l.fn.value
