use Rattle.std.proofs.Common.{◌≡◌, ◌++◌, map, drop}
use Rattle.opl_draft.specs.Numbers.{arrays_of, variable_entries}
use Rattle.opl_nodes.specs.Contexts.{cells}
use Rattle.opl_grounding.proofs.variables.push_variables.Given as goal

-- the arrays so far, and those of the declarations that are left
abbrev pub invariant-loop-item : goal.invariant-loop-item
invariant-loop-item l = map cells l.arrays ++ arrays_of (variable_entries l.number (drop l.item-index l.items)) ≡ map cells l.fn.arrays ++ arrays_of (variable_entries 0 l.items)
