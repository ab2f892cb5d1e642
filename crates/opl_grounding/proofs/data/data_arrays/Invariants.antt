use Rattle.std.proofs.Common.{◌≡◌, ◌++◌, map, drop}
use Rattle.opl_eval.specs.Visible.{seen}
use Rattle.opl_draft.specs.Numbers.{arrays_of, data_entries}
use Rattle.opl_nodes.specs.Contexts.{cells}
use Rattle.opl_grounding.proofs.data.data_arrays.Given as goal

-- the arrays so far, and those of the declared names that are left
abbrev pub invariant-loop-place : goal.invariant-loop-place
invariant-loop-place l = map cells l.arrays ++ arrays_of (data_entries (drop l.place (seen l.environment).items)) ≡ arrays_of (data_entries (seen l.environment).items)
