use Rattle.std.proofs.Common.{◌≡◌, ◌++◌, map, drop}
use Rattle.opl_form.specs.Parts.{tables}
use Rattle.opl_nodes.specs.Contexts.{cells}
use Rattle.opl_grounding.proofs.tables.tables_of.Given as goal

-- the tables so far, and those of the arrays that are left
abbrev pub invariant-loop-array : goal.invariant-loop-array
invariant-loop-array l = l.tables ++ tables (map cells (drop l.array-index l.arrays)) ≡ tables (map cells l.arrays)
