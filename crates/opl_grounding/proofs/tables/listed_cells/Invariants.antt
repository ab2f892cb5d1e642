use Rattle.std.proofs.Common.{◌≡◌, ◌++◌, map, drop}
use Rattle.opl_eval.specs.Compare.{rank}
use Rattle.opl_expr.specs.declared.tables.Cell.TheVariants as cell
use Rattle.opl_grounding.proofs.tables.listed_cells.Given as goal

-- the cells so far, and those of the values that are left
abbrev pub invariant-loop-value : goal.invariant-loop-value
invariant-loop-value l = l.found ++ map (λ v. cell.Const (rank v)) (drop l.value-index l.values) ≡ map (λ v. cell.Const (rank v)) l.values
