-- How large a core is, as ground cores count it.
use Rattle.std.specs.Prelude.{◌≡◌, ◌≤◌, Option, Some, None, Ok}
use Rattle.std.specs.List.{All}
use Rattle.opl_tree.specs.declared.model.ModelTree.{ModelTree}
use Rattle.opl_eval.specs.ArrayKeys.{IsKeyed}
use Rattle.opl_eval.specs.Evaluation.{Environment}
use Rattle.opl_bind.specs.Laws.{AreFilled}
use Rattle.opl_expr.specs.declared.model.Core.{Core}
use Rattle.opl_expr.specs.declared.model.Goal.{Goal}
use Rattle.opl_show.specs.Texts.{Enumerations}
use Rattle.opl_trace.specs.GroundCores.{cons_depth, core_nodes, expr_depth, most_deep}
use Rattle.opl_ground.specs.Ground.{grounded}

-- An objective at most 2,048 deep.
abbrev pub IsShallow : Option Goal → Type 0
IsShallow None = Unit {0}
IsShallow (Some g) = expr_depth g.value ≤ most_deep

-- Constraints and an objective at most 2,048 deep, and at most 4,194,304 nodes in the whole core.
pub record IsMeasured (core : Core) : Type 0 where
  pub depth : All (λ c. cons_depth c ≤ most_deep) core.cons
  pub goal : IsShallow core.goal
  pub nodes : core_nodes core ≤ 4194304

-- A core is within these limits.
abbrev pub GroundedIsMeasured : Type 0
GroundedIsMeasured = (enumerations : Enumerations) (t : ModelTree) (env : Environment) (core : Core) → All (λ i. IsKeyed i.value) env.items → AreFilled env.items →
    grounded enumerations t env ≡ Ok core → IsMeasured core
