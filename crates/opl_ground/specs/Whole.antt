-- When a core that is made of a model is a ground core.
use Rattle.std.specs.Prelude.{◌≡◌, Bool, true, false, ◌&&◌, List, [], Option, Some, None, Ok}
use Rattle.std.specs.List.{All, list_all}
use Rattle.opl_tree.specs.declared.model.ModelTree.{ModelTree}
use Rattle.opl_eval.specs.ArrayKeys.{IsKeyed}
use Rattle.opl_eval.specs.Evaluation.{Environment}
use Rattle.opl_bind.specs.Laws.{AreFilled}
use Rattle.opl_expr.specs.declared.model.Core.{Core}
use Rattle.opl_expr.specs.declared.model.Goal.{Goal}
use Rattle.opl_expr.specs.declared.tables.Table.{Table}
use Rattle.opl_show.specs.Texts.{Enumerations}
use Rattle.opl_trace.specs.GroundCores.{IsGroundCore, cons_stands, expr_stands}
use Rattle.opl_ground.specs.Ground.{grounded}

-- The objective, if there is one, asks for no capacity of a resource.
abbrev pub goal_stands : List Table → Option Goal → Bool
goal_stands tables None = true
goal_stands tables (Some g) = expr_stands tables [] false g.value

-- Neither a constraint nor the objective asks for the capacity of a resource.
abbrev pub asks_no_capacity : Core → Bool
asks_no_capacity core = list_all (cons_stands core.tables [] false) core.cons && goal_stands core.tables core.goal

-- A core is a ground core, if neither a constraint nor the objective asks for the capacity of a resource.
abbrev pub GroundedIsGround : Type 0
GroundedIsGround = (enumerations : Enumerations) (t : ModelTree) (env : Environment) (core : Core) → All (λ i. IsKeyed i.value) env.items → AreFilled env.items →
    grounded enumerations t env ≡ Ok core → asks_no_capacity core ≡ true → IsGroundCore core
