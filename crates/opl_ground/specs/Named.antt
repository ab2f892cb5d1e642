-- Each variable of a core has a name.
use Rattle.std.specs.Prelude.{◌≡◌, length, Ok}
use Rattle.opl_tree.specs.declared.model.ModelTree.{ModelTree}
use Rattle.opl_eval.specs.Evaluation.{Environment}
use Rattle.opl_expr.specs.declared.model.Core.{Core}
use Rattle.opl_show.specs.Texts.{Enumerations}
use Rattle.opl_ground.specs.Ground.{grounded}

-- A core has as many names as variables.
abbrev pub GroundedIsNamed : Type 0
GroundedIsNamed = (enumerations : Enumerations) (t : ModelTree) (env : Environment) (core : Core) → grounded enumerations t env ≡ Ok core → length core.names ≡ length core.sets
