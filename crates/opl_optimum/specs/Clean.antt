-- Whether decision variables stand in an instruction only where they may, its objective included.
use Rattle.std.specs.Prelude.{Bool, true, ◌&&◌, List, Option, Some, None}
use Rattle.opl_tree.specs.declared.instruction.InstrTree.{InstrTree}
use Rattle.opl_meaning.specs.declared.variable.VariableItem.{VariableItem}
use Rattle.opl_meaning.specs.Runs.{Names}
use Rattle.opl_draft.specs.Clean.{is_clean_instr}
use Rattle.opl_draft.specs.Unrolled.{is_clean}
use Rattle.opl_optimum.specs.Optima.{Objective, objective_of}

module _ (items : List VariableItem) (names : Names) where
  abbrev pub is_clean_objective : Option Objective → Bool
  is_clean_objective None = true
  is_clean_objective (Some g) = is_clean items names g.term

  -- The objective and the items of a model's instruction.
  abbrev pub is_clean_whole : InstrTree → Bool
  is_clean_whole t = is_clean_objective (objective_of t) && is_clean_instr items names t
