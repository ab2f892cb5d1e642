-- Laws of what a model declares.
use Rattle.std.specs.Prelude.{List}
use Rattle.std.specs.List.{All}
use Rattle.opl_eval.specs.ArrayKeys.{IsKeyed}
use Rattle.opl_eval.specs.Evaluation.{Environment}
use Rattle.opl_bind.specs.Laws.{AreFilled}
use Rattle.opl_meaning.specs.declared.variable.VariableItem.{VariableItem}
use Rattle.opl_draft.specs.Laws.{arrays}
use Rattle.opl_form.specs.Laws.{AreSoundArrays, declared_ends}
use Rattle.opl_ground.specs.Declared.{IsLaidOut}

-- The arrays of a model are sound where places can be found in the index spaces of those of the data, each has one cell for each of its keys, and those of
-- variables are laid out.
abbrev pub ArraysAreSound : Type 0
ArraysAreSound = (env : Environment) (items : List VariableItem) → All (λ i. IsKeyed i.value) env.items → AreFilled env.items → All IsLaidOut items →
    AreSoundArrays (declared_ends items) (arrays env items)
