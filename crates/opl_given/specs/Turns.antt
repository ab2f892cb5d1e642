-- The names of dimensions, each for an element.
use Rattle.std.specs.Prelude.{List, [], ◌∷◌, Option, Some, None}
use Rattle.opl_tree.specs.declared.expression.NameTree.{NameTree}
use Rattle.opl_value.specs.declared.value.Value.{Value}
use Rattle.opl_eval.specs.Evaluation.{Parameter}

-- an element under the name of its dimension, if it has one
abbrev pub named : Option NameTree → Value → List Parameter
named (Some name) v = record { name = name.text; value = v } ∷ []
named None v = []
