-- The positions of fields in their structs.
use Rattle.std.specs.Prelude.{ℕ, cond, nat_eq, List, [], ◌∷◌, Result, Ok, Err}
use Rattle.opl_fields.specs.Fields.{fields}
use Rattle.opl_fields.specs.declared.place.FieldPlace.{FieldPlace}
use Rattle.opl_tree.specs.declared.model.ModelTree.{ModelTree}
use Rattle.opl_model_types.specs.Models.{model}
use Rattle.opl_type_rules.specs.Types.{Sort}
use Rattle.opl_type_rules.specs.declared.fault.TypeFault.{TypeFault}

-- the types of a model's expressions in preorder
abbrev pub kinds_or_none : Result (List Sort) TypeFault → List Sort
kinds_or_none (Ok kinds) = kinds
kinds_or_none (Err fault) = []

-- the position of the latest field with that place, else the one before
abbrev pub position_or : ℕ → ℕ → List FieldPlace → ℕ
position_or before place [] = before
position_or before place (f ∷ fs) = position_or (cond (nat_eq place f.place) f.position before) place fs

-- the position in its struct of the field whose name stands at a place of a model
unfoldable pub positions : ModelTree → ℕ → ℕ
positions tree place = position_or 0 place (fields tree (kinds_or_none (model tree)))
