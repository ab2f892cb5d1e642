-- The positions of the fields that a model names, by the types of its expressions.
use Rattle.std.specs.Prelude.{ℕ, List, map, Option, Some, None}
use Rattle.opl_tree.specs.declared.model.ModelTree.{ModelTree}
use Rattle.opl_type_rules.specs.Types.{Sort}
use Rattle.opl_type_rules.specs.Types.Sort.{structure}
use Rattle.opl_fields.specs.declared.place.FieldPlace.{FieldPlace}
use Rattle.opl_fields.specs.Walk.{before}
use Rattle.opl_fields.specs.Trees.{walk_model}

-- the number of the struct of which an expression of this type is a record
abbrev pub record_of : Sort → Option ℕ
record_of (structure k) = Some k
record_of s = None

-- the fields named, in the order of the text, where these are the types of the model's expressions in preorder
unfoldable pub fields : ModelTree → List Sort → List FieldPlace
fields t kinds = (walk_model t (before (map record_of kinds))).found
