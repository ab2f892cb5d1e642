-- Where expressions stand in declarations, items and statements, and what each place takes: one clause for each row of the table of places.
use Rattle.std.specs.Prelude.{Bool, Option, Some, None}
use Rattle.opl_tree.specs.declared.expression.AddTree.{AddTree}
use Rattle.opl_type_rules.specs.Types.{Sort, is_number}
use Rattle.opl_type_rules.specs.Scope.{Scope}
use Rattle.opl_type_rules.specs.Forms.{Form, form_add}
use Rattle.opl_type_rules.specs.Expressions.{Need}
use Rattle.opl_type_rules.specs.Expressions.Need.{data_alone}
use Rattle.opl_typed.specs.Relation.{Typed, HasType, Is, Meets}

-- an expression that meets the need of its place and is such
abbrev pub Stands : Scope → Need → (Sort → Bool) → Form → Type 0
Stands sc need takes f = (a : Typed) × HasType sc f a × Meets need a × Is takes a

-- an end of a range or of `in`, a duration, a capacity, a demand, `scheduleOrigin`, `scheduleHorizon`: a number that is data
abbrev pub IsDataNumber : Scope → AddTree → Type 0
IsDataNumber sc t = Stands sc data_alone is_number (form_add t)

-- the same, where it may be missing
abbrev pub MayBeDataNumber : Scope → Option AddTree → Type 0
MayBeDataNumber sc None = Unit {0}
MayBeDataNumber sc (Some t) = IsDataNumber sc t
