-- How two parts are compared.
use Rattle.std.specs.Prelude.{◌+◌, ℕ, Bool, true, false, [], ◌∷◌, Option, Some, None}
use Rattle.std.specs.Option.{option_map}
use Rattle.opl_tree.specs.declared.expression.Relation.{Relation}
use Rattle.opl_tree.specs.declared.expression.Relation.TheVariants.{Equal, NotEqual}
use Rattle.opl_value.specs.Places.{value_at}
use Rattle.opl_eval.specs.Compare.{relates}
use Rattle.opl_expr.specs.declared.forms.Cons.{Cons}
use Rattle.opl_expr.specs.declared.forms.Cons.TheVariants as C
use Rattle.opl_expr.specs.declared.forms.Expr.{Expr}
use Rattle.opl_expr.specs.declared.forms.Op.{Op}
use Rattle.opl_expr.specs.declared.forms.Op.TheVariants.{Eq, Ne}
use Rattle.opl_form.specs.Parts.{Form, alike, all_known, nothing, ranked, sort_of}
use Rattle.opl_form.specs.Nodes.{Made, by_kind, condition_node, op_of, sized}
use Rattle.opl_nodes.specs.declared.context.Context.{Context}
use Rattle.opl_nodes.specs.Pieces.{magnitude}

-- Whether a relation holds between two parts, where a variable is left in neither.
abbrev pub related : Relation → Form → Form → Option Bool
related r g h = option_map (λ vs. relates r (value_at vs 0) (value_at vs 1)) (all_known (g ∷ h ∷ []))

-- What parts of unlike kinds are asked in place of an equation or its contrary.
abbrev pub unlike : Bool → Relation → Option Op
unlike true r = None
unlike false Equal = Some Ne
unlike false NotEqual = Some Eq
unlike false r = None

-- Both expressions have values, and each is as it is to itself.
abbrev pub apart : Op → Expr → Expr → Cons
apart op e f = C.And (C.Cmp op (nothing e) (nothing e) ∷ C.Cmp op (nothing f) (nothing f) ∷ [])

-- A comparison of two parts of which one has a variable.
abbrev pub live_comparison : Context → ℕ → ℕ → Relation → Form → Form → Made Form
live_comparison c at n r g h =
    sized at (magnitude c (ranked g) + magnitude c (ranked h)) (condition_node c.item n (by_kind (alike (sort_of g) (sort_of h)) (op_of r) (ranked g) (ranked h)))
