-- Values of data expressions are of the types that typing finds.
use Rattle.std.specs.Prelude.{◌≡◌, ℕ, Bool, true, Ok}
use Rattle.opl_tree.specs.declared.expression.AddTree.{AddTree}
use Rattle.opl_term.specs.Terms.{add_term}
use Rattle.opl_type_rules.specs.Types.{Sort, is_storable}
use Rattle.opl_type_rules.specs.Scope.{Scope, and_then, field_sorts}
use Rattle.opl_type_rules.specs.Forms.{form_add}
use Rattle.opl_type_rules.specs.Expressions.{Node, typing, used}
use Rattle.opl_type_rules.specs.Expressions.Need.{data_alone}
use Rattle.opl_value.specs.declared.value.Value.{Value}
use Rattle.opl_eval.specs.Evaluation.{Environment, eval}
use Rattle.opl_typed_values.specs.OfSort.{HasSort}
use Rattle.opl_typed_values.specs.Positions.{FieldsStand}
use Rattle.opl_typed_values.specs.Visible.{AreOfTheirSorts}

-- where typing takes an expression as data, the visible names have values of their types, and the fields of which its value is made have their positions, its value is of the type that typing finds
abbrev pub ValuesAreOfTheirSorts : Type 0
ValuesAreOfTheirSorts =
    (names : ℕ → ℕ) (sc : Scope) (env : Environment) (e : AddTree) (takes : Sort → Bool) (n : Node) (v : Value) →
    AreOfTheirSorts names sc env → FieldsStand env.position sc (form_add e) → and_then (typing sc (form_add e)) (used data_alone takes) ≡ Ok n → is_storable n.sort ≡ true → eval (add_term e) env ≡ Ok v →
    HasSort (field_sorts sc) names n.sort v
