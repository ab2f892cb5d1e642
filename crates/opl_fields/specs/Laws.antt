-- The walk and typing go together.
use Rattle.std.specs.Prelude.{◌≡◌, ℕ, ◌<◌, ◌^◌, List, [], ◌∷◌, ◌++◌, map, length, Option, Some, Ok}
use Rattle.std.specs.List.{slice_get}
use Rattle.opl_tree.specs.declared.declaration.DeclTree.{DeclTree}
use Rattle.opl_tree.specs.declared.expression.ExprTree.{ExprTree}
use Rattle.opl_tree.specs.declared.expression.NameTree.{NameTree}
use Rattle.opl_tree.specs.declared.model.ModelTree.{ModelTree}
use Rattle.opl_term.specs.Terms.{expr_term}
use Rattle.opl_type_rules.specs.Types.{Sort}
use Rattle.opl_type_rules.specs.Types.Sort.{structure}
use Rattle.opl_type_rules.specs.Scope.{Scope, empty_scope, field_sort, fields}
use Rattle.opl_type_rules.specs.Forms.{Form, Params, form_expr}
use Rattle.opl_type_rules.specs.Forms.Form.{field}
use Rattle.opl_type_rules.specs.Expressions.{Node, Need, Opened, kinds, typing, open_params}
use Rattle.opl_model_types.specs.Declarations.{all_decls}
use Rattle.opl_model_types.specs.Models.{model}
use Rattle.opl_fields.specs.declared.place.FieldPlace.{FieldPlace}
use Rattle.opl_fields.specs.Structs.{field_names, position}
use Rattle.opl_fields.specs.Walk.{State, walk}
use Rattle.opl_fields.specs.Trees.{walk_model}
use Rattle.opl_fields.specs.Fields.{record_of}
use Rattle.opl_fields.specs.Typed.{form_fields}
use Rattle.opl_fields.specs.Whole.{model_fields}

-- what a walk knows, of the types that follow
abbrev pub known : List FieldPlace → List (Option ℕ) → State
known found records = record { found = found; records = records }

-- where typing accepts an expression, the walk over it takes exactly the types that typing lists, whatever follows them, and finds the
-- fields that typing tells
abbrev pub WalkFollowsTyping : Type 0
WalkFollowsTyping =
    (ds : List DeclTree) (sc : Scope) (t : ExprTree) (n : Node) → typing sc (form_expr t) ≡ Ok n →
    (found : List FieldPlace) (rest : List (Option ℕ)) →
    walk ds (expr_term t) (known found (map record_of (kinds n) ++ rest)) ≡ known (found ++ form_fields ds sc (form_expr t)) rest

-- where typing accepts a model, the walk over it takes exactly the types that typing lists, whatever follows them, and finds the fields that the model names
abbrev pub WalkFindsAll : Type 0
WalkFindsAll =
    (t : ModelTree) (ks : List Sort) → model t ≡ Ok ks → (found : List FieldPlace) (rest : List (Option ℕ)) →
    walk_model t (known found (map record_of ks ++ rest)) ≡ known (found ++ model_fields t) rest

-- at the position of a field stands the field's name
abbrev pub PositionsAreRight : Type 0
PositionsAreRight = (ds : List DeclTree) (k : ℕ) (name : List ℕ) (p : ℕ) → position ds k name ≡ Some p → slice_get (field_names ds k) p ≡ Some name

-- each field that typing finds in a struct visible in the scope has a position in that struct
abbrev pub HavePositions : List DeclTree → Scope → Type 0
HavePositions ds sc = (k : ℕ) (name : List ℕ) (s : Sort) → field_sort name (fields sc k) ≡ Some s → (p : ℕ) × (position ds k name ≡ Some p)

-- that is so behind the declarations, where there are fewer than 2^32
abbrev pub FieldsHavePositions : Type 0
FieldsHavePositions = (ds : List DeclTree) (o : Opened) → length ds < 2 ^ 32 → all_decls 0 empty_scope ds ≡ Ok o → HavePositions ds o.scope

-- and it stays so inside parameters
abbrev pub ParametersKeepPositions : Type 0
ParametersKeepPositions =
    (ds : List DeclTree) (need : Need) (sc : Scope) (p : Params) (o : Opened) → HavePositions ds sc → open_params need sc p ≡ Ok o → HavePositions ds o.scope

-- so where typing accepts `e.f` and e is a record, the field is told, last of those in `e.f`, with its position in the record's struct
abbrev pub FieldsAreTold : Type 0
FieldsAreTold =
    (ds : List DeclTree) (sc : Scope) (at : ℕ) (f : Form) (name : NameTree) (base n : Node) (k : ℕ) →
    HavePositions ds sc → typing sc f ≡ Ok base → base.sort ≡ structure k → typing sc (field at f name) ≡ Ok n →
    (p : ℕ) × (position ds k name.text ≡ Some p) × (form_fields ds sc (field at f name) ≡ form_fields ds sc f ++ record { place = name.at; position = p } ∷ [])
