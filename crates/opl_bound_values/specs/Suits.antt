-- When what binding is called with suits the declarations: the positions of fields, and the values that are assigned.
use Rattle.std.specs.Prelude.{◌≡◌, ℕ, true, List, [], ◌∷◌}
use Rattle.opl_tree.specs.declared.declaration.DataDeclTree.{DataDeclTree}
use Rattle.opl_tree.specs.declared.declaration.DeclTree.{DeclTree}
use Rattle.opl_tree.specs.declared.declaration.DeclTree.TheVariants as decls
use Rattle.opl_tree.specs.declared.declaration.DimTree.{DimTree}
use Rattle.opl_tree.specs.declared.declaration.InitialTree.{InitialTree}
use Rattle.opl_tree.specs.declared.declaration.InitialTree.TheVariants as initials
use Rattle.opl_type_rules.specs.Types.{Sort}
use Rattle.opl_type_rules.specs.Types.Sort.{int}
use Rattle.opl_type_rules.specs.Scope.{Scope}
use Rattle.opl_type_rules.specs.Forms.{form_add, form_set}
use Rattle.opl_declaration_types.specs.Declarations.{all_dims, next}
use Rattle.opl_typed_model.specs.Declares.{Declares, HasDims, IsType, written}
use Rattle.opl_typed_values.specs.Positions.{FieldsStand, SetStands}
use Rattle.opl_given.specs.declared.assigned.Override.{Override}
use Rattle.opl_given.specs.Assigned.{is_assigned}

-- the fields in the sets of dimensions have their positions
abbrev pub DimsStand : (ℕ → ℕ) → Scope → List DimTree → Type 0
DimsStand position sc [] = Unit {0}
DimsStand position sc (d ∷ ds) = SetStands position sc (form_set d.set) × DimsStand position sc ds

-- and those in an initial value
abbrev pub InitialStands : (ℕ → ℕ) → Scope → InitialTree → Type 0
InitialStands position sc (initials.External at) = Unit {0}
InitialStands position sc (initials.Written e) = FieldsStand position sc (form_add e)

-- the fields in an item's dimensions and in its initial value have their positions, and numbers are assigned to it only where its type is one of numbers
abbrev pub ItemSuits : (ℕ → ℕ) → List Override → Scope → DataDeclTree → Type 0
ItemSuits position os sc t =
    DimsStand position sc (all_dims t.dims) × ((is : List Sort) (inner : Scope) → HasDims sc t.dims is inner → InitialStands position inner t.initial) × (is_assigned t.name.text os ≡ true → IsType sc (written t.kind) int)

-- of one declaration
abbrev pub DeclSuits : (ℕ → ℕ) → List Override → Scope → DeclTree → Type 0
DeclSuits position os sc (decls.Data t) = ItemSuits position os sc t
DeclSuits position os sc d = Unit {0}

-- of declarations from number k on, each in the scope of those before it
abbrev pub AllSuit : (ℕ → ℕ) → List Override → ℕ → Scope → List DeclTree → Type 0
AllSuit position os k sc [] = Unit {0}
AllSuit position os k sc (d ∷ ds) = DeclSuits position os sc d × ((behind : Scope) → Declares k sc d behind → AllSuit position os (next k) behind ds)
