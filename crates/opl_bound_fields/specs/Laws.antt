-- The positions of fields that are found suit the declarations.
use Rattle.std.specs.Prelude.{◌≡◌, ◌<◌, ◌^◌, ℕ, List, [], ◌∷◌, ◌++◌, length, Ok}
use Rattle.std.specs.List.{AllByRecursion}
use Rattle.opl_tree.specs.declared.declaration.DataDeclTree.{DataDeclTree}
use Rattle.opl_tree.specs.declared.declaration.DeclTree.{DeclTree}
use Rattle.opl_tree.specs.declared.declaration.DeclTree.TheVariants as decls
use Rattle.opl_tree.specs.declared.model.ModelTree.{ModelTree}
use Rattle.opl_type_rules.specs.Scope.{empty_scope}
use Rattle.opl_typed_model.specs.Laws.{IsModel}
use Rattle.opl_fields.specs.declared.place.FieldPlace.{FieldPlace}
use Rattle.opl_fields.specs.Whole.{in_decls, model_fields}
use Rattle.opl_data.specs.declared.tree.DataTree.{DataTree}
use Rattle.opl_given.specs.Given.{Given, all_given}
use Rattle.opl_bind.specs.Bind.{Data, bound}
use Rattle.opl_fit.specs.Declared.{Stands}
use Rattle.opl_bound_values.specs.Laws.{HasItsForm}
use Rattle.opl_bound_values.specs.Suits.{AllSuit}

-- each of these fields has its position
abbrev pub Tells : (ℕ → ℕ) → List FieldPlace → Type 0
Tells position fs = AllByRecursion (λ f. position f.place ≡ f.position) fs

-- positions that tell those of the fields that declarations name suit the declarations, where no values are assigned
abbrev pub PositionsSuit : Type 0
PositionsSuit = (position : ℕ → ℕ) (ds : List DeclTree) → length ds < 2 ^ 32 → Tells position (in_decls ds 0 ds empty_scope) → AllSuit position [] 0 empty_scope ds

-- each value that binding gives has the form of its declared type
abbrev pub ValuesFit : (ℕ → ℕ) → ModelTree → List DataTree → Data → Type 0
ValuesFit position t files final =
    (given : Given) × (all_given t.decls files ≡ Ok given) × ((before after : List DeclTree) (item : DataDeclTree) → t.decls ≡ before ++ decls.Data item ∷ after → Stands position given [] before item final (HasItsForm item))

-- so it is in a model that has types
abbrev pub ModelValuesFit : Type 0
ModelValuesFit =
    (position : ℕ → ℕ) (t : ModelTree) (files : List DataTree) (final : Data) → length t.decls < 2 ^ 32 → IsModel t → Tells position (model_fields t) → bound position t.decls files [] ≡ Ok final → ValuesFit position t files final
