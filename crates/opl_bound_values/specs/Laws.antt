-- Laws of the values that binding gives.
use Rattle.std.specs.Prelude.{◌≡◌, ◌<◌, ◌^◌, ℕ, List, ◌∷◌, ◌++◌, length, Ok}
use Rattle.opl_tree.specs.declared.declaration.DataDeclTree.{DataDeclTree}
use Rattle.opl_tree.specs.declared.declaration.DeclTree.{DeclTree}
use Rattle.opl_tree.specs.declared.declaration.DeclTree.TheVariants as decls
use Rattle.opl_type_rules.specs.Scope.{Scope, empty_scope}
use Rattle.opl_typed_model.specs.Declares.{AllDeclare}
use Rattle.opl_data.specs.declared.tree.DataTree.{DataTree}
use Rattle.opl_value.specs.declared.value.Value.{Value}
use Rattle.opl_typed_values.specs.Visible.{AreOfTheirSorts}
use Rattle.opl_given.specs.declared.assigned.Override.{Override}
use Rattle.opl_given.specs.Forms.{form_of, names_of}
use Rattle.opl_given.specs.Given.{Given, all_given}
use Rattle.opl_bind.specs.Bind.{Data, bound}
use Rattle.opl_fit.specs.Declared.{ItemIs, Stands}
use Rattle.opl_fit.specs.Fits.{Fits}
use Rattle.opl_bound_values.specs.Suits.{AllSuit}

-- the value of an item has the form of its type, as the declarations before it tell it
abbrev pub HasItsForm : DataDeclTree → Data → Value → Type 0
HasItsForm t d v = ItemIs (Fits d.known (form_of t.kind d.known)) d t.dims v

-- where declarations have types, as those of each model that is typed, each value that binding gives has the form of its declared type
abbrev pub BoundValuesFit : Type 0
BoundValuesFit =
    (position : ℕ → ℕ) (ds : List DeclTree) (inner : Scope) (files : List DataTree) (os : List Override) (final : Data) →
    length ds < 2 ^ 32 → AllDeclare 0 empty_scope ds inner → AllSuit position os 0 empty_scope ds → bound position ds files os ≡ Ok final →
    (given : Given) × (all_given ds files ≡ Ok given) × ((before after : List DeclTree) (t : DataDeclTree) → ds ≡ before ++ decls.Data t ∷ after → Stands position given os before t final (HasItsForm t))

-- and the values of the names of data are of their types
abbrev pub BoundNamesAreOfTheirSorts : Type 0
BoundNamesAreOfTheirSorts =
    (position : ℕ → ℕ) (ds : List DeclTree) (inner : Scope) (files : List DataTree) (os : List Override) (final : Data) →
    length ds < 2 ^ 32 → AllDeclare 0 empty_scope ds inner → AllSuit position os 0 empty_scope ds → bound position ds files os ≡ Ok final →
    AreOfTheirSorts (λ k. length (names_of final.known k)) inner final.environment
