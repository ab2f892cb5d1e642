-- The names of the decision variables of declarations.
use Rattle.std.specs.Prelude.{List, [], ◌∷◌, ◌++◌}
use Rattle.opl_tree.specs.declared.declaration.DeclTree.{DeclTree}
use Rattle.opl_tree.specs.declared.declaration.DeclTree.TheVariants as decls
use Rattle.opl_type_rules.specs.Scope.{Text}

abbrev pub variable_name : DeclTree → List Text
variable_name (decls.Variable t) = t.name.text ∷ []
variable_name t = []

-- in the order of the declarations
abbrev pub variable_names : List DeclTree → List Text
variable_names [] = []
variable_names (t ∷ ts) = variable_name t ++ variable_names ts
