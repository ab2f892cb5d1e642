-- Laws of the decision variables of declarations.
use Rattle.std.specs.Prelude.{◌≡◌, List, [], map, Ok}
use Rattle.std.specs.List.{All}
use Rattle.opl_tree.specs.declared.declaration.DeclTree.{DeclTree}
use Rattle.opl_eval.specs.Evaluation.{Environment}
use Rattle.opl_meaning.specs.declared.variable.VariableItem.{VariableItem}
use Rattle.opl_meaning.specs.Formulas.{names_in}
use Rattle.opl_meaning.specs.Laws.{HasOneSet}
use Rattle.opl_meaning.specs.Runs.{names_of, no_names}
use Rattle.opl_meaning.specs.Solutions.{scope_of}
use Rattle.opl_meaning.specs.Variables.{variables_in}

-- a variable that is no array has one declared set
abbrev pub SinglesHaveOneSet : Type 0
SinglesHaveOneSet = (env : Environment) (decls : List DeclTree) (items : List VariableItem) → variables_in env [] decls ≡ Ok items → All HasOneSet items

-- the variables have the names of their declarations, in order
abbrev pub VariablesAreNamed : Type 0
VariablesAreNamed = (env : Environment) (decls : List DeclTree) (items : List VariableItem) → variables_in env [] decls ≡ Ok items →
    map (λ v. v.name) items ≡ (names_of no_names decls).all

-- the names of the variables, and of those that are no arrays, are those of the declarations
abbrev pub ScopeIsDeclared : Type 0
ScopeIsDeclared = (env : Environment) (decls : List DeclTree) (items : List VariableItem) → variables_in env [] decls ≡ Ok items →
    names_in (scope_of items) ≡ names_of no_names decls
