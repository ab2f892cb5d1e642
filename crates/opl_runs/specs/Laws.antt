-- What is known of the names of a model's decision variables, and of where they stand.
use Rattle.std.specs.Prelude.{◌≡◌, ◌||◌, not, List, [], Ok}
use Rattle.opl_tree.specs.declared.declaration.DeclTree.{DeclTree}
use Rattle.opl_term.specs.declared.term.Term.{Term}
use Rattle.opl_eval.specs.Evaluation.{Environment}
use Rattle.opl_meaning.specs.declared.variable.VariableItem.{VariableItem}
use Rattle.opl_meaning.specs.Runs.{Names, names_of, no_names}
use Rattle.opl_meaning.specs.Variables.{variables_in}
use Rattle.opl_draft.specs.Unrolled.{is_clean, is_mentioned}
use Rattle.opl_declared.specs.Kept.{declared_names}
use Rattle.opl_runs.specs.Scopes.{clean_by_form}

-- the names in a model's text are those of the variables that its declarations come to
abbrev pub NamesAreDeclared : Type 0
NamesAreDeclared = (env : Environment) (decls : List DeclTree) (items : List VariableItem) → variables_in env [] decls ≡ Ok items → names_of no_names decls ≡ declared_names items

-- a term is clean where it names no decision variable, and else by its form
abbrev pub CleanByForm : Type 0
CleanByForm = (items : List VariableItem) (names : Names) (t : Term) → is_clean items names t ≡ (not (is_mentioned items names t) || clean_by_form items names t)
