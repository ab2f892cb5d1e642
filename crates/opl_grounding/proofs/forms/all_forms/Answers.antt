use Rattle.std.proofs.Common.{List, subst, sym, ◌∙◌}
use Rattle.opl_eval.specs.Visible.{seen}
use Rattle.opl_meaning.specs.declared.variable.VariableItem.{VariableItem}
use Rattle.opl_grounding.specs.Grounds.{MakesForms}
use Rattle.opl_grounding.proofs.Posting.{names-kept}
use Rattle.opl_grounding.proofs.forms.all_forms.Goals as goal

pub declared_forms-requires-clause-names : goal.declared_forms-requires-clause-names
declared_forms-requires-clause-names c =
    c.names_are_declared.ensures (seen c.args.environment.now) c.args.tree.now.decls c.args.variables.now c.requires.variables
    ∙ sym (names-kept c.in_ok-declared.declared c.args.variables.now c.in_ok-declared.ensures.items c.in_ok-declared.ensures.names)

pub returns : goal.returns
returns c = subst (λ (vs : List VariableItem). MakesForms c.args.tree.now (seen c.args.environment.now) vs c.declared_forms.result) c.in_ok-declared.ensures.items c.declared_forms.ensures
