use Rattle.std.proofs.Common.{◌++◌, ap, sym, ◌∙◌}
use Rattle.opl_eval.specs.Visible.{seen}
use Rattle.opl_draft.specs.Numbers.{arrays_of, data_entries, variable_entries}
use Rattle.opl_grounding.proofs.InTurn.{arrays-append}
use Rattle.opl_grounding.proofs.arrays.all_arrays.Goals as goal

pub returns : goal.returns
returns c =
    c.in_ok-push_variables.ensures ∙ ap (λ xs. xs ++ arrays_of (variable_entries 0 c.args.variables.now)) c.in_ok-arrays.ensures
    ∙ sym (arrays-append (data_entries (seen c.args.environment.now).items) (variable_entries 0 c.args.variables.now))
