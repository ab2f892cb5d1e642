use Rattle.std.proofs.Common.{◌&&◌, not, ap, ◌∙◌}
use Rattle.std.specs.List.{list_all}
use Rattle.opl_meaning.specs.Runs.{group_use}
use Rattle.opl_declared.specs.Kept.{names_in}
use Rattle.opl_draft.specs.Clean.{are_data}
use Rattle.opl_draft.specs.Unrolled.{has_no_variable}
use Rattle.opl_runs.proofs.clean.params.Goals as goal

pub returns : goal.returns
returns c =
    c.are_data.ensures
    ∙ ap (λ gs. list_all (λ g. not (group_use (names_in c.args.scope.now.declared) g)) gs && has_no_variable c.args.scope.now.items.now (names_in c.args.scope.now.declared) c.in_ok-params.params.condition) c.as_slice-groups.ensures
    ∙ ap (are_data c.args.scope.now.items.now (names_in c.args.scope.now.declared)) c.in_ok-params.ensures
