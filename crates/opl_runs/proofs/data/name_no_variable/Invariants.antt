use Rattle.std.proofs.Common.{◌≡◌, not, drop}
use Rattle.std.specs.List.{list_all}
use Rattle.opl_meaning.specs.Runs.{group_use}
use Rattle.opl_declared.specs.Kept.{names_in}
use Rattle.opl_runs.proofs.data.name_no_variable.Given as goal

abbrev pub invariant-loop-group : goal.invariant-loop-group
invariant-loop-group l = list_all (λ g. not (group_use (names_in l.declared) g)) l.groups ≡ list_all (λ g. not (group_use (names_in l.declared) g)) (drop l.group-index l.groups)
