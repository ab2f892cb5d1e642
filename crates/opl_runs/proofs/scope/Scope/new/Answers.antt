use Rattle.opl_runs.proofs.Plain.{names-kept}
use Rattle.opl_runs.proofs.scope.Scope.new.Goals as goal

pub returns-clause-names : goal.returns-clause-names
returns-clause-names c = names-kept c.in_ok-declared.declared c.args.items.now c.in_ok-declared.ensures.items c.in_ok-declared.ensures.names
