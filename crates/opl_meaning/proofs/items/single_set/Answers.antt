use Rattle.std.proofs.Common.{subst}
use Rattle.opl_meaning.specs.Faults.{Makes}
use Rattle.opl_meaning.specs.Variables.{set_in}
use Rattle.opl_meaning.proofs.VariableNames.{within-none}
use Rattle.opl_meaning.proofs.items.single_set.Goals as goal

pub returns : goal.returns
returns c = subst (λ env. Makes (set_in c.args.t.now c.args.before env) c.set_in.result) (within-none c.args.environment.now) c.set_in.ensures
