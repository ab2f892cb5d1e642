use Rattle.std.proofs.Common.{[]}
use Rattle.opl_eval.specs.Visible.{seen, within}
use Rattle.opl_meaning.proofs.VariableNames.{within-none}
use Rattle.opl_meaning.proofs.VariableSets.{sets_made}
use Rattle.opl_meaning.proofs.items.array_sets.Goals as goal

pub returns : goal.returns
returns c =
    sets_made c.args.t.now c.args.earlier c.args.dims.now.first c.as_slice.result.now c.args.dims.now.rest c.as_slice-2.result.now c.args.space.now (within c.args.environment.now []) (seen c.args.environment.now) c.each_set.result
    c.as_slice.ensures c.as_slice-2.ensures (within-none c.args.environment.now) c.each_set.ensures
