use Rattle.opl_addends.proofs.Finding.{mentions_none, mentions_at, mentions_all}
use Rattle.opl_addends.proofs.making.mentions.Goals as goal

pub loop-variable-init : goal.loop-variable-init
loop-variable-init c = mentions_none c.args.core.now c.args.addends.now c.args.variables.now c.new-found.result c.new-found.ensures

pub loop-variable-preserved : goal.loop-variable-preserved
loop-variable-preserved c =
    mentions_at c.args.core.now c.args.addends.now c.args.variables.now c.loop-variable.variable-index c.in_ok-mention.mention c.loop-variable.found c.push.new.self c.loop-variable-test.true c.in_ok-push.ensures.ok c.in_ok-mention.ensures c.loop-variable.invariant

pub returns : goal.returns
returns c = mentions_all c.args.core.now c.args.addends.now c.args.variables.now c.loop-variable.variable-index c.loop-variable.found c.loop-variable-test.false c.loop-variable.invariant
