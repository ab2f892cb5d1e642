use Rattle.opl_engine.proofs.Resting.{fixed_between, fixed_greatest}
use Rattle.opl_engine.proofs.member.keep_all.Goals as goal

pub returns-clause-between : goal.returns-clause-between
returns-clause-between g c = fixed_between (g.N.View.family c.args.n.now) c.vars-vars.ensures.sets

pub returns-clause-outcome : goal.returns-clause-outcome
returns-clause-outcome g c = fixed_greatest (g.N.View.family c.args.n.now) c.vars-vars.ensures.sets
