use Rattle.opl_connective.proofs.Going.{tried_failed, tried_goes}
use Rattle.opl_connective.proofs.rounds.by_values.Goals as goal

pub returns-in-None-clause-goes : goal.returns-in-None-clause-goes
returns-in-None-clause-goes g c =
    tried_failed (g.T.Test.dead c.args.test.now) c.args.first.now c.args.second.now (g.N.View.family c.args.n.now) (g.N.View.family c.try_shared.new.n) c.requires.falls c.vars-vars.ensures.sets c.in-None.ensures.tries

pub returns-in-Some-clause-goes : goal.returns-in-Some-clause-goes
returns-in-Some-clause-goes g c =
    tried_goes (g.T.Test.dead c.args.test.now) c.args.first.now c.args.second.now (g.N.View.family c.args.n.now) (g.N.View.family c.try_shared.new.n) c.in-Some._removed c.vars-vars.ensures.sets c.requires.spared c.requires.first c.requires.second c.in-Some.ensures.tries
