use Rattle.opl_filter.specs.Filtering.{refutes}
use Rattle.opl_reify.proofs.Carrying.{between_carried, outcome_carried}
use Rattle.opl_addends.specs.Sums.{is_refuted}
use Rattle.opl_addends.proofs.Comparing.{says_the_same}
use Rattle.opl_addends.proofs.addends_filter.AddendsFilter.filter.Goals as goal

pub returns-clause-between : goal.returns-clause-between
returns-clause-between g c = λ d is.
    let core = c.args.core.now in
    let s = c.args.self.now.sum in
    let D = g.N.View.family c.args.n.now in
    between_carried D (is_refuted core s) (refutes d) (says_the_same core d s D is) (g.N.View.family c.filter_sum.new.n) c.vars-vars.ensures.sets c.filter_sum.ensures.between

pub returns-clause-outcome : goal.returns-clause-outcome
returns-clause-outcome g c = λ d is.
    let core = c.args.core.now in
    let s = c.args.self.now.sum in
    let D = g.N.View.family c.args.n.now in
    outcome_carried D (is_refuted core s) (refutes d) (says_the_same core d s D is) (g.N.View.family c.filter_sum.new.n) c.filter_sum.result c.filter_sum.ensures.outcome
