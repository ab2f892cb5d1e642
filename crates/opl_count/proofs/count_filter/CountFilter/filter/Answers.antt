use Rattle.opl_filter.specs.Filtering.{refutes}
use Rattle.opl_linear.specs.Alternating.{either}
use Rattle.opl_reify.proofs.Carrying.{between_carried, outcome_carried}
use Rattle.opl_count.specs.Costs.{is_over}
use Rattle.opl_count.proofs.Made.{tests_read}
use Rattle.opl_count.proofs.count_filter.CountFilter.filter.Goals as goal

pub returns-clause-between : goal.returns-clause-between
returns-clause-between g c = λ d is.
    let core = c.args.core.now in
    let f = c.args.self.now in
    let D = g.N.View.family c.args.n.now in
    between_carried D (either (is_over core f.first.costs) (is_over core f.second.costs)) (refutes d) (tests_read core d f D is) (g.N.View.family c.filter_counts.new.n) c.vars-vars.ensures.sets c.filter_counts.ensures.between

pub returns-clause-outcome : goal.returns-clause-outcome
returns-clause-outcome g c = λ d is.
    let core = c.args.core.now in
    let f = c.args.self.now in
    let D = g.N.View.family c.args.n.now in
    outcome_carried D (either (is_over core f.first.costs) (is_over core f.second.costs)) (refutes d) (tests_read core d f D is) (g.N.View.family c.filter_counts.new.n) c.filter_counts.result c.filter_counts.ensures.outcome
