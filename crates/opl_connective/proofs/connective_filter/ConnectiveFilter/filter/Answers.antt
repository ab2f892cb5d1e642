use Rattle.std.proofs.Common.{subst}
use Rattle.opl_filter.specs.Filtering.{IsBetween, Filters}
use Rattle.opl_connective.proofs.Made.{tests_read}
use Rattle.opl_connective.proofs.connective_filter.ConnectiveFilter.filter.Goals as goal

pub returns-clause-between : goal.returns-clause-between
returns-clause-between g c = λ d is.
    let F = g.N.View.family c.args.n.now in
    let G = g.N.View.family c.filter_node.new.n in
    subst (λ t. IsBetween t F G) (tests_read c.args.core.now d c.args.self.now c.get.result.now is c.get.ensures) c.filter_node.ensures.between

pub returns-clause-outcome : goal.returns-clause-outcome
returns-clause-outcome g c = λ d is.
    let F = g.N.View.family c.args.n.now in
    let G = g.N.View.family c.filter_node.new.n in
    subst (λ t. Filters t F G c.filter_node.result) (tests_read c.args.core.now d c.args.self.now c.get.result.now is c.get.ensures) c.filter_node.ensures.outcome
