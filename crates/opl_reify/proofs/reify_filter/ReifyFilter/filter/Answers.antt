use Rattle.std.proofs.Common.{subst, sym}
use Rattle.opl_filter.specs.Filtering.{IsBetween, Filters}
use Rattle.opl_reify.specs.Parts.{AreParts}
use Rattle.opl_reify.proofs.Made.{tests_read}
use Rattle.opl_reify.proofs.reify_filter.ReifyFilter.filter.Goals as goal

pub filter_any-requires-clause-parts : goal.filter_any-requires-clause-parts
filter_any-requires-clause-parts g c = subst (AreParts c.args.core.now) (sym c.as_slice.ensures) c.requires.made

pub returns-clause-between : goal.returns-clause-between
returns-clause-between g c = λ d is.
    let F = g.N.View.family c.args.n.now in
    let G = g.N.View.family c.filter_any.new.n in
    subst (λ t. IsBetween t F G) (tests_read c.args.core.now d c.args.self.now c.as_slice.result.now is c.as_slice.ensures) c.filter_any.ensures.between

pub returns-clause-outcome : goal.returns-clause-outcome
returns-clause-outcome g c = λ d is.
    let F = g.N.View.family c.args.n.now in
    let G = g.N.View.family c.filter_any.new.n in
    subst (λ t. Filters t F G c.filter_any.result) (tests_read c.args.core.now d c.args.self.now c.as_slice.result.now is c.as_slice.ensures) c.filter_any.ensures.outcome
