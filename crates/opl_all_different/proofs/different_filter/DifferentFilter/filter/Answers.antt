use Rattle.std.proofs.Common.{length, subst, sym}
use Rattle.opl_filter.specs.Filtering.{IsBetween, Filters}
use Rattle.opl_all_different.specs.Parts.{clashes, AreSeparate, AreFitting}
use Rattle.opl_all_different.proofs.Made.{separate_here, fitting_here, filters_between, filters_outcome}
use Rattle.opl_all_different.proofs.different_filter.DifferentFilter.filter.Goals as goal

pub settle-requires-clause-separate : goal.settle-requires-clause-separate
settle-requires-clause-separate g c =
    let F = g.N.View.family c.args.n.now in
    let f = c.args.self.now in
    subst (AreSeparate (length F)) (sym c.as_slice.ensures) (separate_here c.args.core.now F f.parts c.requires.declared c.requires.made.separate)

pub settle-requires-clause-fits : goal.settle-requires-clause-fits
settle-requires-clause-fits g c =
    let F = g.N.View.family c.args.n.now in
    let f = c.args.self.now in
    subst (AreFitting F) (sym c.as_slice.ensures) (fitting_here c.args.core.now F f c.requires.declared c.requires.made)

pub returns-clause-between : goal.returns-clause-between
returns-clause-between g c = λ d is.
    let F = g.N.View.family c.args.n.now in
    let G = g.N.View.family c.settle.new.n in
    filters_between c.args.core.now d c.args.self.now is F G c.settle.result c.vars-vars.ensures.sets c.requires.declared (subst (λ ps. IsBetween (clashes ps) F G) c.as_slice.ensures c.settle.ensures.between)

pub returns-clause-outcome : goal.returns-clause-outcome
returns-clause-outcome g c = λ d is.
    let F = g.N.View.family c.args.n.now in
    let G = g.N.View.family c.settle.new.n in
    filters_outcome c.args.core.now d c.args.self.now is F G c.settle.result c.vars-vars.ensures.sets c.requires.declared (subst (λ ps. Filters (clashes ps) F G c.settle.result) c.as_slice.ensures c.settle.ensures.outcome)
