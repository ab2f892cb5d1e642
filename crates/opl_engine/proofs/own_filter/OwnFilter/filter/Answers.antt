use Rattle.opl_notes.proofs.Rightness.{tells_none}
use Rattle.opl_engine.specs.OwnFilters.{means_own}
use Rattle.opl_engine.proofs.OwnKinds.{addends_is, connective_is, count_is, different_is, linear_is, reify_is}
use Rattle.opl_engine.proofs.own_filter.OwnFilter.filter.Goals as goal

pub returns-in-Reify-clause-between : goal.returns-in-Reify-clause-between
returns-in-Reify-clause-between g c = λ d i. c.filter-in-Reify.ensures.between d (reify_is c.args.core.now d c.args.self.now c.in-Reify.filter c.in-Reify.is i)

pub returns-in-Reify-clause-outcome : goal.returns-in-Reify-clause-outcome
returns-in-Reify-clause-outcome g c = λ d i. c.filter-in-Reify.ensures.outcome d (reify_is c.args.core.now d c.args.self.now c.in-Reify.filter c.in-Reify.is i)

pub returns-in-Connective-clause-between : goal.returns-in-Connective-clause-between
returns-in-Connective-clause-between g c = λ d i. c.filter-in-Connective.ensures.between d (connective_is c.args.core.now d c.args.self.now c.in-Connective.filter c.in-Connective.is i)

pub returns-in-Connective-clause-outcome : goal.returns-in-Connective-clause-outcome
returns-in-Connective-clause-outcome g c = λ d i. c.filter-in-Connective.ensures.outcome d (connective_is c.args.core.now d c.args.self.now c.in-Connective.filter c.in-Connective.is i)

pub returns-in-Count-clause-between : goal.returns-in-Count-clause-between
returns-in-Count-clause-between g c = λ d i. c.filter-in-Count.ensures.between d (count_is c.args.core.now d c.args.self.now c.in-Count.filter c.in-Count.is i)

pub returns-in-Count-clause-outcome : goal.returns-in-Count-clause-outcome
returns-in-Count-clause-outcome g c = λ d i. c.filter-in-Count.ensures.outcome d (count_is c.args.core.now d c.args.self.now c.in-Count.filter c.in-Count.is i)

pub returns-in-Addends-clause-between : goal.returns-in-Addends-clause-between
returns-in-Addends-clause-between g c = λ d i. c.filter-in-Addends.ensures.between d (addends_is c.args.core.now d c.args.self.now c.in-Addends.filter c.in-Addends.is i)

pub returns-in-Addends-clause-outcome : goal.returns-in-Addends-clause-outcome
returns-in-Addends-clause-outcome g c = λ d i. c.filter-in-Addends.ensures.outcome d (addends_is c.args.core.now d c.args.self.now c.in-Addends.filter c.in-Addends.is i)

pub returns-in-Linear-clause-tells : goal.returns-in-Linear-clause-tells
returns-in-Linear-clause-tells g c = λ d i.
    let b = c.filter.ensures.between d (linear_is c.args.core.now d c.args.self.now c.in-Linear.filter c.in-Linear.is i) in
    tells_none (means_own c.args.core.now c.args.self.now) c.args.notes.now (g.N.View.family c.args.n.now) (g.N.View.family c.filter.new.n) b.sets.full b.below

pub returns-in-Different-clause-tells : goal.returns-in-Different-clause-tells
returns-in-Different-clause-tells g c = λ d i.
    let b = c.filter-in-Different.ensures.between d (different_is c.args.core.now d c.args.self.now c.in-Different.filter c.in-Different.is i) in
    tells_none (means_own c.args.core.now c.args.self.now) c.args.notes.now (g.N.View.family c.args.n.now) (g.N.View.family c.filter-in-Different.new.n) b.sets.full b.below

pub returns-in-Reify-clause-tells : goal.returns-in-Reify-clause-tells
returns-in-Reify-clause-tells g c = λ d i.
    let b = c.filter-in-Reify.ensures.between d (reify_is c.args.core.now d c.args.self.now c.in-Reify.filter c.in-Reify.is i) in
    tells_none (means_own c.args.core.now c.args.self.now) c.args.notes.now (g.N.View.family c.args.n.now) (g.N.View.family c.filter-in-Reify.new.n) b.sets.full b.below

pub returns-in-Connective-clause-tells : goal.returns-in-Connective-clause-tells
returns-in-Connective-clause-tells g c = λ d i.
    let b = c.filter-in-Connective.ensures.between d (connective_is c.args.core.now d c.args.self.now c.in-Connective.filter c.in-Connective.is i) in
    tells_none (means_own c.args.core.now c.args.self.now) c.args.notes.now (g.N.View.family c.args.n.now) (g.N.View.family c.filter-in-Connective.new.n) b.sets.full b.below

pub returns-in-Addends-clause-tells : goal.returns-in-Addends-clause-tells
returns-in-Addends-clause-tells g c = λ d i.
    let b = c.filter-in-Addends.ensures.between d (addends_is c.args.core.now d c.args.self.now c.in-Addends.filter c.in-Addends.is i) in
    tells_none (means_own c.args.core.now c.args.self.now) c.args.notes.now (g.N.View.family c.args.n.now) (g.N.View.family c.filter-in-Addends.new.n) b.sets.full b.below
