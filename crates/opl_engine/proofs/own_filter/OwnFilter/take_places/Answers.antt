use Rattle.opl_engine.specs.declared.own_filter.OwnFilter.TheVariants as own
use Rattle.opl_engine.proofs.Placing.{own_none, own_counts}
use Rattle.opl_engine.proofs.own_filter.OwnFilter.take_places.Goals as goal

pub returns-in-Linear-clause-places : goal.returns-in-Linear-clause-places
returns-in-Linear-clause-places c = own_none c.args.self.now (own.Linear c.in-Linear._filter) c.args.first c.in-Linear.is (λ core facts n. tt)

pub returns-in-Different-clause-places : goal.returns-in-Different-clause-places
returns-in-Different-clause-places c = own_none c.args.self.now (own.Different c.in-Different._filter) c.args.first c.in-Different.is (λ core facts n. tt)

pub returns-in-Reify-clause-places : goal.returns-in-Reify-clause-places
returns-in-Reify-clause-places c = own_none c.args.self.now (own.Reify c.in-Reify._filter) c.args.first c.in-Reify.is (λ core facts n. tt)

pub returns-in-Connective-clause-places : goal.returns-in-Connective-clause-places
returns-in-Connective-clause-places c = own_none c.args.self.now (own.Connective c.in-Connective._filter) c.args.first c.in-Connective.is (λ core facts n. tt)

pub returns-in-Addends-clause-places : goal.returns-in-Addends-clause-places
returns-in-Addends-clause-places c = own_none c.args.self.now (own.Addends c.in-Addends._filter) c.args.first c.in-Addends.is (λ core facts n. tt)

pub returns-in-Count-clause-places : goal.returns-in-Count-clause-places
returns-in-Count-clause-places c = own_counts c.args.self.now c.in-Count.filter c.take_places.new.self c.args.first c.take_places.result c.in-Count.is c.take_places.ensures.places
