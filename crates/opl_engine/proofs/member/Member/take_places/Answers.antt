use Rattle.opl_engine.specs.declared.member.Member.TheVariants as member
use Rattle.opl_engine.proofs.Placing.{declared_given, member_none, posted_given}
use Rattle.opl_engine.proofs.member.Member.take_places.Goals as goal

pub returns-in-Bound-clause-places : goal.returns-in-Bound-clause-places
returns-in-Bound-clause-places c = member_none c.args.self.now (member.Bound c.in-Bound._best c.in-Bound._variables c.in-Bound._form) c.args.first c.in-Bound.is (λ core facts n. tt)

pub returns-in-Value-clause-places : goal.returns-in-Value-clause-places
returns-in-Value-clause-places c = member_none c.args.self.now (member.Value c.in-Value._x c.in-Value._v) c.args.first c.in-Value.is (λ core facts n. tt)

pub returns-in-Declared-clause-places : goal.returns-in-Declared-clause-places
returns-in-Declared-clause-places c = declared_given c.args.self.now c.in-Declared._place c.in-Declared._variables c.in-Declared.form c.filter_takes_places.new.form c.args.first c.filter_takes_places.result c.in-Declared.is c.filter_takes_places.ensures.places

pub returns-in-Posted-clause-places : goal.returns-in-Posted-clause-places
returns-in-Posted-clause-places c = posted_given c.args.self.now c.in-Posted._constraint c.in-Posted._variables c.in-Posted.form c.filter_takes_places-in-Posted.new.form c.args.first c.filter_takes_places-in-Posted.result c.in-Posted.is c.filter_takes_places-in-Posted.ensures.places
