use Rattle.opl_engine.proofs.Placing.{none_there, some_given}
use Rattle.opl_engine.proofs.member.filter_takes_places.Goals as goal

pub returns-in-None-clause-places : goal.returns-in-None-clause-places
returns-in-None-clause-places c = none_there c.args.form.now c.args.first c.in-None.is

pub returns-in-Some-clause-places : goal.returns-in-Some-clause-places
returns-in-Some-clause-places c = some_given c.args.form.now c.in-Some.filter c.take_places.new.self c.args.first c.take_places.result c.in-Some.is c.take_places.ensures.places
