use Rattle.opl_engine.proofs.OwnKinds.{addends_kind, none_of}
use Rattle.opl_engine.proofs.own_filter.of_addends.Goals as goal

pub returns-in-None-clause-kinds : goal.returns-in-None-clause-kinds
returns-in-None-clause-kinds c = none_of c.args.core.now c.args.c.now c.in_ok-new.field-0 c.in_ok-new.ensures.kind c.in-None.is

pub returns-in-Some-clause-kinds : goal.returns-in-Some-clause-kinds
returns-in-Some-clause-kinds c = addends_kind c.args.core.now c.args.c.now c.in_ok-new.field-0 c.in-Some.filter c.in_ok-new.ensures.kind c.in-Some.is
