use Rattle.std.proofs.lemmas.Result.{IfOk-weaker}
use Rattle.opl_engine.proofs.OwnKinds.{count_kind, none_of_counts}
use Rattle.opl_engine.proofs.own_filter.of_counts.Goals as goal

pub returns-in-None-clause-kinds : goal.returns-in-None-clause-kinds
returns-in-None-clause-kinds c = IfOk-weaker c.of_addends.result _ _ (none_of_counts c.args.core.now c.args.c.now c.in_ok-new.field-0 c.in_ok-new.ensures.kind c.in-None.is) c.of_addends.ensures.kinds

pub returns-in-Some-clause-kinds : goal.returns-in-Some-clause-kinds
returns-in-Some-clause-kinds c = count_kind c.args.core.now c.args.c.now c.in_ok-new.field-0 c.in-Some.filter c.in_ok-new.ensures.kind c.in-Some.is
