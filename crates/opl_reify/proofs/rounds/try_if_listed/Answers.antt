use Rattle.std.proofs.Common.{◌∙◌, sym, refl}
use Rattle.opl_reify.proofs.Trying.{listed_is, not_listed, if_listed}
use Rattle.opl_reify.proofs.rounds.try_if_listed.Goals as goal

pub returns-then-not-contains-clause-tries : goal.returns-then-not-contains-clause-tries
returns-then-not-contains-clause-tries g c = not_listed (g.T.Test.dead c.args.test.now) c.args.others.now _ _ c.args.x refl (sym (listed_is c.args.others.now c.args.x) ∙ sym c.contains.ensures.value ∙ c.if-not-contains.true)

pub returns-clause-tries : goal.returns-clause-tries
returns-clause-tries g c = if_listed (g.T.Test.dead c.args.test.now) c.args.others.now _ _ c.args.x _ c.try_values.ensures.tries
