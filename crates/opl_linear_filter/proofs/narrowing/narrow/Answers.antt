use Rattle.opl_linear_filter.specs.NormalForms.{normal_form}
use Rattle.opl_linear_filter.proofs.Normal.{normal_is}
use Rattle.opl_linear_filter.proofs.narrowing.narrow.Goals as goal

pub returns-clause-between : goal.returns-clause-between
returns-clause-between g c = c.filter.ensures.between (normal_form c.args.form.now) (normal_is c.args.core.now c.args.form.now c.requires.made)

pub returns-clause-outcome : goal.returns-clause-outcome
returns-clause-outcome g c = c.filter.ensures.outcome (normal_form c.args.form.now) (normal_is c.args.core.now c.args.form.now c.requires.made)
