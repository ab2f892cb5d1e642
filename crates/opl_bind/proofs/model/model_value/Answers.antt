use Rattle.std.proofs.Common.{ap}
use Rattle.opl_bind.specs.Readings.{data_of}
use Rattle.opl_bind.specs.Bind as spec
use Rattle.opl_bind.proofs.Answering.{gives_same}
use Rattle.opl_bind.proofs.model.model_value.Goals as goal

pub returns-in-None-clause-value : goal.returns-in-None-clause-value
returns-in-None-clause-value c =
    gives_same (λ a. a) _ _ c.value_written.result
    (ap (λ dims. spec.model_value (data_of c.args.before.now) c.args.form.now dims c.args.e.now) c.in-None.is)
    c.value_written.ensures.value

pub returns-in-None-clause-keyed : goal.returns-in-None-clause-keyed
returns-in-None-clause-keyed c = c.value_written.ensures.keyed

pub returns-in-Some-clause-value : goal.returns-in-Some-clause-value
returns-in-Some-clause-value c =
    gives_same (λ a. a) _ _ c.array_written.result
    (ap (λ dims. spec.model_value (data_of c.args.before.now) c.args.form.now dims c.args.e.now) c.in-Some.is)
    c.array_written.ensures.value

pub returns-in-Some-clause-keyed : goal.returns-in-Some-clause-keyed
returns-in-Some-clause-keyed c = c.array_written.ensures.keyed
