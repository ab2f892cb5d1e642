use Rattle.std.specs.Option.{option_map}
use Rattle.opl_given.specs.Readings.{given_value_of, known_of}
use Rattle.opl_given.proofs.Plain.{keyed_result}
use Rattle.opl_given.proofs.item.single_value.Goals as goal

pub returns-clause-keyed : goal.returns-clause-keyed
returns-clause-keyed c =
    keyed_result (known_of c.args.types.now) c.args.form.now c.args.name.now c.args.overrides.now (option_map given_value_of c.args.given) c.value_alone.result c.value_alone.ensures
