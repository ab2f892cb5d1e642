use Rattle.std.proofs.Common.{map}
use Rattle.opl_given.specs.Readings.{axis_of, known_of}
use Rattle.opl_bind.proofs.TakenArrays.{taken-none}
use Rattle.opl_bind.proofs.taken.taken.Goals as goal

pub returns-in-Int : goal.returns-in-Int
returns-in-Int c = taken-none (known_of c.args.types.now) c.args.at c.args.form.now (map axis_of c.args.axes.now) c.args.value.now c.in-Int.is
