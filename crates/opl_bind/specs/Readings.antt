-- What the program's values stand for in the definitions.
use Rattle.opl_eval.specs.Visible as eval
use Rattle.opl_given.specs.Readings.{known_of}
use Rattle.opl_bind.specs.declared.model.DataValues.{DataValues}
use Rattle.opl_bind.specs.Bind.{Data}

-- what the declarations so far come to
abbrev pub data_of : DataValues → Data
data_of d = record { known = known_of d.types; environment = eval.seen d.environment }
