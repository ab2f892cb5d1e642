use Rattle.opl_eval.specs.Visible.{seen}
use Rattle.opl_given.specs.Readings.{known_of}
use Rattle.opl_bind.proofs.Answering.{does_more}
use Rattle.opl_bind.proofs.Data.{value-kept}
use Rattle.opl_bind.proofs.model.DataValues.add_value.Goals as goal

pub returns : goal.returns
returns c =
    does_more _ _ c.no_type.result
    (λ r p. value-kept (known_of c.args.self.now.types) (known_of c.no_type.new.types) (seen c.args.self.now.environment) (seen c.declare.new.self) c.args.name.now c.args.value p c.in_ok-declare.ensures)
    c.no_type.ensures
