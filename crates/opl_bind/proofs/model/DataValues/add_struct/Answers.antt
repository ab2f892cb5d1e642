use Rattle.std.proofs.Common.{ap, ◌∙◌}
use Rattle.opl_eval.specs.Visible.{seen}
use Rattle.opl_given.specs.Readings.{known_of}
use Rattle.opl_bind.specs.Bind.{with_known}
use Rattle.opl_bind.specs.Readings.{data_of}
use Rattle.opl_bind.proofs.Answering.{does_more}
use Rattle.opl_bind.proofs.Data.{known-kept}
use Rattle.opl_bind.proofs.model.DataValues.add_struct.Goals as goal

pub returns : goal.returns
returns c =
    does_more _ _ c.struct_type.result
    (λ r p. known-kept (known_of c.args.self.now.types) (known_of c.struct_type.new.types) (seen c.args.self.now.environment) ∙ ap (λ k. with_known k (data_of c.args.self.now)) p)
    c.struct_type.ensures
