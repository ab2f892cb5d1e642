use Rattle.opl_fields.proofs.Declared.{fields_have_positions}
use Rattle.opl_fields.proofs.laws.fields_have_positions.Goals as goal

pub returns : goal.returns
returns c = fields_have_positions
