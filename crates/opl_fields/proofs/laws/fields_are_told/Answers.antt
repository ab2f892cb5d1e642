use Rattle.opl_fields.proofs.Kept.{fields_are_told}
use Rattle.opl_fields.proofs.laws.fields_are_told.Goals as goal

pub returns : goal.returns
returns c = fields_are_told
