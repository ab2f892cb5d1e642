use Rattle.opl_read_fields.proofs.Texts.{names_of_texts_differ}
use Rattle.opl_read_fields.proofs.laws.names_of_texts_differ.Goals as goal

pub returns : goal.returns
returns c = names_of_texts_differ
