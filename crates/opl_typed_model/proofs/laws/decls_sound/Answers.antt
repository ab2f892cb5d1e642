use Rattle.opl_typed_model.proofs.Lawful.{decls_sound}
use Rattle.opl_typed_model.proofs.laws.decls_sound.Goals as goal

pub returns : goal.returns
returns c = decls_sound
