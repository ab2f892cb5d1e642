use Rattle.opl_words.proofs.Plain.{files_alone}
use Rattle.opl_words.proofs.laws.files_alone.Goals as goal

pub returns : goal.returns
returns c = files_alone
