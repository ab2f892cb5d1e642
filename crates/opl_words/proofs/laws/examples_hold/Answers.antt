use Rattle.std.proofs.Common.{refl}
use Rattle.opl_words.proofs.laws.examples_hold.Goals as goal

pub returns : goal.returns
returns c = refl
