use Rattle.opl_token.proofs.Bounds.{numbers_fit}
use Rattle.opl_token.proofs.laws.numbers_fit.Goals as goal

pub returns : goal.returns
returns c = numbers_fit
