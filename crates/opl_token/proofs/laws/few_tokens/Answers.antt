use Rattle.opl_token.proofs.Bounds.{few_tokens}
use Rattle.opl_token.proofs.laws.few_tokens.Goals as goal

pub returns : goal.returns
returns c = few_tokens
