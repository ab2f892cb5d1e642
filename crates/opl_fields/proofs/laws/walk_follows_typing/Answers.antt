use Rattle.opl_fields.proofs.Followed.{follows-expr}
use Rattle.opl_fields.proofs.laws.walk_follows_typing.Goals as goal

pub returns : goal.returns
returns c = λ ds sc t. follows-expr ds t sc
