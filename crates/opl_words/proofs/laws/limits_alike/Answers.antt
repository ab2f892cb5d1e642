use Rattle.std.proofs.Common.{refl}
use Rattle.opl_words.proofs.laws.limits_alike.Goals as goal

pub returns : goal.returns
returns c number words h = rw h refl
