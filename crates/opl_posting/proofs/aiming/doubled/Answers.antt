use Rattle.opl_posting.proofs.Objectives.{doubled-large, doubled-small}
use Rattle.opl_posting.proofs.aiming.doubled.Goals as goal

pub returns-then-part-ge-HALF : goal.returns-then-part-ge-HALF
returns-then-part-ge-HALF c = λ k h w. doubled-large k c.args.part c.args.at h w c.if-part-ge-HALF.true

pub returns : goal.returns
returns c = λ k h w. doubled-small k c.args.part c.args.at h w c.if-part-ge-HALF.false
