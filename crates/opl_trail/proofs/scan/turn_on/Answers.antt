use Rattle.std.proofs.Common.{arith}
use Rattle.std.proofs.lemmas.Nat.{le_or_l}
use Rattle.opl_trail.proofs.Words.{or_changes}
use Rattle.opl_trail.proofs.scan.turn_on.Goals as goal

pub raise-requires-clause-more : goal.raise-requires-clause-more
raise-requires-clause-more c = omega (arith, c.word-before.ensures, c.if-word-before.false, le_or_l c.word-before.result c.args.mask)

pub returns-clause-change : goal.returns-clause-change
returns-clause-change c = rw (← c.word-before.ensures) (or_changes c.word-before.result c.args.mask c.word-before.type_inv c.ranges.mask.fits)
