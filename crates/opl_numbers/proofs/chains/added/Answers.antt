use Rattle.opl_numbers.proofs.Sums.{added-made}
use Rattle.opl_numbers.proofs.chains.added.Goals as goal

pub returns : goal.returns
returns c k g hs h m e = added-made k c.args.parts c.in_ok-found.found c.args.part g hs c.in_ok-found.ensures.items c.in_ok-found.ensures.before (c.in_ok-found.ensures.kept k h m) e
