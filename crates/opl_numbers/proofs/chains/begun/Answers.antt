use Rattle.opl_numbers.proofs.Sums.{begun-made}
use Rattle.opl_numbers.proofs.chains.begun.Goals as goal

pub returns : goal.returns
returns c k h =
    begun-made k c.args.before c.new-none.result c.in_ok-found.found c.args.part c.new-none.ensures.items c.new-none.ensures.before c.in_ok-found.ensures.items c.in_ok-found.ensures.before (c.in_ok-found.ensures.kept k (c.new-none.ensures.kept k) h)
