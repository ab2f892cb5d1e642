use Rattle.opl_addends.proofs.Finding.{between_found}
use Rattle.opl_addends.proofs.making.addends_between.Goals as goal

pub returns : goal.returns
returns c = between_found c.args.core.now c.args.a.now c.args.b.now c.new-found.result c.add.new.found c.add-2.new.found c.new-found.ensures c.in_ok-add.ensures c.in_ok-add-2.ensures
