use Rattle.opl_count.proofs.Known.{both_places}
use Rattle.opl_count.proofs.count_filter.CountFilter.take_places.Goals as goal

pub returns-clause-places : goal.returns-clause-places
returns-clause-places c = both_places c.args.self.now c.take_places-behind.new.sum c.take_places.new.sum c.args.first c.take_places-behind.result c.take_places.result c.take_places-behind.ensures.places c.take_places.ensures.places
