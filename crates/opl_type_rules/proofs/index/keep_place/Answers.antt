use Rattle.opl_type_rules.proofs.NamePlaces.{updates-bytes}
use Rattle.opl_type_rules.proofs.index.keep_place.Goals as goal

pub returns : goal.returns
returns c = updates-bytes c.args.name.items c.args.places.now c.insert.new.self _ c.in_ok-insert.ensures.updates
