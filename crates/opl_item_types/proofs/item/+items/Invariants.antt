use Rattle.std.proofs.Common.{◌≡◌, map, drop}
use Rattle.opl_item_types.specs.Items.{each, item}
use Rattle.opl_type_rules.specs.Steps.{front}
use Rattle.opl_type_rules.specs.Types.{sort}
use Rattle.opl_type_rules.specs.Values.{within}
use Rattle.opl_item_types.proofs.item.+items.Given as goal

abbrev pub invariant-others-loop-other : goal.invariant-others-loop-other
invariant-others-loop-other l =
    front (map sort l.fn.kinds) (each (map item l.rest) (within l.model l.locals))
    ≡ front (map sort l.kinds) (each (map item (drop l.other-index l.rest)) (within l.model l.locals))
