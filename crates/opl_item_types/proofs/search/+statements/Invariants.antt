use Rattle.std.proofs.Common.{◌≡◌, map, drop}
use Rattle.opl_item_types.specs.Items.{each, statement, statements}
use Rattle.opl_type_rules.specs.Steps.{front}
use Rattle.opl_type_rules.specs.Types.{sort}
use Rattle.opl_type_rules.specs.Values.{within}
use Rattle.opl_item_types.proofs.search.+statements.Given as goal

abbrev pub invariant-alternatives-loop-other : goal.invariant-alternatives-loop-other
invariant-alternatives-loop-other l =
    front (map sort l.fn.kinds) (each (map statements l.others) (within l.model l.locals))
    ≡ front (map sort l.kinds) (each (map statements (drop l.other-index l.others)) (within l.model l.locals))

abbrev pub invariant-others-loop-other : goal.invariant-others-loop-other
invariant-others-loop-other l =
    front (map sort l.fn.kinds) (each (map statement l.rest) (within l.model l.locals))
    ≡ front (map sort l.kinds) (each (map statement (drop l.other-index l.rest)) (within l.model l.locals))
