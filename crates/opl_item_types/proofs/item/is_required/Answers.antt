use Rattle.std.proofs.Common.{arith, map}
use Rattle.opl_item_types.proofs.Resources.{names_required, thing-required}
use Rattle.opl_type_rules.specs.Values.{node_of, thing_of}
use Rattle.opl_item_types.proofs.item.is_required.Goals as goal

pub returns-in-Some-lookup : goal.returns-in-Some-lookup
returns-in-Some-lookup c =
    thing-required c.args.model.now c.args.locals.now c.args.t.now (map node_of c.args.subscripts.now) (thing_of c.in-Some-lookup.thing.now) c.is_resource.result
    (cc (c.in-None.ensures, c.as_slice.ensures)) (cc (c.in-Some-lookup.ensures, c.as_slice-in-None.ensures)) c.is_resource.ensures

pub returns-in-Some : goal.returns-in-Some
returns-in-Some c = grind (arith, names_required)

pub returns-in-None-lookup : goal.returns-in-None-lookup
returns-in-None-lookup c = grind (arith, names_required)
