use Rattle.std.proofs.Common.{map, ap, sym, ◌∙◌}
use Rattle.std.specs.Option.{option_map}
use Rattle.opl_eval.specs.Visible.{lent, seen}
use Rattle.opl_nodes.specs.Contexts.{cells}
use Rattle.opl_grounding.proofs.InTurn.{data-done, data-more}
use Rattle.opl_grounding.proofs.data.data_arrays.Goals as goal

pub returns-in-None : goal.returns-in-None
returns-in-None c =
    data-done (seen c.args.environment.now).items c.loop-place.place (map cells c.loop-place.arrays) (sym c.item.ensures ∙ ap (option_map lent) c.in-None.is) c.loop-place.invariant

pub loop-place-preserved : goal.loop-place-preserved
loop-place-preserved c =
    data-more (seen c.args.environment.now).items c.loop-place.place (lent c.in-Some.item) (map cells c.loop-place.arrays) (map cells c.push_array.new.arrays) (option_map cells c.data_array.result)
    (sym c.item.ensures ∙ ap (option_map lent) c.in-Some.is) c.data_array.ensures c.in_ok-push_array-in-Some.ensures c.loop-place.invariant
