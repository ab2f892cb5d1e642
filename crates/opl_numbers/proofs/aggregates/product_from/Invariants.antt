use Rattle.std.specs.Vec.Iter.{into_iter_items}
use Rattle.std.specs.List.{All}
use Rattle.std.proofs.Common.{◌≡◌, length}
use Rattle.std.specs.Vec.Iter.{into_iter_len}
use Rattle.opl_form.specs.Nodes.{product_from}
use Rattle.opl_nodes.specs.Contexts.{arrays, sets}
use Rattle.opl_nodes.specs.Pieces.{IsPart, form, forms}
use Rattle.opl_numbers.proofs.aggregates.product_from.Given as goal

-- the product so far, with what is still to come, is the whole product
abbrev pub invariant-loop-other : goal.invariant-loop-other
invariant-loop-other l = record {
  whole : product_from (sets l.context) (arrays l.context) l.context.item l.at l.before (form l.product) (forms (into_iter_items l.other-iterator)) ≡ product_from (sets l.context) (arrays l.context) l.context.item l.at l.before (form l.fn.first) (forms l.fn.others.items);
  is_part : IsPart l.context l.product;
  are_parts : All (IsPart l.context) (into_iter_items l.other-iterator);
  len : into_iter_len l.other-iterator ≡ length (into_iter_items l.other-iterator);
}
