use Rattle.std.proofs.Common.{◌≡◌, ◌∷◌, [], ap, arith, length, rules, subst, sym, ◌∙◌}
use Rattle.std.specs.List.{All}
use Rattle.std.specs.Vec.Iter.{into_iter_items}
use Rattle.std.proofs.lemmas.List.Elements.{All-head, All-tail}
use Rattle.opl_form.specs.Nodes as making
use Rattle.opl_nodes.specs.Contexts.{arrays, sets}
use Rattle.opl_nodes.specs.Pieces.{IsPart, form, forms}
use Rattle.opl_nodes.proofs.Tests.{makes-same}
use Rattle.opl_numbers.proofs.Rows.{nothing-left}
use Rattle.opl_numbers.proofs.Sums.{product-next, product-stop, refuses-same}
use Rattle.opl_numbers.proofs.aggregates.product_from.Goals as goal

pub loop-other-init : goal.loop-other-init
loop-other-init c =
    let k = c.args.context.now in
    let gives = c.into_iter-other-iterator.ensures.into_iter_gives in
    record {
      whole = ap (λ ps. making.product_from (sets k) (arrays k) k.item c.args.at c.args.before (form c.args.first) (forms ps)) gives.0;
      is_part = c.requires.first;
      are_parts = subst (All (IsPart k)) (sym gives.0) c.requires.others;
      len = search rules;
    }

pub multiplied-requires-clause-right : goal.multiplied-requires-clause-right
multiplied-requires-clause-right c =
    let at = c.loop-other in
    let k = c.args.context.now in
    let new = into_iter_items c.next.new.self in
    let steps : into_iter_items at.other-iterator ≡ c.in-Some.other ∷ new = c.in-Some.ensures.steps.0 in
    All-head (IsPart k) c.in-Some.other new (subst (All (IsPart k)) steps at.invariant.are_parts)

pub loop-other-preserved : goal.loop-other-preserved
loop-other-preserved c =
    let at = c.loop-other in
    let k = c.args.context.now in
    let n = c.args.before in
    let new = into_iter_items c.next.new.self in
    let steps : into_iter_items at.other-iterator ≡ c.in-Some.other ∷ new = c.in-Some.ensures.steps.0 in
    record {
      whole = sym (product-next k c.args.at n (form at.product) (form c.in-Some.other) (form c.in-Ok.longer) (forms new) c.in-Ok.ensures.is_form)
          ∙ ap (λ ps. making.product_from (sets k) (arrays k) k.item c.args.at n (form at.product) (forms ps)) (sym steps) ∙ at.invariant.whole;
      is_part = c.in-Ok.ensures.is_part;
      are_parts = All-tail (IsPart k) c.in-Some.other new (subst (All (IsPart k)) steps at.invariant.are_parts);
      len =
          let was = at.invariant.len in
          let gone = c.in-Some.ensures.steps.1 in
          let short = ap length steps in
          omega arith;
    }

pub returns-in-Err : goal.returns-in-Err
returns-in-Err c =
    let at = c.loop-other in
    let k = c.args.context.now in
    let n = c.args.before in
    let new = into_iter_items c.next.new.self in
    let steps : into_iter_items at.other-iterator ≡ c.in-Some.other ∷ new = c.in-Some.ensures.steps.0 in
    refuses-same (making.product_from (sets k) (arrays k) k.item c.args.at n (form at.product) (form c.in-Some.other ∷ forms new)) (making.product_from (sets k) (arrays k) k.item c.args.at n (form c.args.first) (forms c.args.others.items)) c.in-Err.fault
    (ap (λ ps. making.product_from (sets k) (arrays k) k.item c.args.at n (form at.product) (forms ps)) (sym steps) ∙ at.invariant.whole)
    (product-stop k c.args.at n (form at.product) (form c.in-Some.other) (forms new) c.in-Err.fault c.in-Err.ensures)

pub returns : goal.returns
returns c =
    let at = c.loop-other in
    let k = c.args.context.now in
    let n = c.args.before in
    let empty : into_iter_items at.other-iterator ≡ [] = nothing-left (into_iter_items at.other-iterator) (sym at.invariant.len ∙ c.in-None.ensures.steps.0) in
    makes-same k (making.number_part (sets k) (arrays k) k.item c.args.at n (form at.product)) (making.product_from (sets k) (arrays k) k.item c.args.at n (form c.args.first) (forms c.args.others.items)) c.number_part.result
    (ap (λ ps. making.product_from (sets k) (arrays k) k.item c.args.at n (form at.product) (forms ps)) (sym empty) ∙ at.invariant.whole) c.number_part.ensures
