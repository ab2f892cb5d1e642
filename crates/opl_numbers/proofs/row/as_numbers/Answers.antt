use Rattle.std.proofs.Common.{◌≡◌, ◌++◌, ◌∷◌, [], List, append-nil, append_assoc, ap, arith, length, map, refl, rules, subst, sym, ◌∙◌}
use Rattle.std.specs.List.{All}
use Rattle.std.specs.Vec.Iter.{into_iter_items}
use Rattle.opl_form.specs.Parts.{as_number}
use Rattle.opl_nodes.specs.declared.part.Part.{Part}
use Rattle.opl_nodes.specs.Pieces.{IsPart, forms}
use Rattle.opl_numbers.specs.Numbers.{AreNumbers}
use Rattle.opl_numbers.proofs.Rows.{nothing-left, so_far-next}
use Rattle.opl_numbers.proofs.row.as_numbers.Goals as goal

pub loop-part-init : goal.loop-part-init
loop-part-init c = record {
  so_far = λ k h. c.new-numbers.ensures k;
  whole = refl;
  len = search rules;
}

pub loop-part-preserved : goal.loop-part-preserved
loop-part-preserved c =
    let at = c.loop-part in
    let new = into_iter_items c.next.new.self in
    let steps : into_iter_items at.part-iterator ≡ c.in-Some.part ∷ new = c.in-Some.ensures.steps.0 in
    record {
      so_far = so_far-next at.yielded c.in-Some.part at.numbers c.push.new.self c.in_ok-as_number.field-0 at.invariant.so_far c.in_ok-as_number.ensures.value c.in_ok-as_number.ensures.measures c.in_ok-push.ensures;
      whole = append_assoc at.yielded (c.in-Some.part ∷ []) new ∙ ap (λ xs. at.yielded ++ xs) (sym steps) ∙ at.invariant.whole;
      len =
          let was = at.invariant.len in
          let gone = c.in-Some.ensures.steps.1 in
          let short = ap length steps in
          omega arith;
    }

pub returns : goal.returns
returns c k h =
    let at = c.loop-part in
    let none = c.in-None.ensures.steps in
    let empty : into_iter_items at.part-iterator ≡ [] = nothing-left (into_iter_items at.part-iterator) (sym at.invariant.len ∙ none.0) in
    let same : ◌≡◌ {A = List Part} at.yielded c.args.parts = sym (append-nil at.yielded) ∙ ap (λ xs. at.yielded ++ xs) (sym empty) ∙ at.invariant.whole ∙ c.into_iter-part-iterator.ensures.into_iter_gives.0 ∙ c.into_vec-part-items.ensures in
    subst (λ ps. AreNumbers k (map as_number (forms ps)) at.numbers) same (at.invariant.so_far k (subst (All (IsPart k)) (sym same) h))
