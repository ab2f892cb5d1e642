use Rattle.std.proofs.Common.{◌≡◌, ◌+◌, ◌∷◌, map, subst, ◌∙◌, arith}
use Rattle.std.specs.List.{All}
use Rattle.std.proofs.lemmas.List.Elements.{All-head, All-tail}
use Rattle.opl_value.specs.Places.{dimension_values}
use Rattle.opl_nodes.specs.Pieces.{IsPart, form, forms}
use Rattle.opl_elements.specs.Places as spec
use Rattle.opl_elements.proofs.Selected.{first-next}
use Rattle.opl_elements.proofs.subscripts.first_large.Goals as goal

pub loop-dimension-preserved : goal.loop-dimension-preserved
loop-dimension-preserved c =
    let k = c.args.context.now in
    let p = c.in_ok-part.part.now in
    let ps = c.in_ok-part.behind.now in
    let e : c.loop-dimension.left.now ≡ c.in-Some.dimension.now ∷ c.in-Some.others.now = c.in-Some.ensures.cases.0 in
    let f : c.loop-dimension.ahead.now ≡ c.in_ok-place.place.now ∷ c.in_ok-place.places.now = c.in_ok-place.ensures.cases.0 in
    let g : c.loop-dimension.rest.now ≡ p ∷ ps = c.in_ok-part.ensures.cases.0 in
    let all = subst (All (IsPart k)) g c.loop-dimension.invariant.right in
    let here : IsPart k p = All-head (IsPart k) p ps all in
    record {
      same =
          c.loop-dimension.invariant.same
          ∙ (λ i. spec.first_large k (map dimension_values (e i)) (f i) (forms (g i)))
          ∙ first-next k (dimension_values c.in-Some.dimension.now) (map dimension_values c.in-Some.others.now) c.in_ok-place.place.now c.in_ok-place.places.now (form p) (forms ps) (p.size + c.greatest_index.result)
          (λ i. here.size i + c.greatest_index.ensures.size i) (omega (arith, c.if-part-greatest_index-ge-CAP.false));
      right = All-tail (IsPart k) p ps all;
    }
