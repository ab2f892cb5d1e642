use Rattle.std.proofs.Common.{◌≡◌, ◌+◌, ◌*◌, ◌<◌, ◌^◌, false, ◌∷◌, map, length, Some, sym, ap, subst, ◌∙◌, arith}
use Rattle.std.specs.List.{list_any}
use Rattle.opl_value.specs.Places.{dimension_values, elements, has_none, joint, behind}
use Rattle.opl_value.proofs.Joint.{others-filled, size-fits, room, place-fits, behind-joint, behind-none}
use Rattle.opl_held.specs.Keys.{key_place, place_or_none}
use Rattle.opl_held.specs.Outcomes.{value_of}
use Rattle.opl_held.proofs.Places.{place-within}
use Rattle.opl_held.proofs.keys.place_in_all.Goals as goal

pub loop-dimension-init : goal.loop-dimension-init
loop-dimension-init c = record {
  filled = c.requires.filled;
  countable = omega (arith, c.requires.countable);
  same = behind-none (elements (map dimension_values c.args.dims.now)) (key_place (map dimension_values c.args.dims.now) c.args.parts.now);
}

pub subscript_place-requires : goal.subscript_place-requires
subscript_place-requires c =
    let e : c.loop-dimension.left.now ≡ c.in-Some.dimension.now ∷ c.in-Some.others.now = c.in-Some.ensures.cases.0 in
    size-fits (dimension_values c.in-Some.dimension.now) (map dimension_values c.in-Some.others.now) c.loop-dimension.found (2 ^ 64)
    (subst (λ ds. list_any has_none (map dimension_values ds) ≡ false) e c.loop-dimension.invariant.filled)
    (subst (λ ds. (c.loop-dimension.found + 1) * elements (map dimension_values ds) < 2 ^ 64) e c.loop-dimension.invariant.countable)

pub size-requires : goal.size-requires
size-requires c =
    let e : c.loop-dimension.left.now ≡ c.in-Some.dimension.now ∷ c.in-Some.others.now = c.in-Some.ensures.cases.0 in
    size-fits (dimension_values c.in-Some.dimension.now) (map dimension_values c.in-Some.others.now) c.loop-dimension.found (2 ^ 64)
    (subst (λ ds. list_any has_none (map dimension_values ds) ≡ false) e c.loop-dimension.invariant.filled)
    (subst (λ ds. (c.loop-dimension.found + 1) * elements (map dimension_values ds) < 2 ^ 64) e c.loop-dimension.invariant.countable)

pub overflow_mul-found : goal.overflow_mul-found
overflow_mul-found c =
    let e : c.loop-dimension.left.now ≡ c.in-Some.dimension.now ∷ c.in-Some.others.now = c.in-Some.ensures.cases.0 in
    let d = dimension_values c.in-Some.dimension.now in
    let fits = place-fits d (map dimension_values c.in-Some.others.now) c.loop-dimension.found (2 ^ 64)
    (subst (λ ds. list_any has_none (map dimension_values ds) ≡ false) e c.loop-dimension.invariant.filled)
    (subst (λ ds. (c.loop-dimension.found + 1) * elements (map dimension_values ds) < 2 ^ 64) e c.loop-dimension.invariant.countable)
    c.in_ok-place.place (place-within d (value_of c.in_ok-part.part.now) c.in_ok-place.place (sym c.subscript_place.ensures ∙ c.in_ok-place.was)) in
    let same : c.loop-dimension.found * c.size.result ≡ c.loop-dimension.found * length d = ap (λ n. c.loop-dimension.found * n) c.size.ensures in
    omega (arith, fits, same)

pub overflow_add-found : goal.overflow_add-found
overflow_add-found c =
    let e : c.loop-dimension.left.now ≡ c.in-Some.dimension.now ∷ c.in-Some.others.now = c.in-Some.ensures.cases.0 in
    let d = dimension_values c.in-Some.dimension.now in
    let fits = place-fits d (map dimension_values c.in-Some.others.now) c.loop-dimension.found (2 ^ 64)
    (subst (λ ds. list_any has_none (map dimension_values ds) ≡ false) e c.loop-dimension.invariant.filled)
    (subst (λ ds. (c.loop-dimension.found + 1) * elements (map dimension_values ds) < 2 ^ 64) e c.loop-dimension.invariant.countable)
    c.in_ok-place.place (place-within d (value_of c.in_ok-part.part.now) c.in_ok-place.place (sym c.subscript_place.ensures ∙ c.in_ok-place.was)) in
    let same : c.loop-dimension.found * c.size.result ≡ c.loop-dimension.found * length d = ap (λ n. c.loop-dimension.found * n) c.size.ensures in
    omega (arith, fits, same)

pub loop-dimension-preserved : goal.loop-dimension-preserved
loop-dimension-preserved c =
    let e : c.loop-dimension.left.now ≡ c.in-Some.dimension.now ∷ c.in-Some.others.now = c.in-Some.ensures.cases.0 in
    let k : c.loop-dimension.rest.now ≡ c.in_ok-part.part.now ∷ c.in_ok-part.behind.now = c.in_ok-part.ensures.cases.0 in
    let d = dimension_values c.in-Some.dimension.now in
    let ds = map dimension_values c.in-Some.others.now in
    let gs = c.in_ok-part.behind.now in
    let g = value_of c.in_ok-part.part.now in
    let here : place_or_none d g ≡ Some c.in_ok-place.place = sym c.subscript_place.ensures ∙ c.in_ok-place.was in
    let found = c.loop-dimension.found in
    let place = c.in_ok-place.place in
    let filled = subst (λ xs. list_any has_none (map dimension_values xs) ≡ false) e c.loop-dimension.invariant.filled in
    let left = room d ds found (2 ^ 64) filled
    (subst (λ xs. (found + 1) * elements (map dimension_values xs) < 2 ^ 64) e c.loop-dimension.invariant.countable)
    place (place-within d g place here) in
    record {
      filled = others-filled d ds filled;
      countable = subst (λ n. (found * n + place + 1) * elements ds < 2 ^ 64) (sym c.size.ensures) left;
      same =
          ap (λ n. behind (found * n + place) (elements ds) (key_place ds gs)) c.size.ensures
          ∙ sym (behind-joint found place (length d) (elements ds) (key_place ds gs))
          ∙ ap (λ p. behind found (length d * elements ds) (joint (elements ds) p (key_place ds gs))) (sym here)
          ∙ ap (λ xs. behind found (elements (map dimension_values xs)) (key_place (map dimension_values xs) (c.in_ok-part.part.now ∷ c.in_ok-part.behind.now))) (sym e)
          ∙ ap (λ key. behind found (elements (map dimension_values c.loop-dimension.left.now)) (key_place (map dimension_values c.loop-dimension.left.now) key)) (sym k)
          ∙ c.loop-dimension.invariant.same;
    }
