use Rattle.std.proofs.Common.{◌≡◌, ◌+◌, ◌*◌, ◌<◌, ◌≤◌, ◌^◌, SomeIff, false, ◌∷◌, drop, map, length, sym, ap, subst, ◌∙◌, [], arith}
use Rattle.std.proofs.Math.Nat.{mul_assoc, mul-le-mul_left, mul-le-mul_right}
use Rattle.std.proofs.lemmas.List.{at_drop_all, at_drop_more}
use Rattle.std.specs.List.{list_any}
use Rattle.opl_value.specs.Places.{dimension_values, elements, has_none}
use Rattle.opl_value.proofs.Counts.{first-within, times-within}
use Rattle.opl_value.proofs.Joint.{first-filled, others-filled}
use Rattle.opl_value.proofs.count.product.Goals as goal

pub returns-in_err-count : goal.returns-in_err-count
returns-in_err-count c =
    let dims = c.args.dims.now in
    let i = c.loop-dimension.dimension-index in
    let d = dimension_values c.dimension-item.result in
    let ds = map dimension_values (drop (i + 1) dims) in
    let next : map dimension_values (drop i dims) ≡ d ∷ ds = at_drop_more (λ xs. map dimension_values xs) dims i c.dimension-item.result c.loop-dimension-test.true ∙ ap (λ x. dimension_values x ∷ ds) (sym c.dimension-item.is) in
    let filled = subst (λ xs. list_any has_none xs ≡ false) next c.loop-dimension.invariant.2 in
    let total = subst (λ xs. c.loop-dimension.found * elements xs ≡ elements (map dimension_values dims)) next c.loop-dimension.invariant.3 in
    let within = times-within c.loop-dimension.found d ds c.loop-dimension.invariant.0 filled in
    subst (λ r. SomeIff r (elements (map dimension_values dims) < 2 ^ 64) (elements (map dimension_values dims))) (sym c.from_residual.ensures)
    (λ l. c.in_err-count.ensures (omega (arith, within, total)))

pub returns-in_err-found : goal.returns-in_err-found
returns-in_err-found c =
    let dims = c.args.dims.now in
    let i = c.loop-dimension.dimension-index in
    let d = dimension_values c.dimension-item.result in
    let ds = map dimension_values (drop (i + 1) dims) in
    let next : map dimension_values (drop i dims) ≡ d ∷ ds = at_drop_more (λ xs. map dimension_values xs) dims i c.dimension-item.result c.loop-dimension-test.true ∙ ap (λ x. dimension_values x ∷ ds) (sym c.dimension-item.is) in
    let filled = subst (λ xs. list_any has_none xs ≡ false) next c.loop-dimension.invariant.2 in
    let total = subst (λ xs. c.loop-dimension.found * elements xs ≡ elements (map dimension_values dims)) next c.loop-dimension.invariant.3 in
    let within : c.loop-dimension.found * length d ≤ c.loop-dimension.found * elements (d ∷ ds) = mul-le-mul_left c.loop-dimension.found (first-within d ds filled) in
    let count : c.loop-dimension.found * c.in_ok-count.field-0 ≡ c.loop-dimension.found * length d = ap (λ n. c.loop-dimension.found * n) c.in_ok-count.ensures.1 in
    subst (λ r. SomeIff r (elements (map dimension_values dims) < 2 ^ 64) (elements (map dimension_values dims))) (sym c.from_residual-in_err-found.ensures)
    (λ l. c.in_err-found.ensures (omega (arith, within, total, count)))

pub loop-dimension-preserved : goal.loop-dimension-preserved
loop-dimension-preserved c =
    let dims = c.args.dims.now in
    let i = c.loop-dimension.dimension-index in
    let d = dimension_values c.dimension-item.result in
    let ds = map dimension_values (drop (i + 1) dims) in
    let next : map dimension_values (drop i dims) ≡ d ∷ ds = at_drop_more (λ xs. map dimension_values xs) dims i c.dimension-item.result c.loop-dimension-test.true ∙ ap (λ x. dimension_values x ∷ ds) (sym c.dimension-item.is) in
    let filled = subst (λ xs. list_any has_none xs ≡ false) next c.loop-dimension.invariant.2 in
    let total = subst (λ xs. c.loop-dimension.found * elements xs ≡ elements (map dimension_values dims)) next c.loop-dimension.invariant.3 in
    let count : c.in_ok-found.found ≡ c.loop-dimension.found * length d = c.in_ok-found.ensures.1 ∙ ap (λ n. c.loop-dimension.found * n) c.in_ok-count.ensures.1 in
    let more : 1 * length d ≤ c.loop-dimension.found * length d = mul-le-mul_right (length d) c.loop-dimension.invariant.0 in
    let some = first-filled d ds filled in
    let fits = c.in_ok-found.ensures.0 in
    let same = c.in_ok-found.ensures.1 in (
      omega (arith, count, more, some),
      omega (arith, fits, same),
      others-filled d ds filled,
      ap (λ n. n * elements ds) count ∙ mul_assoc c.loop-dimension.found (length d) (elements ds) ∙ total,
    )

pub returns : goal.returns
returns c =
    let dims = c.args.dims.now in
    let i = c.loop-dimension.dimension-index in
    let end : map dimension_values (drop i dims) ≡ [] = at_drop_all (λ xs. map dimension_values xs) dims i (omega (arith, c.loop-dimension-test.false)) in
    let total = subst (λ xs. c.loop-dimension.found * elements xs ≡ elements (map dimension_values dims)) end c.loop-dimension.invariant.3 in
    let same : c.loop-dimension.found ≡ elements (map dimension_values dims) = omega (arith, total) in
    (omega (arith, same, c.loop-dimension.invariant.1), same)
