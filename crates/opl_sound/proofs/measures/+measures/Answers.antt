use Rattle.std.proofs.Common.{◌-◌, ap, sym, ◌∙◌, map, arith, rules}
use Rattle.std.specs.Prelude.{Some, unsigned_abs, FitsSigned}
use mir.Syntax.{w64}
use Rattle.std.proofs.lemmas.Int.{to_z-of_z}
use Rattle.opl_expr.specs.Forms.{term, fact, terms_of, capacity_at}
use Rattle.opl_expr.specs.Sound.{greatest_abs}
use Rattle.opl_expr.proofs.Plain.{fact_AllDifferent, fact_Capacity}
use Rattle.opl_sound.specs.Measures.{measure, measure_pairs, fits, is_some, added, at_least_one, fits_capacity}
use Rattle.opl_sound.proofs.Lists.{one_misfits, other_lengths, subscript_misfits, some_greatest}
use Rattle.opl_sound.proofs.Rewritten.{capacity_is}
use Rattle.opl_sound.proofs.Plain.{fittings, measures}
use Rattle.opl_sound.proofs.measures.+measures.Goals as goal

pub all_fit-returns-then-not-fits : goal.all_fit-returns-then-not-fits
all_fit-returns-then-not-fits t c =
    one_misfits c.args.core.now.sets c.args.asks (fact c.args.core.now.tables c.args.core.now.resources) c.args.parts.now (c.loop-left.left - 1) c.index-parts-left.result (omega (arith, c.loop-left-test.true, c.loop-left.invariant.0)) c.index-parts-left.is (sym c.fits.ensures ∙ c.if-not-fits.true)

pub fit_subscripts-returns-then-dims-parts : goal.fit_subscripts-returns-then-dims-parts
fit_subscripts-returns-then-dims-parts t c = other_lengths c.args.core.now.sets c.args.asks (term c.args.core.now.tables c.args.core.now.resources) c.args.dims.now c.args.parts.now c.if-dims-parts.true

pub fit_subscripts-returns-then-not-is_there : goal.fit_subscripts-returns-then-not-is_there
fit_subscripts-returns-then-not-is_there t c =
    subscript_misfits c.args.core.now.sets c.args.asks (term c.args.core.now.tables c.args.core.now.resources) c.args.dims.now c.args.parts.now (c.loop-left.left - 1) c.index-dims-left.result c.index-parts-left.result (omega (arith, c.if-dims-parts.false)) (omega (arith, c.loop-left-test.true, c.loop-left.invariant.0)) c.index-dims-left.is c.index-parts-left.is
    (ap (λ z. is_some (added (measure c.args.core.now.sets c.args.asks ((term c.args.core.now.tables c.args.core.now.resources) c.index-parts-left.result)) (Some z))) (sym (c.greatest_abs-greatest.ensures ∙ ap greatest_abs c.as_slice.ensures)) ∙ ap (λ z. is_some (added z (Some c.greatest_abs-greatest.result))) (sym c.measure.ensures) ∙ ap is_some (sym c.added-both.ensures) ∙ sym c.is_there.ensures ∙ c.if-not-is_there.true)

pub fits-returns-in-AllDifferent : goal.fits-returns-in-AllDifferent
fits-returns-in-AllDifferent t c =
    c.is_there-in-AllDifferent.ensures ∙ ap is_some c.pairs.ensures ∙ ap (λ es. is_some (measure_pairs c.args.core.now.sets c.args.asks (terms_of (map (term c.args.core.now.tables c.args.core.now.resources) es)))) c.as_slice-in-AllDifferent.ensures
    ∙ sym (ap (λ z. fits c.args.core.now.sets c.args.asks ((fact c.args.core.now.tables c.args.core.now.resources) z)) c.in-AllDifferent.is ∙ ap (fits c.args.core.now.sets c.args.asks) (fact_AllDifferent c.args.core.now.tables c.args.core.now.resources c.in-AllDifferent.parts))

pub fits-returns-in-Some : goal.fits-returns-in-Some
fits-returns-in-Some t c =
    let sets = c.args.core.now.sets in
    let time = c.in-Capacity.time in
    let same : FitsSigned w64 time = search rules in
    c.fits_capacity.ensures ∙ ap (λ n. fits_capacity sets n c.in-Some.r.now) (c.unsigned_abs.ensures.value ∙ ap unsigned_abs (to_z-of_z w64 time same))
    ∙ sym (capacity_is sets c.args.asks c.in-Some.r.now time) ∙ ap (λ o. fits sets c.args.asks (capacity_at o time)) c.in-Some.ensures.value
    ∙ sym (ap (λ z. fits sets c.args.asks ((fact c.args.core.now.tables c.args.core.now.resources) z)) c.in-Capacity.is ∙ ap (fits sets c.args.asks) (fact_Capacity c.args.core.now.tables c.args.core.now.resources c.in-Capacity.resource time))

pub greatest_of_some-returns : goal.greatest_of_some-returns
greatest_of_some-returns t c = let h = c.if-is_empty.false in let i = c.is_empty.ensures in c.at_least_one.ensures ∙ ap at_least_one c.greatest.ensures ∙ some_greatest c.args.core.now.sets c.args.asks (term c.args.core.now.tables c.args.core.now.resources) c.args.parts.now (search (rules, arith))

-- src/measures.rt:184:1
pub fits-returns-in-Fixed : goal.fits-returns-in-Fixed
fits-returns-in-Fixed t c = grind (arith, fittings)

-- src/measures.rt:184:1
pub fits-returns-in-Cmp : goal.fits-returns-in-Cmp
fits-returns-in-Cmp t c = grind (arith, fittings)

-- src/measures.rt:184:1
pub fits-returns-in-And : goal.fits-returns-in-And
fits-returns-in-And t c = grind (arith, fittings)

-- src/measures.rt:184:1
pub fits-returns-in-Or : goal.fits-returns-in-Or
fits-returns-in-Or t c = grind (arith, fittings)

-- src/measures.rt:184:1
pub fits-returns-then-fits : goal.fits-returns-then-fits
fits-returns-then-fits t c = grind (arith, fittings)

-- src/measures.rt:184:1
pub fits-returns-else-fits : goal.fits-returns-else-fits
fits-returns-else-fits t c = grind (arith, fittings)

-- src/measures.rt:184:1
pub fits-returns-then-fits-2 : goal.fits-returns-then-fits-2
fits-returns-then-fits-2 t c = grind (arith, fittings)

-- src/measures.rt:184:1
pub fits-returns-else-fits-2 : goal.fits-returns-else-fits-2
fits-returns-else-fits-2 t c = grind (arith, fittings)

-- src/measures.rt:184:1
pub fits-returns-in-Not : goal.fits-returns-in-Not
fits-returns-in-Not t c = grind (arith, fittings)

-- src/measures.rt:184:1
pub fits-returns-in-None : goal.fits-returns-in-None
fits-returns-in-None t c = grind (arith, fittings)

-- src/measures.rt:184:1
pub fits-returns-then-asks : goal.fits-returns-then-asks
fits-returns-then-asks t c = grind (arith, fittings)

-- src/measures.rt:184:1
pub fits-returns-else-asks : goal.fits-returns-else-asks
fits-returns-else-asks t c = grind (arith, fittings)

-- src/measures.rt:68:1
pub measure-returns-in-Const : goal.measure-returns-in-Const
measure-returns-in-Const t c = grind (arith, measures)

-- src/measures.rt:68:1
pub measure-returns-in-Var : goal.measure-returns-in-Var
measure-returns-in-Var t c = grind (arith, measures)

-- src/measures.rt:68:1
pub measure-returns-in-Sum : goal.measure-returns-in-Sum
measure-returns-in-Sum t c = grind (arith, measures)

-- src/measures.rt:68:1
pub measure-returns-in-Neg : goal.measure-returns-in-Neg
measure-returns-in-Neg t c = grind (arith, measures)

-- src/measures.rt:68:1
pub measure-returns-in-Mul : goal.measure-returns-in-Mul
measure-returns-in-Mul t c = grind (arith, measures)

-- src/measures.rt:68:1
pub measure-returns-in-Div : goal.measure-returns-in-Div
measure-returns-in-Div t c = grind (arith, measures)

-- src/measures.rt:68:1
pub measure-returns-in-Rem : goal.measure-returns-in-Rem
measure-returns-in-Rem t c = grind (arith, measures)

-- src/measures.rt:68:1
pub measure-returns-in-Abs : goal.measure-returns-in-Abs
measure-returns-in-Abs t c = grind (arith, measures)

-- src/measures.rt:68:1
pub measure-returns-in-Min : goal.measure-returns-in-Min
measure-returns-in-Min t c = grind (arith, measures)

-- src/measures.rt:68:1
pub measure-returns-in-Max : goal.measure-returns-in-Max
measure-returns-in-Max t c = grind (arith, measures)

-- src/measures.rt:68:1
pub measure-returns-in-None : goal.measure-returns-in-None
measure-returns-in-None t c = grind (arith, measures)

-- src/measures.rt:68:1
pub measure-returns-in-Some : goal.measure-returns-in-Some
measure-returns-in-Some t c = grind (arith, measures)

-- src/measures.rt:68:1
pub measure-returns-in-Truth : goal.measure-returns-in-Truth
measure-returns-in-Truth t c = grind (arith, measures)

-- src/measures.rt:68:1
pub measure-returns-in-Ask : goal.measure-returns-in-Ask
measure-returns-in-Ask t c = grind (arith, measures)
