use Rattle.std.proofs.Common.{arith}
use Rattle.std.proofs.lemmas.Grind.{common_steps}
use Rattle.opl_given.specs.Readings.{known_of}
use Rattle.opl_bind.specs.Scopes.{names_in}
use Rattle.opl_bind.proofs.Answering.{gives_same}
use Rattle.opl_bind.proofs.WrittenLayers.{fit-whole-1, fit-whole-2, fit-whole-3, fits}
use Rattle.opl_bind.proofs.fitted.+fitting.Goals as goal

pub fitted-returns-in-Number : goal.fitted-returns-in-Number
fitted-returns-in-Number t c =
    gives_same (λ a. a) _ _ c.whole-in-Number.result
    (fit-whole-1 (known_of c.args.types.now) c.args.term.now c.args.form.now (names_in c.args.scope) c.in-Number.is)
    c.whole-in-Number.ensures

pub fitted-returns-in-Equivalent : goal.fitted-returns-in-Equivalent
fitted-returns-in-Equivalent t c =
    gives_same (λ a. a) _ _ c.whole-in-Equivalent.result
    (fit-whole-2 (known_of c.args.types.now) c.args.term.now c.args.form.now (names_in c.args.scope) c.in-Equivalent.is)
    c.whole-in-Equivalent.ensures

pub fitted-returns-in-AllDifferent : goal.fitted-returns-in-AllDifferent
fitted-returns-in-AllDifferent t c =
    gives_same (λ a. a) _ _ c.whole-in-AllDifferent.result
    (fit-whole-3 (known_of c.args.types.now) c.args.term.now c.args.form.now (names_in c.args.scope) c.in-AllDifferent.is)
    c.whole-in-AllDifferent.ensures

pub parts_fitted-loop-part-init : goal.parts_fitted-loop-part-init
parts_fitted-loop-part-init t c = grind (arith, common_steps)

pub parts_fitted-loop-part-preserved : goal.parts_fitted-loop-part-preserved
parts_fitted-loop-part-preserved t c = grind (arith, common_steps)

pub parts_fitted-returns : goal.parts_fitted-returns
parts_fitted-returns t c = grind (arith, common_steps)

pub elements_fitted-loop-element-init : goal.elements_fitted-loop-element-init
elements_fitted-loop-element-init t c = grind (arith, common_steps)

pub elements_fitted-loop-element-preserved : goal.elements_fitted-loop-element-preserved
elements_fitted-loop-element-preserved t c = grind (arith, common_steps)

pub elements_fitted-returns : goal.elements_fitted-returns
elements_fitted-returns t c = grind (arith, common_steps)

pub fitted-returns-in_ok-parts-in-Some : goal.fitted-returns-in_ok-parts-in-Some
fitted-returns-in_ok-parts-in-Some t c = grind (arith, common_steps, fits)

pub fitted-returns-in-None : goal.fitted-returns-in-None
fitted-returns-in-None t c = grind (arith, common_steps, fits)

pub fitted-returns-in_ok-set_of-in-Some-element_of : goal.fitted-returns-in_ok-set_of-in-Some-element_of
fitted-returns-in_ok-set_of-in-Some-element_of t c = grind (arith, common_steps, fits)

pub fitted-returns-in-None-element_of : goal.fitted-returns-in-None-element_of
fitted-returns-in-None-element_of t c = grind (arith, common_steps, fits)

pub parts_fitted-returns-in_default : goal.parts_fitted-returns-in_default
parts_fitted-returns-in_default t c = grind (arith, common_steps)
