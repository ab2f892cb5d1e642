use Rattle.std.proofs.Common.{◌≡◌, ◌-◌, ◌+◌, ◌<◌, [], true, ap, sym, ◌∙◌, subst, rules, arith, map, length, drop, get_or, pos, neg_ℤ, ◌*ℤ◌, ◌*◌, ◌&&◌, ◌||◌}
use Rattle.std.specs.Prelude.{FitsSigned, unsigned_abs, not, Some, None, int_le}
use mir.Syntax.{w64, w128}
use Rattle.std.proofs.lemmas.Int.{ints, to_z-of_z}
use Rattle.opl_expr.specs.declared.forms.Cons.TheFolds.{the_lemmas}
use Rattle.opl_expr.specs.Forms.{Term, Fact, Facts, term, fact, terms_of, facts_of, compared, product, capacity_at}
use Rattle.opl_expr.specs.Options.{lift, lift1, bind, joined}
use Rattle.opl_expr.specs.Holds.{bit, value, holds, quotient, remainder, same, op_relates, place_in, total_demand, cell_value, is_index, all_values}
use Rattle.opl_expr.specs.Sound.{IsSmall, term_magnitude, IsSoundTerm, AreSoundTerms, IsSoundFact, AreSoundFacts, UsesThere, demands, keys, is_there}
use Rattle.opl_expr.specs.Laws.{all_differ}
use Rattle.opl_expr.specs.Range.{chosen, taken, masks}
use Rattle.std.specs.List.{list_all}
use Rattle.opl_expr.proofs.Plain.{term_Const, term_Var, term_Sum, term_Neg, term_Mul, term_Div, term_Rem, term_Abs, term_Min, term_Max, term_At, term_Truth, term_Ask, fact_Fixed, fact_Cmp, fact_And, fact_Or, fact_Imp, fact_Iff, fact_Not, fact_AllDifferent, fact_Capacity, fact_Bound}
use Rattle.opl_expr.proofs.Bounds.{bounded, small_of, product_small_of, sum_small_of}
use Rattle.opl_expr.proofs.Parts.{sound_at, sound_fact_at, some_terms, sound_from, value_product, sound_product, sum_loop, least_step, greatest_step, holds_compared, sound_compared, or_end, any_default}
use Rattle.opl_expr.proofs.Cells.{differ_step, place_below, fit_length, block_missing_part, block_missing_place, block_size, block_next, capacity_is, demands_small, demands_there}
use Rattle.opl_expr.proofs.eval.+values.Goals as goal

pub value-value-requires : goal.value-value-requires
value-value-requires t c =
    let s = subst (λ r. IsSoundTerm c.args.core.now.sets r) (ap (term c.args.core.now.tables c.args.core.now.resources) c.in-Neg.is ∙ term_Neg c.args.core.now.tables c.args.core.now.resources c.in-Neg.a) c.requires.sound in
    (search (rules, the_lemmas), (subst (λ z. IsSoundTerm c.args.core.now.sets ((term c.args.core.now.tables c.args.core.now.resources) z)) (sym c.get.ensures) s.1, c.requires.among))

pub value-negative-requires : goal.value-negative-requires
value-negative-requires t c =
    let s = subst (λ r. IsSoundTerm c.args.core.now.sets r) (ap (term c.args.core.now.tables c.args.core.now.resources) c.in-Neg.is ∙ term_Neg c.args.core.now.tables c.args.core.now.resources c.in-Neg.a) c.requires.sound in
    small_of c.args.core.now c.args.values.now c.requires.among ((term c.args.core.now.tables c.args.core.now.resources) c.get.result.now) (subst (λ z. IsSoundTerm c.args.core.now.sets ((term c.args.core.now.tables c.args.core.now.resources) z)) (sym c.get.ensures) s.1) c.value.result c.value.ensures

pub value-returns-in-Neg : goal.value-returns-in-Neg
value-returns-in-Neg t c =
    c.negative.ensures ∙ ap (lift1 neg_ℤ) c.value.ensures ∙ ap (value c.args.values.now) (sym (ap (term c.args.core.now.tables c.args.core.now.resources) c.in-Neg.is ∙ term_Neg c.args.core.now.tables c.args.core.now.resources c.in-Neg.a ∙ ap (λ z. Term.neg ((term c.args.core.now.tables c.args.core.now.resources) z)) (sym c.get.ensures)))

pub value-value-requires-in-Abs : goal.value-value-requires-in-Abs
value-value-requires-in-Abs t c =
    let s = subst (λ r. IsSoundTerm c.args.core.now.sets r) (ap (term c.args.core.now.tables c.args.core.now.resources) c.in-Abs.is ∙ term_Abs c.args.core.now.tables c.args.core.now.resources c.in-Abs.a) c.requires.sound in
    (search (rules, the_lemmas), (subst (λ z. IsSoundTerm c.args.core.now.sets ((term c.args.core.now.tables c.args.core.now.resources) z)) (sym c.get-in-Abs.ensures) s, c.requires.among))

pub value-absolute_value-requires : goal.value-absolute_value-requires
value-absolute_value-requires t c =
    let s = subst (λ r. IsSoundTerm c.args.core.now.sets r) (ap (term c.args.core.now.tables c.args.core.now.resources) c.in-Abs.is ∙ term_Abs c.args.core.now.tables c.args.core.now.resources c.in-Abs.a) c.requires.sound in
    small_of c.args.core.now c.args.values.now c.requires.among ((term c.args.core.now.tables c.args.core.now.resources) c.get-in-Abs.result.now) (subst (λ z. IsSoundTerm c.args.core.now.sets ((term c.args.core.now.tables c.args.core.now.resources) z)) (sym c.get-in-Abs.ensures) s) c.value-in-Abs.result c.value-in-Abs.ensures

pub value-returns-in-Abs : goal.value-returns-in-Abs
value-returns-in-Abs t c =
    c.absolute_value.ensures ∙ ap (lift1 (λ v. pos (unsigned_abs v))) c.value-in-Abs.ensures ∙ ap (value c.args.values.now) (sym (ap (term c.args.core.now.tables c.args.core.now.resources) c.in-Abs.is ∙ term_Abs c.args.core.now.tables c.args.core.now.resources c.in-Abs.a ∙ ap (λ z. Term.abs ((term c.args.core.now.tables c.args.core.now.resources) z)) (sym c.get-in-Abs.ensures)))

pub value-value-requires-in-Mul : goal.value-value-requires-in-Mul
value-value-requires-in-Mul t c =
    let s = sound_product c.args.core.now.sets ((term c.args.core.now.tables c.args.core.now.resources) c.in-Mul.a) ((term c.args.core.now.tables c.args.core.now.resources) c.in-Mul.b) (subst (λ r. IsSoundTerm c.args.core.now.sets r) (ap (term c.args.core.now.tables c.args.core.now.resources) c.in-Mul.is ∙ term_Mul c.args.core.now.tables c.args.core.now.resources c.in-Mul.a c.in-Mul.b) c.requires.sound) in
    (search (rules, the_lemmas), (subst (λ z. IsSoundTerm c.args.core.now.sets ((term c.args.core.now.tables c.args.core.now.resources) z)) (sym c.get-in-Mul.ensures) s.first, c.requires.among))

pub value-value-requires-in-Mul-2 : goal.value-value-requires-in-Mul-2
value-value-requires-in-Mul-2 t c =
    let s = sound_product c.args.core.now.sets ((term c.args.core.now.tables c.args.core.now.resources) c.in-Mul.a) ((term c.args.core.now.tables c.args.core.now.resources) c.in-Mul.b) (subst (λ r. IsSoundTerm c.args.core.now.sets r) (ap (term c.args.core.now.tables c.args.core.now.resources) c.in-Mul.is ∙ term_Mul c.args.core.now.tables c.args.core.now.resources c.in-Mul.a c.in-Mul.b) c.requires.sound) in
    (search (rules, the_lemmas), (subst (λ z. IsSoundTerm c.args.core.now.sets ((term c.args.core.now.tables c.args.core.now.resources) z)) (sym c.get-in-Mul-2.ensures) s.second, c.requires.among))

pub value-product-requires : goal.value-product-requires
value-product-requires t c =
    let s = sound_product c.args.core.now.sets ((term c.args.core.now.tables c.args.core.now.resources) c.in-Mul.a) ((term c.args.core.now.tables c.args.core.now.resources) c.in-Mul.b) (subst (λ r. IsSoundTerm c.args.core.now.sets r) (ap (term c.args.core.now.tables c.args.core.now.resources) c.in-Mul.is ∙ term_Mul c.args.core.now.tables c.args.core.now.resources c.in-Mul.a c.in-Mul.b) c.requires.sound) in
    product_small_of c.args.core.now c.args.values.now c.requires.among ((term c.args.core.now.tables c.args.core.now.resources) c.get-in-Mul.result.now) ((term c.args.core.now.tables c.args.core.now.resources) c.get-in-Mul-2.result.now) (subst (λ z. IsSoundTerm c.args.core.now.sets ((term c.args.core.now.tables c.args.core.now.resources) z)) (sym c.get-in-Mul.ensures) s.first) (subst (λ z. IsSoundTerm c.args.core.now.sets ((term c.args.core.now.tables c.args.core.now.resources) z)) (sym c.get-in-Mul-2.ensures) s.second) (subst (λ z. IsSmall (term_magnitude c.args.core.now.sets ((term c.args.core.now.tables c.args.core.now.resources) c.get-in-Mul.result.now) * term_magnitude c.args.core.now.sets ((term c.args.core.now.tables c.args.core.now.resources) z))) (sym c.get-in-Mul-2.ensures) (subst (λ z. IsSmall (term_magnitude c.args.core.now.sets ((term c.args.core.now.tables c.args.core.now.resources) z) * term_magnitude c.args.core.now.sets ((term c.args.core.now.tables c.args.core.now.resources) c.in-Mul.b))) (sym c.get-in-Mul.ensures) s.small)) c.value-in-Mul.result c.value-in-Mul-2.result c.value-in-Mul.ensures c.value-in-Mul-2.ensures

pub value-returns-in-Mul : goal.value-returns-in-Mul
value-returns-in-Mul t c =
    c.product.ensures ∙ ap (λ o. lift ◌*ℤ◌ o c.value-in-Mul-2.result) c.value-in-Mul.ensures ∙ ap (lift ◌*ℤ◌ (value c.args.values.now ((term c.args.core.now.tables c.args.core.now.resources) c.get-in-Mul.result.now))) c.value-in-Mul-2.ensures ∙ value_product c.args.values.now ((term c.args.core.now.tables c.args.core.now.resources) c.get-in-Mul.result.now) ((term c.args.core.now.tables c.args.core.now.resources) c.get-in-Mul-2.result.now) ∙ ap (value c.args.values.now) (sym (ap (term c.args.core.now.tables c.args.core.now.resources) c.in-Mul.is ∙ term_Mul c.args.core.now.tables c.args.core.now.resources c.in-Mul.a c.in-Mul.b ∙ ap (λ z. product ((term c.args.core.now.tables c.args.core.now.resources) z) ((term c.args.core.now.tables c.args.core.now.resources) c.in-Mul.b)) (sym c.get-in-Mul.ensures) ∙ ap (λ z. product ((term c.args.core.now.tables c.args.core.now.resources) c.get-in-Mul.result.now) ((term c.args.core.now.tables c.args.core.now.resources) z)) (sym c.get-in-Mul-2.ensures)))

pub value-value-requires-in-Div : goal.value-value-requires-in-Div
value-value-requires-in-Div t c =
    let s = subst (λ r. IsSoundTerm c.args.core.now.sets r) (ap (term c.args.core.now.tables c.args.core.now.resources) c.in-Div.is ∙ term_Div c.args.core.now.tables c.args.core.now.resources c.in-Div.a c.in-Div.b) c.requires.sound in
    (search (rules, the_lemmas), (subst (λ z. IsSoundTerm c.args.core.now.sets ((term c.args.core.now.tables c.args.core.now.resources) z)) (sym c.get-in-Div.ensures) s.0, c.requires.among))

pub value-value-requires-in-Div-2 : goal.value-value-requires-in-Div-2
value-value-requires-in-Div-2 t c =
    let s = subst (λ r. IsSoundTerm c.args.core.now.sets r) (ap (term c.args.core.now.tables c.args.core.now.resources) c.in-Div.is ∙ term_Div c.args.core.now.tables c.args.core.now.resources c.in-Div.a c.in-Div.b) c.requires.sound in
    (search (rules, the_lemmas), (subst (λ z. IsSoundTerm c.args.core.now.sets ((term c.args.core.now.tables c.args.core.now.resources) z)) (sym c.get-in-Div-2.ensures) s.1, c.requires.among))

pub value-quotient-requires : goal.value-quotient-requires
value-quotient-requires t c =
    let s = subst (λ r. IsSoundTerm c.args.core.now.sets r) (ap (term c.args.core.now.tables c.args.core.now.resources) c.in-Div.is ∙ term_Div c.args.core.now.tables c.args.core.now.resources c.in-Div.a c.in-Div.b) c.requires.sound in
    small_of c.args.core.now c.args.values.now c.requires.among ((term c.args.core.now.tables c.args.core.now.resources) c.get-in-Div.result.now) (subst (λ z. IsSoundTerm c.args.core.now.sets ((term c.args.core.now.tables c.args.core.now.resources) z)) (sym c.get-in-Div.ensures) s.0) c.value-in-Div.result c.value-in-Div.ensures

pub value-returns-in-Div : goal.value-returns-in-Div
value-returns-in-Div t c =
    c.quotient.ensures ∙ ap (λ o. bind quotient o c.value-in-Div-2.result) c.value-in-Div.ensures ∙ ap (bind quotient (value c.args.values.now ((term c.args.core.now.tables c.args.core.now.resources) c.get-in-Div.result.now))) c.value-in-Div-2.ensures ∙ ap (value c.args.values.now) (sym (ap (term c.args.core.now.tables c.args.core.now.resources) c.in-Div.is ∙ term_Div c.args.core.now.tables c.args.core.now.resources c.in-Div.a c.in-Div.b ∙ ap (λ z. Term.div ((term c.args.core.now.tables c.args.core.now.resources) z) ((term c.args.core.now.tables c.args.core.now.resources) c.in-Div.b)) (sym c.get-in-Div.ensures) ∙ ap (λ z. Term.div ((term c.args.core.now.tables c.args.core.now.resources) c.get-in-Div.result.now) ((term c.args.core.now.tables c.args.core.now.resources) z)) (sym c.get-in-Div-2.ensures)))

pub value-value-requires-in-Rem : goal.value-value-requires-in-Rem
value-value-requires-in-Rem t c =
    let s = subst (λ r. IsSoundTerm c.args.core.now.sets r) (ap (term c.args.core.now.tables c.args.core.now.resources) c.in-Rem.is ∙ term_Rem c.args.core.now.tables c.args.core.now.resources c.in-Rem.a c.in-Rem.b) c.requires.sound in
    (search (rules, the_lemmas), (subst (λ z. IsSoundTerm c.args.core.now.sets ((term c.args.core.now.tables c.args.core.now.resources) z)) (sym c.get-in-Rem.ensures) s.0, c.requires.among))

pub value-value-requires-in-Rem-2 : goal.value-value-requires-in-Rem-2
value-value-requires-in-Rem-2 t c =
    let s = subst (λ r. IsSoundTerm c.args.core.now.sets r) (ap (term c.args.core.now.tables c.args.core.now.resources) c.in-Rem.is ∙ term_Rem c.args.core.now.tables c.args.core.now.resources c.in-Rem.a c.in-Rem.b) c.requires.sound in
    (search (rules, the_lemmas), (subst (λ z. IsSoundTerm c.args.core.now.sets ((term c.args.core.now.tables c.args.core.now.resources) z)) (sym c.get-in-Rem-2.ensures) s.1, c.requires.among))

pub value-remainder-requires : goal.value-remainder-requires
value-remainder-requires t c =
    let s = subst (λ r. IsSoundTerm c.args.core.now.sets r) (ap (term c.args.core.now.tables c.args.core.now.resources) c.in-Rem.is ∙ term_Rem c.args.core.now.tables c.args.core.now.resources c.in-Rem.a c.in-Rem.b) c.requires.sound in
    small_of c.args.core.now c.args.values.now c.requires.among ((term c.args.core.now.tables c.args.core.now.resources) c.get-in-Rem.result.now) (subst (λ z. IsSoundTerm c.args.core.now.sets ((term c.args.core.now.tables c.args.core.now.resources) z)) (sym c.get-in-Rem.ensures) s.0) c.value-in-Rem.result c.value-in-Rem.ensures

pub value-returns-in-Rem : goal.value-returns-in-Rem
value-returns-in-Rem t c =
    c.remainder.ensures ∙ ap (λ o. bind remainder o c.value-in-Rem-2.result) c.value-in-Rem.ensures ∙ ap (bind remainder (value c.args.values.now ((term c.args.core.now.tables c.args.core.now.resources) c.get-in-Rem.result.now))) c.value-in-Rem-2.ensures ∙ ap (value c.args.values.now) (sym (ap (term c.args.core.now.tables c.args.core.now.resources) c.in-Rem.is ∙ term_Rem c.args.core.now.tables c.args.core.now.resources c.in-Rem.a c.in-Rem.b ∙ ap (λ z. Term.rem ((term c.args.core.now.tables c.args.core.now.resources) z) ((term c.args.core.now.tables c.args.core.now.resources) c.in-Rem.b)) (sym c.get-in-Rem.ensures) ∙ ap (λ z. Term.rem ((term c.args.core.now.tables c.args.core.now.resources) c.get-in-Rem.result.now) ((term c.args.core.now.tables c.args.core.now.resources) z)) (sym c.get-in-Rem-2.ensures)))

pub value-sum-requires : goal.value-sum-requires
value-sum-requires t c =
    (search (rules, the_lemmas), (subst (λ z. IsSoundTerm c.args.core.now.sets (Term.sum (terms_of (map (term c.args.core.now.tables c.args.core.now.resources) z)))) (sym c.as_slice.ensures) (subst (λ r. IsSoundTerm c.args.core.now.sets r) (ap (term c.args.core.now.tables c.args.core.now.resources) c.in-Sum.is ∙ term_Sum c.args.core.now.tables c.args.core.now.resources c.in-Sum.parts) c.requires.sound), c.requires.among))

pub value-returns-in-Sum : goal.value-returns-in-Sum
value-returns-in-Sum t c =
    c.sum.ensures ∙ ap (value c.args.values.now) (sym (ap (term c.args.core.now.tables c.args.core.now.resources) c.in-Sum.is ∙ term_Sum c.args.core.now.tables c.args.core.now.resources c.in-Sum.parts ∙ ap (λ z. Term.sum (terms_of (map (term c.args.core.now.tables c.args.core.now.resources) z))) (sym c.as_slice.ensures)))

pub value-least-requires : goal.value-least-requires
value-least-requires t c =
    (search (rules, the_lemmas), (subst (λ z. IsSoundTerm c.args.core.now.sets (Term.least (terms_of (map (term c.args.core.now.tables c.args.core.now.resources) z)))) (sym c.as_slice-in-Min.ensures) (subst (λ r. IsSoundTerm c.args.core.now.sets r) (ap (term c.args.core.now.tables c.args.core.now.resources) c.in-Min.is ∙ term_Min c.args.core.now.tables c.args.core.now.resources c.in-Min.parts) c.requires.sound), c.requires.among))

pub value-returns-in-Min : goal.value-returns-in-Min
value-returns-in-Min t c =
    c.least.ensures ∙ ap (value c.args.values.now) (sym (ap (term c.args.core.now.tables c.args.core.now.resources) c.in-Min.is ∙ term_Min c.args.core.now.tables c.args.core.now.resources c.in-Min.parts ∙ ap (λ z. Term.least (terms_of (map (term c.args.core.now.tables c.args.core.now.resources) z))) (sym c.as_slice-in-Min.ensures)))

pub value-greatest-requires : goal.value-greatest-requires
value-greatest-requires t c =
    (search (rules, the_lemmas), (subst (λ z. IsSoundTerm c.args.core.now.sets (Term.greatest (terms_of (map (term c.args.core.now.tables c.args.core.now.resources) z)))) (sym c.as_slice-in-Max.ensures) (subst (λ r. IsSoundTerm c.args.core.now.sets r) (ap (term c.args.core.now.tables c.args.core.now.resources) c.in-Max.is ∙ term_Max c.args.core.now.tables c.args.core.now.resources c.in-Max.parts) c.requires.sound), c.requires.among))

pub value-returns-in-Max : goal.value-returns-in-Max
value-returns-in-Max t c =
    c.greatest.ensures ∙ ap (value c.args.values.now) (sym (ap (term c.args.core.now.tables c.args.core.now.resources) c.in-Max.is ∙ term_Max c.args.core.now.tables c.args.core.now.resources c.in-Max.parts ∙ ap (λ z. Term.greatest (terms_of (map (term c.args.core.now.tables c.args.core.now.resources) z))) (sym c.as_slice-in-Max.ensures)))

pub value-holds-requires : goal.value-holds-requires
value-holds-requires t c =
    let s = subst (λ r. IsSoundTerm c.args.core.now.sets r) (ap (term c.args.core.now.tables c.args.core.now.resources) c.in-Truth.is ∙ term_Truth c.args.core.now.tables c.args.core.now.resources c.in-Truth.c) c.requires.sound in
    (search (rules, the_lemmas), (subst (λ z. IsSoundFact c.args.core.now.sets ((fact c.args.core.now.tables c.args.core.now.resources) z)) (sym c.get-in-Truth.ensures) s, c.requires.among))

pub value-returns-in-Truth : goal.value-returns-in-Truth
value-returns-in-Truth t c =
    c.truth.ensures ∙ ap (lift1 bit) c.holds.ensures ∙ ap (value c.args.values.now) (sym (ap (term c.args.core.now.tables c.args.core.now.resources) c.in-Truth.is ∙ term_Truth c.args.core.now.tables c.args.core.now.resources c.in-Truth.c ∙ ap (λ z. Term.truth ((fact c.args.core.now.tables c.args.core.now.resources) z)) (sym c.get-in-Truth.ensures)))

pub value-bounds-values-x : goal.value-bounds-values-x
value-bounds-values-x t c =
    let s = subst (λ r. IsSoundTerm c.args.core.now.sets r) (ap (term c.args.core.now.tables c.args.core.now.resources) c.in-Var.is ∙ term_Var c.args.core.now.tables c.args.core.now.resources c.in-Var.x) c.requires.sound in
    omega (arith, s.1, (bounded c.args.core.now c.args.values.now c.requires.among).count)

pub value-returns-in-Const : goal.value-returns-in-Const
value-returns-in-Const t c =
    let s = subst (λ r. IsSoundTerm c.args.core.now.sets r) (ap (term c.args.core.now.tables c.args.core.now.resources) c.in-Const.is ∙ term_Const c.args.core.now.tables c.args.core.now.resources c.in-Const.k) c.requires.sound in
    let fits : FitsSigned w128 c.in-Const.k = omega (arith, ints, s) in
    ap Some (to_z-of_z w128 c.in-Const.k fits) ∙ ap (value c.args.values.now) (sym (ap (term c.args.core.now.tables c.args.core.now.resources) c.in-Const.is ∙ term_Const c.args.core.now.tables c.args.core.now.resources c.in-Const.k))

pub value-returns-in-Var : goal.value-returns-in-Var
value-returns-in-Var t c =
    let fits : FitsSigned w64 (get_or c.args.values.now c.in-Var.x (pos 0)) = search rules in
    let wide : FitsSigned w128 (get_or c.args.values.now c.in-Var.x (pos 0)) = omega (arith, ints) in
    simp to_z-of_z (ap (value c.args.values.now) (sym (ap (term c.args.core.now.tables c.args.core.now.resources) c.in-Var.is ∙ term_Var c.args.core.now.tables c.args.core.now.resources c.in-Var.x)))

pub value-returns-in-Ask : goal.value-returns-in-Ask
value-returns-in-Ask t c =
    absurd (subst (λ r. IsSoundTerm c.args.core.now.sets r) (ap (term c.args.core.now.tables c.args.core.now.resources) c.in-Ask.is ∙ term_Ask c.args.core.now.tables c.args.core.now.resources c.in-Ask._ask c.in-Ask._x) c.requires.sound)

pub holds-all_hold-requires : goal.holds-all_hold-requires
holds-all_hold-requires t c =
    (search (rules, the_lemmas), (subst (λ z. AreSoundFacts c.args.core.now.sets (facts_of (map (fact c.args.core.now.tables c.args.core.now.resources) z))) (sym c.as_slice.ensures) (subst (λ r. IsSoundFact c.args.core.now.sets r) (ap (fact c.args.core.now.tables c.args.core.now.resources) c.in-And.is ∙ fact_And c.args.core.now.tables c.args.core.now.resources c.in-And.parts) c.requires.sound), c.requires.among))

pub holds-returns-in-And : goal.holds-returns-in-And
holds-returns-in-And t c =
    c.all_hold.ensures ∙ ap (holds c.args.values.now) (sym (ap (fact c.args.core.now.tables c.args.core.now.resources) c.in-And.is ∙ fact_And c.args.core.now.tables c.args.core.now.resources c.in-And.parts ∙ ap (λ z. Fact.and (facts_of (map (fact c.args.core.now.tables c.args.core.now.resources) z))) (sym c.as_slice.ensures)))

pub holds-some_hold-requires : goal.holds-some_hold-requires
holds-some_hold-requires t c =
    (search (rules, the_lemmas), (subst (λ z. AreSoundFacts c.args.core.now.sets (facts_of (map (fact c.args.core.now.tables c.args.core.now.resources) z))) (sym c.as_slice-in-Or.ensures) (subst (λ r. IsSoundFact c.args.core.now.sets r) (ap (fact c.args.core.now.tables c.args.core.now.resources) c.in-Or.is ∙ fact_Or c.args.core.now.tables c.args.core.now.resources c.in-Or.parts) c.requires.sound), c.requires.among))

pub holds-returns-in-Or : goal.holds-returns-in-Or
holds-returns-in-Or t c =
    c.some_hold.ensures ∙ ap (holds c.args.values.now) (sym (ap (fact c.args.core.now.tables c.args.core.now.resources) c.in-Or.is ∙ fact_Or c.args.core.now.tables c.args.core.now.resources c.in-Or.parts ∙ ap (λ z. Fact.or (facts_of (map (fact c.args.core.now.tables c.args.core.now.resources) z))) (sym c.as_slice-in-Or.ensures)))

pub holds-holds-requires : goal.holds-holds-requires
holds-holds-requires t c =
    let s = subst (λ r. IsSoundFact c.args.core.now.sets r) (ap (fact c.args.core.now.tables c.args.core.now.resources) c.in-Imp.is ∙ fact_Imp c.args.core.now.tables c.args.core.now.resources c.in-Imp.a c.in-Imp.b) c.requires.sound in
    (search (rules, the_lemmas), (subst (λ z. IsSoundFact c.args.core.now.sets ((fact c.args.core.now.tables c.args.core.now.resources) z)) (sym c.get.ensures) s.0, c.requires.among))

pub holds-holds-requires-in-Imp : goal.holds-holds-requires-in-Imp
holds-holds-requires-in-Imp t c =
    let s = subst (λ r. IsSoundFact c.args.core.now.sets r) (ap (fact c.args.core.now.tables c.args.core.now.resources) c.in-Imp.is ∙ fact_Imp c.args.core.now.tables c.args.core.now.resources c.in-Imp.a c.in-Imp.b) c.requires.sound in
    (search (rules, the_lemmas), (subst (λ z. IsSoundFact c.args.core.now.sets ((fact c.args.core.now.tables c.args.core.now.resources) z)) (sym c.get-in-Imp.ensures) s.1.0, c.requires.among))

pub holds-returns-in-Imp : goal.holds-returns-in-Imp
holds-returns-in-Imp t c =
    c.either.ensures ∙ ap (λ o. lift (λ b d. b || d) o c.holds-in-Imp.result) (c.opposite.ensures ∙ ap (lift1 not) c.holds.ensures) ∙ ap (lift (λ b d. b || d) (lift1 not (holds c.args.values.now ((fact c.args.core.now.tables c.args.core.now.resources) c.get.result.now)))) (c.holds-in-Imp.ensures ∙ sym (or_end (holds c.args.values.now ((fact c.args.core.now.tables c.args.core.now.resources) c.get-in-Imp.result.now)))) ∙ ap (holds c.args.values.now) (sym (ap (fact c.args.core.now.tables c.args.core.now.resources) c.in-Imp.is ∙ fact_Imp c.args.core.now.tables c.args.core.now.resources c.in-Imp.a c.in-Imp.b ∙ ap (λ z. Fact.or (Facts.more_facts (Fact.not ((fact c.args.core.now.tables c.args.core.now.resources) z)) (Facts.more_facts ((fact c.args.core.now.tables c.args.core.now.resources) c.in-Imp.b) Facts.no_facts))) (sym c.get.ensures) ∙ ap (λ z. Fact.or (Facts.more_facts (Fact.not ((fact c.args.core.now.tables c.args.core.now.resources) c.get.result.now)) (Facts.more_facts ((fact c.args.core.now.tables c.args.core.now.resources) z) Facts.no_facts))) (sym c.get-in-Imp.ensures)))

pub holds-holds-requires-in-Iff : goal.holds-holds-requires-in-Iff
holds-holds-requires-in-Iff t c =
    let s = subst (λ r. IsSoundFact c.args.core.now.sets r) (ap (fact c.args.core.now.tables c.args.core.now.resources) c.in-Iff.is ∙ fact_Iff c.args.core.now.tables c.args.core.now.resources c.in-Iff.a c.in-Iff.b) c.requires.sound in
    (search (rules, the_lemmas), (subst (λ z. IsSoundFact c.args.core.now.sets ((fact c.args.core.now.tables c.args.core.now.resources) z)) (sym c.get-in-Iff.ensures) s.0, c.requires.among))

pub holds-holds-requires-in-Iff-2 : goal.holds-holds-requires-in-Iff-2
holds-holds-requires-in-Iff-2 t c =
    let s = subst (λ r. IsSoundFact c.args.core.now.sets r) (ap (fact c.args.core.now.tables c.args.core.now.resources) c.in-Iff.is ∙ fact_Iff c.args.core.now.tables c.args.core.now.resources c.in-Iff.a c.in-Iff.b) c.requires.sound in
    (search (rules, the_lemmas), (subst (λ z. IsSoundFact c.args.core.now.sets ((fact c.args.core.now.tables c.args.core.now.resources) z)) (sym c.get-in-Iff-2.ensures) s.1, c.requires.among))

pub holds-returns-in-Iff : goal.holds-returns-in-Iff
holds-returns-in-Iff t c =
    c.same.ensures ∙ ap (λ o. lift same o c.holds-in-Iff-2.result) c.holds-in-Iff.ensures ∙ ap (lift same (holds c.args.values.now ((fact c.args.core.now.tables c.args.core.now.resources) c.get-in-Iff.result.now))) c.holds-in-Iff-2.ensures ∙ ap (holds c.args.values.now) (sym (ap (fact c.args.core.now.tables c.args.core.now.resources) c.in-Iff.is ∙ fact_Iff c.args.core.now.tables c.args.core.now.resources c.in-Iff.a c.in-Iff.b ∙ ap (λ z. Fact.iff ((fact c.args.core.now.tables c.args.core.now.resources) z) ((fact c.args.core.now.tables c.args.core.now.resources) c.in-Iff.b)) (sym c.get-in-Iff.ensures) ∙ ap (λ z. Fact.iff ((fact c.args.core.now.tables c.args.core.now.resources) c.get-in-Iff.result.now) ((fact c.args.core.now.tables c.args.core.now.resources) z)) (sym c.get-in-Iff-2.ensures)))

pub holds-holds-requires-in-Not : goal.holds-holds-requires-in-Not
holds-holds-requires-in-Not t c =
    let s = subst (λ r. IsSoundFact c.args.core.now.sets r) (ap (fact c.args.core.now.tables c.args.core.now.resources) c.in-Not.is ∙ fact_Not c.args.core.now.tables c.args.core.now.resources c.in-Not.a) c.requires.sound in
    (search (rules, the_lemmas), (subst (λ z. IsSoundFact c.args.core.now.sets ((fact c.args.core.now.tables c.args.core.now.resources) z)) (sym c.get-in-Not.ensures) s, c.requires.among))

pub holds-returns-in-Not : goal.holds-returns-in-Not
holds-returns-in-Not t c =
    c.opposite-in-Not.ensures ∙ ap (lift1 not) c.holds-in-Not.ensures ∙ ap (holds c.args.values.now) (sym (ap (fact c.args.core.now.tables c.args.core.now.resources) c.in-Not.is ∙ fact_Not c.args.core.now.tables c.args.core.now.resources c.in-Not.a ∙ ap (λ z. Fact.not ((fact c.args.core.now.tables c.args.core.now.resources) z)) (sym c.get-in-Not.ensures)))

pub holds-value-requires : goal.holds-value-requires
holds-value-requires t c =
    let s = sound_compared c.args.core.now.sets c.in-Cmp.op ((term c.args.core.now.tables c.args.core.now.resources) c.in-Cmp.a) ((term c.args.core.now.tables c.args.core.now.resources) c.in-Cmp.b) (subst (λ r. IsSoundFact c.args.core.now.sets r) (ap (fact c.args.core.now.tables c.args.core.now.resources) c.in-Cmp.is ∙ fact_Cmp c.args.core.now.tables c.args.core.now.resources c.in-Cmp.op c.in-Cmp.a c.in-Cmp.b) c.requires.sound) in
    (search (rules, the_lemmas), (subst (λ z. IsSoundTerm c.args.core.now.sets ((term c.args.core.now.tables c.args.core.now.resources) z)) (sym c.get-in-Cmp.ensures) s.first, c.requires.among))

pub holds-value-requires-in-Cmp : goal.holds-value-requires-in-Cmp
holds-value-requires-in-Cmp t c =
    let s = sound_compared c.args.core.now.sets c.in-Cmp.op ((term c.args.core.now.tables c.args.core.now.resources) c.in-Cmp.a) ((term c.args.core.now.tables c.args.core.now.resources) c.in-Cmp.b) (subst (λ r. IsSoundFact c.args.core.now.sets r) (ap (fact c.args.core.now.tables c.args.core.now.resources) c.in-Cmp.is ∙ fact_Cmp c.args.core.now.tables c.args.core.now.resources c.in-Cmp.op c.in-Cmp.a c.in-Cmp.b) c.requires.sound) in
    (search (rules, the_lemmas), (subst (λ z. IsSoundTerm c.args.core.now.sets ((term c.args.core.now.tables c.args.core.now.resources) z)) (sym c.get-in-Cmp-2.ensures) s.second, c.requires.among))

pub holds-returns-in-Cmp : goal.holds-returns-in-Cmp
holds-returns-in-Cmp t c =
    c.compared.ensures ∙ ap (λ o. lift (op_relates c.in-Cmp.op) o c.value-in-Cmp.result) c.value.ensures ∙ ap (lift (op_relates c.in-Cmp.op) (value c.args.values.now ((term c.args.core.now.tables c.args.core.now.resources) c.get-in-Cmp.result.now))) c.value-in-Cmp.ensures ∙ holds_compared c.args.values.now c.in-Cmp.op ((term c.args.core.now.tables c.args.core.now.resources) c.get-in-Cmp.result.now) ((term c.args.core.now.tables c.args.core.now.resources) c.get-in-Cmp-2.result.now) ∙ ap (holds c.args.values.now) (sym (ap (fact c.args.core.now.tables c.args.core.now.resources) c.in-Cmp.is ∙ fact_Cmp c.args.core.now.tables c.args.core.now.resources c.in-Cmp.op c.in-Cmp.a c.in-Cmp.b ∙ ap (λ z. compared c.in-Cmp.op ((term c.args.core.now.tables c.args.core.now.resources) z) ((term c.args.core.now.tables c.args.core.now.resources) c.in-Cmp.b)) (sym c.get-in-Cmp.ensures) ∙ ap (λ z. compared c.in-Cmp.op ((term c.args.core.now.tables c.args.core.now.resources) c.get-in-Cmp.result.now) ((term c.args.core.now.tables c.args.core.now.resources) z)) (sym c.get-in-Cmp-2.ensures)))

pub holds-returns-in-Fixed : goal.holds-returns-in-Fixed
holds-returns-in-Fixed t c =
    ap (holds c.args.values.now) (sym (ap (fact c.args.core.now.tables c.args.core.now.resources) c.in-Fixed.is ∙ fact_Fixed c.args.core.now.tables c.args.core.now.resources c.in-Fixed.b))

pub holds-returns-in-Bound : goal.holds-returns-in-Bound
holds-returns-in-Bound t c =
    absurd (subst (λ r. IsSoundFact c.args.core.now.sets r) (ap (fact c.args.core.now.tables c.args.core.now.resources) c.in-Bound.is ∙ fact_Bound c.args.core.now.tables c.args.core.now.resources c.in-Bound._x) c.requires.sound)

pub sum-value-requires : goal.sum-value-requires
sum-value-requires t c =
    (search (rules, the_lemmas), (sound_at c.args.core.now.sets (term c.args.core.now.tables c.args.core.now.resources) c.args.parts.now (c.loop-left.left - 1) c.index-parts-left.result (omega (arith, c.loop-left.invariant.0)) c.index-parts-left.is c.requires.sound.1, c.requires.among))

pub sum-sum-found-requires : goal.sum-sum-found-requires
sum-sum-found-requires t c =
    sum_small_of c.args.core.now c.args.values.now c.requires.among ((term c.args.core.now.tables c.args.core.now.resources) c.index-parts-left.result) (terms_of (map (term c.args.core.now.tables c.args.core.now.resources) (drop c.loop-left.left c.args.parts.now))) (sound_at c.args.core.now.sets (term c.args.core.now.tables c.args.core.now.resources) c.args.parts.now (c.loop-left.left - 1) c.index-parts-left.result (omega (arith, c.loop-left.invariant.0)) c.index-parts-left.is c.requires.sound.1) (sound_from c.args.core.now.sets (term c.args.core.now.tables c.args.core.now.resources) c.args.parts.now c.loop-left.left c.requires.sound.1) (sum_loop c.args.core.now.sets (term c.args.core.now.tables c.args.core.now.resources) c.args.parts.now c.loop-left.left c.index-parts-left.result c.loop-left-test.true c.loop-left.invariant.0 c.index-parts-left.is c.requires.sound.0) c.value.result c.loop-left.found c.value.ensures c.loop-left.invariant.1

pub least-value-found-requires : goal.least-value-found-requires
least-value-found-requires t c =
    let some : 0 < length c.args.parts.now = some_terms (term c.args.core.now.tables c.args.core.now.resources) c.args.parts.now c.requires.sound.0 in
    (search (rules, the_lemmas), (sound_at c.args.core.now.sets (term c.args.core.now.tables c.args.core.now.resources) c.args.parts.now (length c.args.parts.now - 1) c.index-parts-left.result (omega (arith, some_terms (term c.args.core.now.tables c.args.core.now.resources) c.args.parts.now c.requires.sound.0)) c.index-parts-left.is c.requires.sound.1, c.requires.among))

pub least-value-requires : goal.least-value-requires
least-value-requires t c =
    (search (rules, the_lemmas), (sound_at c.args.core.now.sets (term c.args.core.now.tables c.args.core.now.resources) c.args.parts.now (c.loop-left.left - 1) c.index-parts-left-in-loop-left.result (omega (arith, c.loop-left.invariant.0)) c.index-parts-left-in-loop-left.is c.requires.sound.1, c.requires.among))

pub least-loop-left-preserved : goal.least-loop-left-preserved
least-loop-left-preserved t c =
    (omega (arith, c.loop-left.invariant.0), least_step c.args.values.now (term c.args.core.now.tables c.args.core.now.resources) c.args.parts.now c.loop-left.left c.index-parts-left-in-loop-left.result c.loop-left-test.true c.loop-left.invariant.0 c.index-parts-left-in-loop-left.is c.value.result c.loop-left.found c.least-found.result c.value.ensures c.loop-left.invariant.1 c.least-found.ensures)

pub greatest-value-found-requires : goal.greatest-value-found-requires
greatest-value-found-requires t c =
    let some : 0 < length c.args.parts.now = some_terms (term c.args.core.now.tables c.args.core.now.resources) c.args.parts.now c.requires.sound.0 in
    (search (rules, the_lemmas), (sound_at c.args.core.now.sets (term c.args.core.now.tables c.args.core.now.resources) c.args.parts.now (length c.args.parts.now - 1) c.index-parts-left.result (omega (arith, some_terms (term c.args.core.now.tables c.args.core.now.resources) c.args.parts.now c.requires.sound.0)) c.index-parts-left.is c.requires.sound.1, c.requires.among))

pub greatest-value-requires : goal.greatest-value-requires
greatest-value-requires t c =
    (search (rules, the_lemmas), (sound_at c.args.core.now.sets (term c.args.core.now.tables c.args.core.now.resources) c.args.parts.now (c.loop-left.left - 1) c.index-parts-left-in-loop-left.result (omega (arith, c.loop-left.invariant.0)) c.index-parts-left-in-loop-left.is c.requires.sound.1, c.requires.among))

pub greatest-loop-left-preserved : goal.greatest-loop-left-preserved
greatest-loop-left-preserved t c =
    (omega (arith, c.loop-left.invariant.0), greatest_step c.args.values.now (term c.args.core.now.tables c.args.core.now.resources) c.args.parts.now c.loop-left.left c.index-parts-left-in-loop-left.result c.loop-left-test.true c.loop-left.invariant.0 c.index-parts-left-in-loop-left.is c.value.result c.loop-left.found c.greatest-found.result c.value.ensures c.loop-left.invariant.1 c.greatest-found.ensures)

pub all_hold-holds-requires : goal.all_hold-holds-requires
all_hold-holds-requires t c =
    (search (rules, the_lemmas), (sound_fact_at c.args.core.now.sets (fact c.args.core.now.tables c.args.core.now.resources) c.args.parts.now (c.loop-left.left - 1) c.index-parts-left.result (omega (arith, c.loop-left.invariant.0)) c.index-parts-left.is c.requires.sound, c.requires.among))

pub some_hold-holds-requires : goal.some_hold-holds-requires
some_hold-holds-requires t c =
    (search (rules, the_lemmas), (sound_fact_at c.args.core.now.sets (fact c.args.core.now.tables c.args.core.now.resources) c.args.parts.now (c.loop-left.left - 1) c.index-parts-left.result (omega (arith, c.loop-left.invariant.0)) c.index-parts-left.is c.requires.sound, c.requires.among))

pub holds-all_differ-requires : goal.holds-all_differ-requires
holds-all_differ-requires t c =
    let s = subst (λ r. IsSoundFact c.args.core.now.sets r) (ap (fact c.args.core.now.tables c.args.core.now.resources) c.in-AllDifferent.is ∙ fact_AllDifferent c.args.core.now.tables c.args.core.now.resources c.in-AllDifferent.parts) c.requires.sound in
    (search (rules, the_lemmas), (subst (λ z. AreSoundTerms c.args.core.now.sets (terms_of (map (term c.args.core.now.tables c.args.core.now.resources) z))) (sym c.as_slice-in-AllDifferent.ensures) s.1, c.requires.among))

pub holds-returns-in-None : goal.holds-returns-in-None
holds-returns-in-None t c =
    ap (holds c.args.values.now) (sym (ap (fact c.args.core.now.tables c.args.core.now.resources) c.in-Capacity.is ∙ fact_Capacity c.args.core.now.tables c.args.core.now.resources c.in-Capacity.resource c.in-Capacity.time ∙ ap (λ o. capacity_at o c.in-Capacity.time) (sym c.in-None.ensures.value)))

pub holds-returns-in-Some : goal.holds-returns-in-Some
holds-returns-in-Some t c =
    let total : FitsSigned w128 c.total_demand.result = search rules in
    let room : FitsSigned w128 c.in-Some.r.now.capacity = search rules in
    let time : FitsSigned w64 c.in-Capacity.time = search rules in
    let e = simp to_z-of_z at c.total_demand.ensures in
    simp to_z-of_z (ap (λ v. Some (int_le v c.in-Some.r.now.capacity)) (e ∙ ap (total_demand c.args.values.now c.in-Capacity.time) c.as_slice-in-Some.ensures) ∙ capacity_is c.args.values.now c.in-Some.r.now c.in-Capacity.time ∙ ap (holds c.args.values.now) (sym (ap (fact c.args.core.now.tables c.args.core.now.resources) c.in-Capacity.is ∙ fact_Capacity c.args.core.now.tables c.args.core.now.resources c.in-Capacity.resource c.in-Capacity.time ∙ ap (λ o. capacity_at o c.in-Capacity.time) (sym c.in-Some.ensures.value))))

pub holds-total_demand-requires-clause-small : goal.holds-total_demand-requires-clause-small
holds-total_demand-requires-clause-small t c =
    let s = subst (λ r. IsSoundFact c.args.core.now.sets r) (ap (fact c.args.core.now.tables c.args.core.now.resources) c.in-Capacity.is ∙ fact_Capacity c.args.core.now.tables c.args.core.now.resources c.in-Capacity.resource c.in-Capacity.time ∙ ap (λ o. capacity_at o c.in-Capacity.time) (sym c.in-Some.ensures.value)) c.requires.sound in
    subst (λ us. IsSmall (demands us)) (sym c.as_slice-in-Some.ensures) (demands_small c.args.core.now.sets c.in-Some.r.now c.in-Capacity.time s)

pub holds-total_demand-requires-clause-there : goal.holds-total_demand-requires-clause-there
holds-total_demand-requires-clause-there t c =
    let s = subst (λ r. IsSoundFact c.args.core.now.sets r) (ap (fact c.args.core.now.tables c.args.core.now.resources) c.in-Capacity.is ∙ fact_Capacity c.args.core.now.tables c.args.core.now.resources c.in-Capacity.resource c.in-Capacity.time ∙ ap (λ o. capacity_at o c.in-Capacity.time) (sym c.in-Some.ensures.value)) c.requires.sound in
    subst (λ us. UsesThere (length c.args.values.now) us) (sym c.as_slice-in-Some.ensures) (demands_there c.args.core.now.sets c.in-Some.r.now c.in-Capacity.time (length c.args.values.now) (bounded c.args.core.now c.args.values.now c.requires.among).count s)

pub value-cell_at-requires : goal.value-cell_at-requires
value-cell_at-requires t c =
    let s = subst (λ r. IsSoundTerm c.args.core.now.sets r) (ap (term c.args.core.now.tables c.args.core.now.resources) c.in-At.is ∙ term_At c.args.core.now.tables c.args.core.now.resources c.in-At.table c.in-At.parts ∙ ap (λ o. Term.at o (terms_of (map (term c.args.core.now.tables c.args.core.now.resources) c.in-At.parts))) (sym c.in-Some.ensures.value)) c.requires.sound in (
      search (rules, the_lemmas),
      (
        subst (λ z. AreSoundTerms c.args.core.now.sets (terms_of (map (term c.args.core.now.tables c.args.core.now.resources) z))) (sym c.as_slice-in-Some-2.ensures) s.3,
        (
          c.requires.among,
          (
            ap length c.as_slice-in-Some-2.ensures ∙ fit_length c.args.core.now.sets (term c.args.core.now.tables c.args.core.now.resources) c.in-Some.t.now.dims c.in-At.parts s.2 ∙ sym (ap length c.as_slice-in-Some.ensures),
            (
              ap length c.as_slice-in-Some-3.ensures ∙ s.1.0 ∙ sym (ap keys c.as_slice-in-Some.ensures),
              (
                ap (list_all all_differ) c.as_slice-in-Some.ensures ∙ s.1.1,
                ap (list_all (is_there (length c.args.values.now))) c.as_slice-in-Some-3.ensures ∙ ap (λ n. list_all (is_there n) c.in-Some.t.now.cells) (bounded c.args.core.now c.args.values.now c.requires.among).count ∙ s.1.2,
              ),
            ),
          ),
        ),
      ),
    )

pub value-returns-in-None : goal.value-returns-in-None
value-returns-in-None t c =
    ap (value c.args.values.now) (sym (ap (term c.args.core.now.tables c.args.core.now.resources) c.in-At.is ∙ term_At c.args.core.now.tables c.args.core.now.resources c.in-At.table c.in-At.parts ∙ ap (λ o. Term.at o (terms_of (map (term c.args.core.now.tables c.args.core.now.resources) c.in-At.parts))) (sym c.in-None.ensures.value)))

pub value-returns-in-Some : goal.value-returns-in-Some
value-returns-in-Some t c =
    c.cell_at.ensures ∙ ap (λ cs. joined (λ v w. v) (map (cell_value c.args.values.now) (chosen (taken (masks is_index c.as_slice-in-Some.result.now (all_values c.args.values.now (terms_of (map (term c.args.core.now.tables c.args.core.now.resources) c.as_slice-in-Some-2.result.now))))) cs))) c.as_slice-in-Some-3.ensures ∙ ap (λ ds. joined (λ v w. v) (map (cell_value c.args.values.now) (chosen (taken (masks is_index ds (all_values c.args.values.now (terms_of (map (term c.args.core.now.tables c.args.core.now.resources) c.as_slice-in-Some-2.result.now))))) c.in-Some.t.now.cells))) c.as_slice-in-Some.ensures ∙ ap (λ ps. joined (λ v w. v) (map (cell_value c.args.values.now) (chosen (taken (masks is_index c.in-Some.t.now.dims (all_values c.args.values.now (terms_of (map (term c.args.core.now.tables c.args.core.now.resources) ps))))) c.in-Some.t.now.cells))) c.as_slice-in-Some-2.ensures ∙ ap (value c.args.values.now) (sym (ap (term c.args.core.now.tables c.args.core.now.resources) c.in-At.is ∙ term_At c.args.core.now.tables c.args.core.now.resources c.in-At.table c.in-At.parts ∙ ap (λ o. Term.at o (terms_of (map (term c.args.core.now.tables c.args.core.now.resources) c.in-At.parts))) (sym c.in-Some.ensures.value)))

pub holds-returns-in-AllDifferent : goal.holds-returns-in-AllDifferent
holds-returns-in-AllDifferent t c =
    c.all_differ.ensures ∙ ap (λ z. holds c.args.values.now (Fact.different (terms_of (map (term c.args.core.now.tables c.args.core.now.resources) z)))) c.as_slice-in-AllDifferent.ensures ∙ ap (holds c.args.values.now) (sym (ap (fact c.args.core.now.tables c.args.core.now.resources) c.in-AllDifferent.is ∙ fact_AllDifferent c.args.core.now.tables c.args.core.now.resources c.in-AllDifferent.parts))

pub all_differ-value-first-requires : goal.all_differ-value-first-requires
all_differ-value-first-requires t c =
    (search (rules, the_lemmas), (sound_at c.args.core.now.sets (term c.args.core.now.tables c.args.core.now.resources) c.args.parts.now (c.loop-left.left - 1) c.index-parts-left.result (omega (arith, c.loop-left.invariant.0)) c.index-parts-left.is c.requires.sound, c.requires.among))

pub all_differ-value-requires : goal.all_differ-value-requires
all_differ-value-requires t c =
    (search (rules, the_lemmas), (sound_at c.args.core.now.sets (term c.args.core.now.tables c.args.core.now.resources) c.args.parts.now (c.loop-other.other - 1) c.index-parts-other.result (omega (arith, c.loop-other.invariant.0, c.loop-other.invariant.1)) c.index-parts-other.is c.requires.sound, c.requires.among))

pub all_differ-loop-left-preserved : goal.all_differ-loop-left-preserved
all_differ-loop-left-preserved t c =
    let same : c.loop-other.other ≡ c.loop-left.left = omega (arith, c.loop-other.invariant.0, c.loop-other-test.false, c.loop-left-test.true) in (
      omega (arith, c.loop-left.invariant.0),
      differ_step c.args.values.now (term c.args.core.now.tables c.args.core.now.resources) c.args.parts.now c.loop-left.left c.index-parts-left.result (drop c.loop-other.other c.args.parts.now) c.loop-left-test.true c.loop-left.invariant.0 c.index-parts-left.is (ap (λ k. drop k c.args.parts.now) same) c.loop-left.found c.both-found-in-loop-left.result c.value-first.result c.value-first.ensures c.loop-left.invariant.1
          (c.both-found-in-loop-left.ensures ∙ ap (λ o. lift (λ b d. b && d) o c.loop-other.found) c.known.ensures ∙ ap (lift (λ b d. b && d) (lift1 (λ v. true) c.value-first.result)) c.loop-other.invariant.2),
    )

pub cell_at-value-requires : goal.cell_at-value-requires
cell_at-value-requires t c =
    let below : c.loop-at.at < length c.args.dims.now = search rules in
    (search (rules, the_lemmas), (sound_at c.args.core.now.sets (term c.args.core.now.tables c.args.core.now.resources) c.args.parts.now c.loop-at.at c.index-parts-at.result (omega (arith, below, c.requires.subscripts)) c.index-parts-at.is c.requires.sound, c.requires.among))

pub cell_at-returns-in_err-index : goal.cell_at-returns-in_err-index
cell_at-returns-in_err-index t c =
    let below : c.loop-at.at < length c.args.dims.now = search rules in
    block_missing_part c.args.values.now (term c.args.core.now.tables c.args.core.now.resources) (length c.args.values.now) c.args.dims.now c.args.parts.now c.args.cells.now c.loop-at.left.now c.loop-at.at c.loop-at.invariant below c.requires.subscripts (get_or c.args.dims.now c.loop-at.at []) c.index-parts-at.result (any_default c.args.dims.now c.loop-at.at [] (get_or c.args.dims.now c.loop-at.at []) below) c.index-parts-at.is _ (c.in_err-index.ensures) c.from_residual.ensures

pub cell_at-returns-in_err-place : goal.cell_at-returns-in_err-place
cell_at-returns-in_err-place t c =
    let below : c.loop-at.at < length c.args.dims.now = search rules in
    let fits : FitsSigned w128 c.in_ok-index.index = search rules in
    let none = simp to_z-of_z at (c.in_err-place.ensures) in
    block_missing_place c.args.values.now (term c.args.core.now.tables c.args.core.now.resources) (length c.args.values.now) c.args.dims.now c.args.parts.now c.args.cells.now c.loop-at.left.now c.loop-at.at c.loop-at.invariant below c.requires.subscripts c.index-dims-at.result c.index-parts-at.result c.index-dims-at.is c.index-parts-at.is _ c.in_ok-index.index (c.in_ok-index.ensures) (subst (λ xs. None ≡ place_in c.in_ok-index.index xs) c.as_slice-dim.ensures none) c.from_residual-in_err-place.ensures

pub cell_at-block-left-requires-clause-place : goal.cell_at-block-left-requires-clause-place
cell_at-block-left-requires-clause-place t c =
    place_below _ _ _ (c.in_ok-place.ensures)

pub cell_at-loop-at-preserved : goal.cell_at-loop-at-preserved
cell_at-loop-at-preserved t c =
    let below : c.loop-at.at < length c.args.dims.now = search rules in
    let fits : FitsSigned w128 c.in_ok-index.index = search rules in
    let place = simp to_z-of_z at (c.in_ok-place.ensures) in
    let whole = block_size c.args.values.now (term c.args.core.now.tables c.args.core.now.resources) (length c.args.values.now) c.args.dims.now c.args.parts.now c.args.cells.now c.loop-at.left.now c.loop-at.at c.loop-at.invariant below c.requires.subscripts c.index-dims-at.result c.index-parts-at.result c.index-dims-at.is c.index-parts-at.is ∙ ap (λ xs. length xs * keys (drop (c.loop-at.at + 1) c.args.dims.now)) (sym c.as_slice-dim.ensures) in
    block_next c.args.values.now (term c.args.core.now.tables c.args.core.now.resources) (length c.args.values.now) c.args.dims.now c.args.parts.now c.args.cells.now c.loop-at.left.now c.loop-at.at c.loop-at.invariant below c.requires.subscripts c.index-dims-at.result c.index-parts-at.result c.index-dims-at.is c.index-parts-at.is c.block-left.result.now c.in_ok-index.index c.in_ok-place.place c.requires.clear (c.in_ok-index.ensures) (subst (λ xs. Some c.in_ok-place.place ≡ place_in c.in_ok-index.index xs) c.as_slice-dim.ensures place) (c.block-left.ensures (keys (drop (c.loop-at.at + 1) c.args.dims.now)) whole)
