use Rattle.std.proofs.Common.{◌≡◌, ◌+◌, ◌-◌, ◌*◌, ◌/◌, ◌≤◌, ◌<◌, true, refl, ap, sym, ◌∙◌, subst, rules, arith, map, length, drop, take, get_or, pos}
use Rattle.std.specs.Prelude.{FitsSigned, Some}
use Rattle.std.specs.List.{list_all}
use mir.Syntax.{w64, w128}
use Rattle.std.proofs.lemmas.Int.{to_z-of_z}
use Rattle.opl_domain.specs.Arithmetic.{span_min, span_max}
use Rattle.opl_expr.specs.declared.forms.Cons.TheFolds.{the_lemmas}
use Rattle.opl_expr.specs.declared.forms.Op.TheVariants.{Ne}
use Rattle.opl_expr.specs.declared.tables.Cell.TheVariants as cell
use Rattle.opl_expr.specs.Forms.{Term, Fact, fact, terms_of, facts_of, compared, capacity_at}
use Rattle.opl_expr.specs.Options.{lift1, lift_onto}
use Rattle.opl_expr.specs.Range.{flip, rest, may_be, linears, fact_range}
use Rattle.opl_expr.specs.Sound.{term_magnitude, keys, is_there, IsSoundTerm, AreSoundTerms, IsSoundFact, AreSoundFacts}
use Rattle.opl_expr.proofs.Plain.{term_Const, term_Var, term_Sum, term_Min, term_Max, term_At, term_Truth, term_Ask, fact_Fixed, fact_Cmp, fact_And, fact_Or, fact_Imp, fact_Iff, fact_Not, fact_AllDifferent, fact_Capacity, fact_Bound}
use Rattle.opl_expr.proofs.Parts.{drop_none, sound_at, sound_fact_at, some_terms}
use Rattle.opl_range.specs.Between.{term_of}
use Rattle.opl_range.proofs.Parts.{sum_parts, least_parts, greatest_parts, neg_part, abs_part, div_first, div_second, rem_first, rem_second, mul_first, mul_second, factors_small, swapped_small, none_left}
use Rattle.opl_range.proofs.Compare.{opposite_is}
use Rattle.opl_range.proofs.Arms.{neg_arm, mul_left_arm, mul_right_arm, part_range, div_arm, rem_arm, abs_arm, mul_arm, rest_fits, range_fits, multiple_fits, product_fits, sum_more, sum_fits, extreme_next, extreme_last, by_form, by_fact, one_place, and_more, or_more, imp_arm, iff_arm, cmp_first, cmp_second, cmp_same, cells_same}
use Rattle.opl_range.proofs.Demands.{count_is}
use Rattle.opl_range.proofs.Pairs.{differ_next, pair_next, sound_pair_at}
use Rattle.opl_range.proofs.Tables.{linear, cell_there, fit_length, fit_same, reach_start, reach_sizes, reach_next, reach_missed, reach_whole, index_fits}
use Rattle.opl_range.proofs.TableRows.{IsSplit, length_take, at_take, length_slice, slice_there, no_cells, one_cell, fit_at, split_some, split_count, split_end, split_start, split_skipped, split_joined, split_whole, empty_is, some_is, plus_less}
use Rattle.opl_range.proofs.ranges.+ranges.Goals as goal

pub rest_of-sum-requires : goal.rest_of-sum-requires
rest_of-sum-requires g t c κs within =
    let core = c.args.core.now in let F = g.V.View.family c.args.view.now in (search (rules, the_lemmas), (within, (sum_parts core.tables core.resources core.sets _ _ _ c.in-Sum.is c.as_slice.ensures c.requires.sound, c.requires.within)))

pub rest_of-returns-in-Sum : goal.rest_of-returns-in-Sum
rest_of-returns-in-Sum g t c =
    let core = c.args.core.now in let F = g.V.View.family c.args.view.now in by_form core F c.args.e.now _ _ (ap (term_of core) c.in-Sum.is ∙ term_Sum core.tables core.resources c.in-Sum.parts) (c.sum.ensures ∙ ap (λ z. rest F (Term.sum (terms_of (map (term_of core) z)))) c.as_slice.ensures)

pub rest_of-returns-in-Const : goal.rest_of-returns-in-Const
rest_of-returns-in-Const g t c =
    let core = c.args.core.now in let F = g.V.View.family c.args.view.now in let fits : FitsSigned w128 c.in-Const.k = search rules in let e = simp to_z-of_z at c.point.ensures in by_form core F c.args.e.now _ _ (ap (term_of core) c.in-Const.is ∙ term_Const core.tables core.resources c.in-Const.k) (ap Some e)

pub rest_of-returns-in-Var : goal.rest_of-returns-in-Var
rest_of-returns-in-Var g t c =
    let core = c.args.core.now in let F = g.V.View.family c.args.view.now in by_form core F c.args.e.now _ _ (ap (term_of core) c.in-Var.is ∙ term_Var core.tables core.resources _) (ap Some c.point-in-Var.ensures)

pub rest_of-returns-in-Ask : goal.rest_of-returns-in-Ask
rest_of-returns-in-Ask g t c =
    let core = c.args.core.now in let F = g.V.View.family c.args.view.now in by_form core F c.args.e.now _ _ (ap (term_of core) c.in-Ask.is ∙ term_Ask core.tables core.resources _ _) refl

pub rest_of-rest_of-requires : goal.rest_of-rest_of-requires
rest_of-rest_of-requires g t c κs within =
    let core = c.args.core.now in let F = g.V.View.family c.args.view.now in (search (rules, the_lemmas), (within, (neg_part core.tables core.resources core.sets _ _ _ c.in-Neg.is c.get.ensures c.requires.sound, c.requires.within)))

pub rest_of-negative-requires : goal.rest_of-negative-requires
rest_of-negative-requires g t c =
    let core = c.args.core.now in let F = g.V.View.family c.args.view.now in rest_fits core F c.requires.within c.get.result.now c.rest_of.result (neg_part core.tables core.resources core.sets _ _ _ c.in-Neg.is c.get.ensures c.requires.sound) c.rest_of.ensures

pub rest_of-returns-in-Neg : goal.rest_of-returns-in-Neg
rest_of-returns-in-Neg g t c =
    let core = c.args.core.now in let F = g.V.View.family c.args.view.now in neg_arm core F _ _ _ _ _ c.in-Neg.is c.get.ensures c.rest_of.ensures c.negative.ensures

pub rest_of-rest_of-requires-in-Some : goal.rest_of-rest_of-requires-in-Some
rest_of-rest_of-requires-in-Some g t c κs within =
    let core = c.args.core.now in let F = g.V.View.family c.args.view.now in (search (rules, the_lemmas), (within, (mul_second core.tables core.resources core.sets _ _ _ _ c.in-Mul.is c.get-in-Some.ensures c.requires.sound, c.requires.within)))

pub rest_of-multiple-requires : goal.rest_of-multiple-requires
rest_of-multiple-requires g t c =
    let core = c.args.core.now in let F = g.V.View.family c.args.view.now in let factor : FitsSigned w128 c.in-Some.k = search rules in simp to_z-of_z (multiple_fits core F c.requires.within c.get-in-Mul.result.now c.get-in-Some.result.now c.in-Some.k c.rest_of-in-Some.result (c.in-Some.ensures) c.rest_of-in-Some.ensures (factors_small core.tables core.resources core.sets _ _ _ _ _ c.in-Mul.is c.get-in-Mul.ensures c.get-in-Some.ensures c.requires.sound))

pub rest_of-returns-in-Some : goal.rest_of-returns-in-Some
rest_of-returns-in-Some g t c =
    let core = c.args.core.now in let F = g.V.View.family c.args.view.now in let factor : FitsSigned w128 c.in-Some.k = search rules in let m = simp to_z-of_z at c.multiple.ensures in mul_left_arm core F c.args.e.now c.in-Mul.a c.in-Mul.b c.get-in-Mul.result.now c.get-in-Some.result.now c.in-Some.k c.rest_of-in-Some.result c.multiple.result c.in-Mul.is c.get-in-Mul.ensures c.get-in-Some.ensures (c.in-Some.ensures) c.rest_of-in-Some.ensures m

pub rest_of-rest_of-requires-in-Some-constant : goal.rest_of-rest_of-requires-in-Some-constant
rest_of-rest_of-requires-in-Some-constant g t c κs within =
    let core = c.args.core.now in let F = g.V.View.family c.args.view.now in (search (rules, the_lemmas), (within, (mul_first core.tables core.resources core.sets _ _ _ _ c.in-Mul.is c.get-in-Some-constant.ensures c.requires.sound, c.requires.within)))

pub rest_of-multiple-requires-in-Some-constant : goal.rest_of-multiple-requires-in-Some-constant
rest_of-multiple-requires-in-Some-constant g t c =
    let core = c.args.core.now in let F = g.V.View.family c.args.view.now in let factor : FitsSigned w128 c.in-Some-constant.k = search rules in simp to_z-of_z (multiple_fits core F c.requires.within c.get-in-None.result.now c.get-in-Some-constant.result.now c.in-Some-constant.k c.rest_of-in-Some-constant.result (c.in-Some-constant.ensures) c.rest_of-in-Some-constant.ensures (swapped_small (term_magnitude core.sets (term_of core c.get-in-Some-constant.result.now)) (term_magnitude core.sets (term_of core c.get-in-None.result.now)) (factors_small core.tables core.resources core.sets _ _ _ _ _ c.in-Mul.is c.get-in-Some-constant.ensures c.get-in-None.ensures c.requires.sound)))

pub rest_of-returns-in-Some-constant : goal.rest_of-returns-in-Some-constant
rest_of-returns-in-Some-constant g t c =
    let core = c.args.core.now in let F = g.V.View.family c.args.view.now in let factor : FitsSigned w128 c.in-Some-constant.k = search rules in let m = simp to_z-of_z at c.multiple-in-Some-constant.ensures in mul_right_arm core F c.args.e.now c.in-Mul.a c.in-Mul.b c.get-in-Mul.result.now c.get-in-Some-constant.result.now c.get-in-None.result.now c.in-Some-constant.k c.rest_of-in-Some-constant.result c.multiple-in-Some-constant.result c.in-Mul.is c.get-in-Mul.ensures c.get-in-Some-constant.ensures c.get-in-None.ensures (c.in-None.ensures) (c.in-Some-constant.ensures) c.rest_of-in-Some-constant.ensures m

pub rest_of-rest_of-requires-in-None-constant : goal.rest_of-rest_of-requires-in-None-constant
rest_of-rest_of-requires-in-None-constant g t c κs within =
    let core = c.args.core.now in let F = g.V.View.family c.args.view.now in (search (rules, the_lemmas), (within, (mul_first core.tables core.resources core.sets _ _ _ _ c.in-Mul.is c.get-in-None-constant-2.ensures c.requires.sound, c.requires.within)))

pub rest_of-rest_of-requires-in-None-constant-2 : goal.rest_of-rest_of-requires-in-None-constant-2
rest_of-rest_of-requires-in-None-constant-2 g t c κs within =
    let core = c.args.core.now in let F = g.V.View.family c.args.view.now in (search (rules, the_lemmas), (within, (mul_second core.tables core.resources core.sets _ _ _ _ c.in-Mul.is c.get-in-None-constant-4.ensures c.requires.sound, c.requires.within)))

pub rest_of-range_of_rest-requires-clause-sound : goal.rest_of-range_of_rest-requires-clause-sound
rest_of-range_of_rest-requires-clause-sound g t c =
    let core = c.args.core.now in let F = g.V.View.family c.args.view.now in mul_first core.tables core.resources core.sets _ _ _ _ c.in-Mul.is c.get-in-None-constant.ensures c.requires.sound

pub rest_of-range_of_rest-requires-clause-within : goal.rest_of-range_of_rest-requires-clause-within
rest_of-range_of_rest-requires-clause-within g t c =
    let core = c.args.core.now in let F = g.V.View.family c.args.view.now in c.requires.within

pub rest_of-range_of_rest-requires-clause-beside : goal.rest_of-range_of_rest-requires-clause-beside
rest_of-range_of_rest-requires-clause-beside g t c =
    let core = c.args.core.now in let F = g.V.View.family c.args.view.now in c.rest_of-in-None-constant.ensures ∙ ap (λ z. rest F (term_of core z)) (c.get-in-None-constant-2.ensures ∙ sym c.get-in-None-constant.ensures)

pub rest_of-range_of_rest-requires-in-None-constant-clause-sound : goal.rest_of-range_of_rest-requires-in-None-constant-clause-sound
rest_of-range_of_rest-requires-in-None-constant-clause-sound g t c =
    let core = c.args.core.now in let F = g.V.View.family c.args.view.now in mul_second core.tables core.resources core.sets _ _ _ _ c.in-Mul.is c.get-in-None-constant-3.ensures c.requires.sound

pub rest_of-range_of_rest-requires-in-None-constant-clause-within : goal.rest_of-range_of_rest-requires-in-None-constant-clause-within
rest_of-range_of_rest-requires-in-None-constant-clause-within g t c =
    let core = c.args.core.now in let F = g.V.View.family c.args.view.now in c.requires.within

pub rest_of-range_of_rest-requires-in-None-constant-clause-beside : goal.rest_of-range_of_rest-requires-in-None-constant-clause-beside
rest_of-range_of_rest-requires-in-None-constant-clause-beside g t c =
    let core = c.args.core.now in let F = g.V.View.family c.args.view.now in c.rest_of-in-None-constant-2.ensures ∙ ap (λ z. rest F (term_of core z)) (c.get-in-None-constant-4.ensures ∙ sym c.get-in-None-constant-3.ensures)

pub rest_of-product-requires : goal.rest_of-product-requires
rest_of-product-requires g t c =
    let core = c.args.core.now in let F = g.V.View.family c.args.view.now in product_fits core F c.requires.within c.get-in-None-constant.result.now c.get-in-None-constant-3.result.now c.rest_of-in-None-constant.result c.rest_of-in-None-constant-2.result c.range_of_rest.result c.range_of_rest-in-None-constant.result (c.rest_of-in-None-constant.ensures ∙ ap (λ z. rest F (term_of core z)) (c.get-in-None-constant-2.ensures ∙ sym c.get-in-None-constant.ensures)) c.range_of_rest.ensures (c.rest_of-in-None-constant-2.ensures ∙ ap (λ z. rest F (term_of core z)) (c.get-in-None-constant-4.ensures ∙ sym c.get-in-None-constant-3.ensures)) c.range_of_rest-in-None-constant.ensures (factors_small core.tables core.resources core.sets _ _ _ _ _ c.in-Mul.is c.get-in-None-constant.ensures c.get-in-None-constant-3.ensures c.requires.sound)

pub rest_of-returns-in-None-constant : goal.rest_of-returns-in-None-constant
rest_of-returns-in-None-constant g t c =
    let core = c.args.core.now in let F = g.V.View.family c.args.view.now in mul_arm core F c.args.e.now c.in-Mul.a c.in-Mul.b c.get-in-Mul.result.now c.get-in-None.result.now c.range_of_rest.result c.range_of_rest-in-None-constant.result c.product.result c.in-Mul.is c.get-in-Mul.ensures c.get-in-None.ensures (c.in-None.ensures) (c.in-None-constant.ensures) (part_range core F c.in-Mul.a c.get-in-None-constant.result.now c.rest_of-in-None-constant.result c.range_of_rest.result c.get-in-None-constant.ensures (c.rest_of-in-None-constant.ensures ∙ ap (λ z. rest F (term_of core z)) (c.get-in-None-constant-2.ensures ∙ sym c.get-in-None-constant.ensures)) c.range_of_rest.ensures) (part_range core F c.in-Mul.b c.get-in-None-constant-3.result.now c.rest_of-in-None-constant-2.result c.range_of_rest-in-None-constant.result c.get-in-None-constant-3.ensures (c.rest_of-in-None-constant-2.ensures ∙ ap (λ z. rest F (term_of core z)) (c.get-in-None-constant-4.ensures ∙ sym c.get-in-None-constant-3.ensures)) c.range_of_rest-in-None-constant.ensures) c.product.ensures

pub rest_of-rest_of-requires-in-Div : goal.rest_of-rest_of-requires-in-Div
rest_of-rest_of-requires-in-Div g t c κs within =
    let core = c.args.core.now in let F = g.V.View.family c.args.view.now in (search (rules, the_lemmas), (within, (div_first core.tables core.resources core.sets _ _ _ _ c.in-Div.is c.get-in-Div-2.ensures c.requires.sound, c.requires.within)))

pub rest_of-rest_of-requires-in-Div-2 : goal.rest_of-rest_of-requires-in-Div-2
rest_of-rest_of-requires-in-Div-2 g t c κs within =
    let core = c.args.core.now in let F = g.V.View.family c.args.view.now in (search (rules, the_lemmas), (within, (div_second core.tables core.resources core.sets _ _ _ _ c.in-Div.is c.get-in-Div-4.ensures c.requires.sound, c.requires.within)))

pub rest_of-range_of_rest-requires-in-Div-clause-sound : goal.rest_of-range_of_rest-requires-in-Div-clause-sound
rest_of-range_of_rest-requires-in-Div-clause-sound g t c =
    let core = c.args.core.now in let F = g.V.View.family c.args.view.now in div_first core.tables core.resources core.sets _ _ _ _ c.in-Div.is c.get-in-Div.ensures c.requires.sound

pub rest_of-range_of_rest-requires-in-Div-clause-within : goal.rest_of-range_of_rest-requires-in-Div-clause-within
rest_of-range_of_rest-requires-in-Div-clause-within g t c =
    let core = c.args.core.now in let F = g.V.View.family c.args.view.now in c.requires.within

pub rest_of-range_of_rest-requires-in-Div-clause-beside : goal.rest_of-range_of_rest-requires-in-Div-clause-beside
rest_of-range_of_rest-requires-in-Div-clause-beside g t c =
    let core = c.args.core.now in let F = g.V.View.family c.args.view.now in c.rest_of-in-Div.ensures ∙ ap (λ z. rest F (term_of core z)) (c.get-in-Div-2.ensures ∙ sym c.get-in-Div.ensures)

pub rest_of-range_of_rest-requires-in-Div-2-clause-sound : goal.rest_of-range_of_rest-requires-in-Div-2-clause-sound
rest_of-range_of_rest-requires-in-Div-2-clause-sound g t c =
    let core = c.args.core.now in let F = g.V.View.family c.args.view.now in div_second core.tables core.resources core.sets _ _ _ _ c.in-Div.is c.get-in-Div-3.ensures c.requires.sound

pub rest_of-range_of_rest-requires-in-Div-2-clause-within : goal.rest_of-range_of_rest-requires-in-Div-2-clause-within
rest_of-range_of_rest-requires-in-Div-2-clause-within g t c =
    let core = c.args.core.now in let F = g.V.View.family c.args.view.now in c.requires.within

pub rest_of-range_of_rest-requires-in-Div-2-clause-beside : goal.rest_of-range_of_rest-requires-in-Div-2-clause-beside
rest_of-range_of_rest-requires-in-Div-2-clause-beside g t c =
    let core = c.args.core.now in let F = g.V.View.family c.args.view.now in c.rest_of-in-Div-2.ensures ∙ ap (λ z. rest F (term_of core z)) (c.get-in-Div-4.ensures ∙ sym c.get-in-Div-3.ensures)

pub rest_of-quotient-requires-clause-own : goal.rest_of-quotient-requires-clause-own
rest_of-quotient-requires-clause-own g t c =
    let core = c.args.core.now in let F = g.V.View.family c.args.view.now in range_fits core F c.requires.within c.get-in-Div.result.now c.rest_of-in-Div.result c.range_of_rest-in-Div.result (div_first core.tables core.resources core.sets _ _ _ _ c.in-Div.is c.get-in-Div.ensures c.requires.sound) (c.rest_of-in-Div.ensures ∙ ap (λ z. rest F (term_of core z)) (c.get-in-Div-2.ensures ∙ sym c.get-in-Div.ensures)) c.range_of_rest-in-Div.ensures

pub rest_of-quotient-requires-clause-others : goal.rest_of-quotient-requires-clause-others
rest_of-quotient-requires-clause-others g t c =
    let core = c.args.core.now in let F = g.V.View.family c.args.view.now in range_fits core F c.requires.within c.get-in-Div-3.result.now c.rest_of-in-Div-2.result c.range_of_rest-in-Div-2.result (div_second core.tables core.resources core.sets _ _ _ _ c.in-Div.is c.get-in-Div-3.ensures c.requires.sound) (c.rest_of-in-Div-2.ensures ∙ ap (λ z. rest F (term_of core z)) (c.get-in-Div-4.ensures ∙ sym c.get-in-Div-3.ensures)) c.range_of_rest-in-Div-2.ensures

pub rest_of-returns-in-Div : goal.rest_of-returns-in-Div
rest_of-returns-in-Div g t c =
    let core = c.args.core.now in let F = g.V.View.family c.args.view.now in div_arm core F c.args.e.now c.in-Div.a c.in-Div.b c.range_of_rest-in-Div.result c.range_of_rest-in-Div-2.result c.quotient.result c.in-Div.is (part_range core F c.in-Div.a c.get-in-Div.result.now c.rest_of-in-Div.result c.range_of_rest-in-Div.result c.get-in-Div.ensures (c.rest_of-in-Div.ensures ∙ ap (λ z. rest F (term_of core z)) (c.get-in-Div-2.ensures ∙ sym c.get-in-Div.ensures)) c.range_of_rest-in-Div.ensures) (part_range core F c.in-Div.b c.get-in-Div-3.result.now c.rest_of-in-Div-2.result c.range_of_rest-in-Div-2.result c.get-in-Div-3.ensures (c.rest_of-in-Div-2.ensures ∙ ap (λ z. rest F (term_of core z)) (c.get-in-Div-4.ensures ∙ sym c.get-in-Div-3.ensures)) c.range_of_rest-in-Div-2.ensures) c.quotient.ensures

pub rest_of-rest_of-requires-in-Rem : goal.rest_of-rest_of-requires-in-Rem
rest_of-rest_of-requires-in-Rem g t c κs within =
    let core = c.args.core.now in let F = g.V.View.family c.args.view.now in (search (rules, the_lemmas), (within, (rem_first core.tables core.resources core.sets _ _ _ _ c.in-Rem.is c.get-in-Rem-2.ensures c.requires.sound, c.requires.within)))

pub rest_of-rest_of-requires-in-Rem-2 : goal.rest_of-rest_of-requires-in-Rem-2
rest_of-rest_of-requires-in-Rem-2 g t c κs within =
    let core = c.args.core.now in let F = g.V.View.family c.args.view.now in (search (rules, the_lemmas), (within, (rem_second core.tables core.resources core.sets _ _ _ _ c.in-Rem.is c.get-in-Rem-4.ensures c.requires.sound, c.requires.within)))

pub rest_of-range_of_rest-requires-in-Rem-clause-sound : goal.rest_of-range_of_rest-requires-in-Rem-clause-sound
rest_of-range_of_rest-requires-in-Rem-clause-sound g t c =
    let core = c.args.core.now in let F = g.V.View.family c.args.view.now in rem_first core.tables core.resources core.sets _ _ _ _ c.in-Rem.is c.get-in-Rem.ensures c.requires.sound

pub rest_of-range_of_rest-requires-in-Rem-clause-within : goal.rest_of-range_of_rest-requires-in-Rem-clause-within
rest_of-range_of_rest-requires-in-Rem-clause-within g t c =
    let core = c.args.core.now in let F = g.V.View.family c.args.view.now in c.requires.within

pub rest_of-range_of_rest-requires-in-Rem-clause-beside : goal.rest_of-range_of_rest-requires-in-Rem-clause-beside
rest_of-range_of_rest-requires-in-Rem-clause-beside g t c =
    let core = c.args.core.now in let F = g.V.View.family c.args.view.now in c.rest_of-in-Rem.ensures ∙ ap (λ z. rest F (term_of core z)) (c.get-in-Rem-2.ensures ∙ sym c.get-in-Rem.ensures)

pub rest_of-range_of_rest-requires-in-Rem-2-clause-sound : goal.rest_of-range_of_rest-requires-in-Rem-2-clause-sound
rest_of-range_of_rest-requires-in-Rem-2-clause-sound g t c =
    let core = c.args.core.now in let F = g.V.View.family c.args.view.now in rem_second core.tables core.resources core.sets _ _ _ _ c.in-Rem.is c.get-in-Rem-3.ensures c.requires.sound

pub rest_of-range_of_rest-requires-in-Rem-2-clause-within : goal.rest_of-range_of_rest-requires-in-Rem-2-clause-within
rest_of-range_of_rest-requires-in-Rem-2-clause-within g t c =
    let core = c.args.core.now in let F = g.V.View.family c.args.view.now in c.requires.within

pub rest_of-range_of_rest-requires-in-Rem-2-clause-beside : goal.rest_of-range_of_rest-requires-in-Rem-2-clause-beside
rest_of-range_of_rest-requires-in-Rem-2-clause-beside g t c =
    let core = c.args.core.now in let F = g.V.View.family c.args.view.now in c.rest_of-in-Rem-2.ensures ∙ ap (λ z. rest F (term_of core z)) (c.get-in-Rem-4.ensures ∙ sym c.get-in-Rem-3.ensures)

pub rest_of-remainder-requires-clause-own : goal.rest_of-remainder-requires-clause-own
rest_of-remainder-requires-clause-own g t c =
    let core = c.args.core.now in let F = g.V.View.family c.args.view.now in range_fits core F c.requires.within c.get-in-Rem.result.now c.rest_of-in-Rem.result c.range_of_rest-in-Rem.result (rem_first core.tables core.resources core.sets _ _ _ _ c.in-Rem.is c.get-in-Rem.ensures c.requires.sound) (c.rest_of-in-Rem.ensures ∙ ap (λ z. rest F (term_of core z)) (c.get-in-Rem-2.ensures ∙ sym c.get-in-Rem.ensures)) c.range_of_rest-in-Rem.ensures

pub rest_of-remainder-requires-clause-others : goal.rest_of-remainder-requires-clause-others
rest_of-remainder-requires-clause-others g t c =
    let core = c.args.core.now in let F = g.V.View.family c.args.view.now in range_fits core F c.requires.within c.get-in-Rem-3.result.now c.rest_of-in-Rem-2.result c.range_of_rest-in-Rem-2.result (rem_second core.tables core.resources core.sets _ _ _ _ c.in-Rem.is c.get-in-Rem-3.ensures c.requires.sound) (c.rest_of-in-Rem-2.ensures ∙ ap (λ z. rest F (term_of core z)) (c.get-in-Rem-4.ensures ∙ sym c.get-in-Rem-3.ensures)) c.range_of_rest-in-Rem-2.ensures

pub rest_of-returns-in-Rem : goal.rest_of-returns-in-Rem
rest_of-returns-in-Rem g t c =
    let core = c.args.core.now in let F = g.V.View.family c.args.view.now in rem_arm core F c.args.e.now c.in-Rem.a c.in-Rem.b c.range_of_rest-in-Rem.result c.range_of_rest-in-Rem-2.result c.remainder.result c.in-Rem.is (part_range core F c.in-Rem.a c.get-in-Rem.result.now c.rest_of-in-Rem.result c.range_of_rest-in-Rem.result c.get-in-Rem.ensures (c.rest_of-in-Rem.ensures ∙ ap (λ z. rest F (term_of core z)) (c.get-in-Rem-2.ensures ∙ sym c.get-in-Rem.ensures)) c.range_of_rest-in-Rem.ensures) (part_range core F c.in-Rem.b c.get-in-Rem-3.result.now c.rest_of-in-Rem-2.result c.range_of_rest-in-Rem-2.result c.get-in-Rem-3.ensures (c.rest_of-in-Rem-2.ensures ∙ ap (λ z. rest F (term_of core z)) (c.get-in-Rem-4.ensures ∙ sym c.get-in-Rem-3.ensures)) c.range_of_rest-in-Rem-2.ensures) c.remainder.ensures

pub rest_of-rest_of-requires-in-Abs : goal.rest_of-rest_of-requires-in-Abs
rest_of-rest_of-requires-in-Abs g t c κs within =
    let core = c.args.core.now in let F = g.V.View.family c.args.view.now in (search (rules, the_lemmas), (within, (abs_part core.tables core.resources core.sets _ _ _ c.in-Abs.is c.get-in-Abs-2.ensures c.requires.sound, c.requires.within)))

pub rest_of-range_of_rest-requires-in-Abs-clause-sound : goal.rest_of-range_of_rest-requires-in-Abs-clause-sound
rest_of-range_of_rest-requires-in-Abs-clause-sound g t c =
    let core = c.args.core.now in let F = g.V.View.family c.args.view.now in abs_part core.tables core.resources core.sets _ _ _ c.in-Abs.is c.get-in-Abs.ensures c.requires.sound

pub rest_of-range_of_rest-requires-in-Abs-clause-within : goal.rest_of-range_of_rest-requires-in-Abs-clause-within
rest_of-range_of_rest-requires-in-Abs-clause-within g t c =
    let core = c.args.core.now in let F = g.V.View.family c.args.view.now in c.requires.within

pub rest_of-range_of_rest-requires-in-Abs-clause-beside : goal.rest_of-range_of_rest-requires-in-Abs-clause-beside
rest_of-range_of_rest-requires-in-Abs-clause-beside g t c =
    let core = c.args.core.now in let F = g.V.View.family c.args.view.now in (c.rest_of-in-Abs.ensures ∙ ap (λ z. rest F (term_of core z)) (c.get-in-Abs-2.ensures ∙ sym c.get-in-Abs.ensures))

pub rest_of-absolute_value-requires : goal.rest_of-absolute_value-requires
rest_of-absolute_value-requires g t c =
    let core = c.args.core.now in let F = g.V.View.family c.args.view.now in range_fits core F c.requires.within c.get-in-Abs.result.now c.rest_of-in-Abs.result c.range_of_rest-in-Abs.result (abs_part core.tables core.resources core.sets _ _ _ c.in-Abs.is c.get-in-Abs.ensures c.requires.sound) (c.rest_of-in-Abs.ensures ∙ ap (λ z. rest F (term_of core z)) (c.get-in-Abs-2.ensures ∙ sym c.get-in-Abs.ensures)) c.range_of_rest-in-Abs.ensures

pub rest_of-returns-in-Abs : goal.rest_of-returns-in-Abs
rest_of-returns-in-Abs g t c =
    let core = c.args.core.now in let F = g.V.View.family c.args.view.now in abs_arm core F c.args.e.now c.in-Abs.a c.range_of_rest-in-Abs.result c.absolute_value.result c.in-Abs.is (part_range core F c.in-Abs.a c.get-in-Abs.result.now c.rest_of-in-Abs.result c.range_of_rest-in-Abs.result c.get-in-Abs.ensures (c.rest_of-in-Abs.ensures ∙ ap (λ z. rest F (term_of core z)) (c.get-in-Abs-2.ensures ∙ sym c.get-in-Abs.ensures)) c.range_of_rest-in-Abs.ensures) c.absolute_value.ensures

pub rest_of-least-requires : goal.rest_of-least-requires
rest_of-least-requires g t c κs within =
    let core = c.args.core.now in let F = g.V.View.family c.args.view.now in (search (rules, the_lemmas), (within, (least_parts core.tables core.resources core.sets _ _ _ c.in-Min.is c.as_slice-in-Min.ensures c.requires.sound, c.requires.within)))

pub rest_of-returns-in-Min : goal.rest_of-returns-in-Min
rest_of-returns-in-Min g t c =
    let core = c.args.core.now in let F = g.V.View.family c.args.view.now in by_form core F c.args.e.now _ _ (ap (term_of core) c.in-Min.is ∙ term_Min core.tables core.resources c.in-Min.parts) (c.least.ensures ∙ ap (λ z. rest F (Term.least (terms_of (map (term_of core) z)))) c.as_slice-in-Min.ensures)

pub rest_of-greatest-requires : goal.rest_of-greatest-requires
rest_of-greatest-requires g t c κs within =
    let core = c.args.core.now in let F = g.V.View.family c.args.view.now in (search (rules, the_lemmas), (within, (greatest_parts core.tables core.resources core.sets _ _ _ c.in-Max.is c.as_slice-in-Max.ensures c.requires.sound, c.requires.within)))

pub rest_of-returns-in-Max : goal.rest_of-returns-in-Max
rest_of-returns-in-Max g t c =
    let core = c.args.core.now in let F = g.V.View.family c.args.view.now in by_form core F c.args.e.now _ _ (ap (term_of core) c.in-Max.is ∙ term_Max core.tables core.resources c.in-Max.parts) (c.greatest.ensures ∙ ap (λ z. rest F (Term.greatest (terms_of (map (term_of core) z)))) c.as_slice-in-Max.ensures)

pub rest_of-cons_range-requires : goal.rest_of-cons_range-requires
rest_of-cons_range-requires g t c κs within =
    let core = c.args.core.now in let F = g.V.View.family c.args.view.now in (search (rules, the_lemmas), (within, (subst (λ z. IsSoundFact core.sets (fact core.tables core.resources z)) (sym c.get-in-Truth.ensures) (subst (IsSoundTerm core.sets) (ap (term_of core) c.in-Truth.is ∙ term_Truth core.tables core.resources c.in-Truth.c) c.requires.sound), c.requires.within)))

pub rest_of-returns-in-Truth : goal.rest_of-returns-in-Truth
rest_of-returns-in-Truth g t c =
    let core = c.args.core.now in let F = g.V.View.family c.args.view.now in by_form core F c.args.e.now _ _ (ap (term_of core) c.in-Truth.is ∙ term_Truth core.tables core.resources c.in-Truth.c) (c.cons_range.ensures ∙ ap (λ z. fact_range F (fact core.tables core.resources z)) c.get-in-Truth.ensures)

pub rest_of-returns-in-None-get : goal.rest_of-returns-in-None-get
rest_of-returns-in-None-get g t c =
    let core = c.args.core.now in let F = g.V.View.family c.args.view.now in by_form core F c.args.e.now _ _ (ap (term_of core) c.in-At.is ∙ term_At core.tables core.resources c.in-At.table c.in-At.parts ∙ ap (λ o. Term.at o (terms_of (map (term_of core) c.in-At.parts))) (sym c.in-None-get.ensures.value)) refl

pub rest_of-cells-requires : goal.rest_of-cells-requires
rest_of-cells-requires g t c κs within =
    let core = c.args.core.now in let F = g.V.View.family c.args.view.now in let s = subst (IsSoundTerm core.sets) (ap (term_of core) c.in-At.is ∙ term_At core.tables core.resources c.in-At.table c.in-At.parts ∙ ap (λ o. Term.at o (terms_of (map (term_of core) c.in-At.parts))) (sym c.in-Some-get.ensures.value)) c.requires.sound in (search (rules, the_lemmas), (within, (subst (λ z. AreSoundTerms core.sets (terms_of (map (term_of core) z))) (sym c.as_slice-in-Some-get-2.ensures) s.3, (fit_same core.sets (term_of core) _ _ _ _ c.as_slice-in-Some-get.ensures c.as_slice-in-Some-get-2.ensures s.2, (ap length c.as_slice-in-Some-get-3.ensures ∙ s.1.0 ∙ sym (ap keys c.as_slice-in-Some-get.ensures), (ap (list_all (is_there (length core.sets))) c.as_slice-in-Some-get-3.ensures ∙ s.1.2, c.requires.within))))))

pub rest_of-returns-in-Some-get : goal.rest_of-returns-in-Some-get
rest_of-returns-in-Some-get g t c =
    let core = c.args.core.now in let F = g.V.View.family c.args.view.now in by_form core F c.args.e.now _ _ (ap (term_of core) c.in-At.is ∙ term_At core.tables core.resources c.in-At.table c.in-At.parts ∙ ap (λ o. Term.at o (terms_of (map (term_of core) c.in-At.parts))) (sym c.in-Some-get.ensures.value)) (c.cells.ensures ∙ cells_same core F c.in-Some-get.t.now.dims c.as_slice-in-Some-get.result.now c.in-At.parts c.as_slice-in-Some-get-2.result.now c.in-Some-get.t.now.cells c.as_slice-in-Some-get-3.result.now c.as_slice-in-Some-get.ensures c.as_slice-in-Some-get-2.ensures c.as_slice-in-Some-get-3.ensures)

pub sum-rest_of-requires : goal.sum-rest_of-requires
sum-rest_of-requires g t c κs within =
    let core = c.args.core.now in let F = g.V.View.family c.args.view.now in (search (rules, the_lemmas), (within, (sound_at core.sets (term_of core) c.args.parts.now (c.loop-left.left - 1) c.index-parts-left.result (omega (arith, c.loop-left.invariant.0, c.loop-left-test.true)) c.index-parts-left.is c.requires.sound.1, c.requires.within)))

pub sum-sum-found-requires : goal.sum-sum-found-requires
sum-sum-found-requires g t c =
    let core = c.args.core.now in let F = g.V.View.family c.args.view.now in sum_fits core F c.requires.within c.args.parts.now c.loop-left.left c.index-parts-left.result c.rest_of.result c.loop-left.found c.loop-left-test.true c.loop-left.invariant.0 c.index-parts-left.is c.requires.sound.0 c.rest_of.ensures c.loop-left.invariant.1

pub sum-loop-left-preserved : goal.sum-loop-left-preserved
sum-loop-left-preserved g t c =
    let core = c.args.core.now in let F = g.V.View.family c.args.view.now in (omega (arith, c.loop-left.invariant.0), sum_more core F c.args.parts.now c.loop-left.left c.index-parts-left.result c.rest_of.result c.sum-found.result c.loop-left.found c.loop-left-test.true c.loop-left.invariant.0 c.index-parts-left.is c.rest_of.ensures c.loop-left.invariant.1 c.sum-found.ensures)

pub sum-returns : goal.sum-returns
sum-returns g t c =
    let core = c.args.core.now in let F = g.V.View.family c.args.view.now in c.loop-left.invariant.1 ∙ ap (λ k. rest F (Term.sum (terms_of (map (term_of core) (drop k c.args.parts.now))))) (none_left c.loop-left.left c.loop-left-test.false)

pub sum-loop-left-init : goal.sum-loop-left-init
sum-loop-left-init g t c =
    let core = c.args.core.now in let F = g.V.View.family c.args.view.now in (omega arith, ap Some c.point.ensures ∙ ap (λ ys. rest F (Term.sum (terms_of (map (term_of core) ys)))) (sym (drop_none c.args.parts.now)))

pub least-bounds-parts-left : goal.least-bounds-parts-left
least-bounds-parts-left g t c =
    let core = c.args.core.now in let F = g.V.View.family c.args.view.now in let some = some_terms (term_of core) c.args.parts.now c.requires.sound.0 in omega (arith, some)

pub least-bounds-parts-left-2 : goal.least-bounds-parts-left-2
least-bounds-parts-left-2 g t c =
    let core = c.args.core.now in let F = g.V.View.family c.args.view.now in let some = some_terms (term_of core) c.args.parts.now c.requires.sound.0 in omega (arith, some)

pub least-overflow_sub-left : goal.least-overflow_sub-left
least-overflow_sub-left g t c =
    let core = c.args.core.now in let F = g.V.View.family c.args.view.now in let some = some_terms (term_of core) c.args.parts.now c.requires.sound.0 in omega (arith, some)

pub least-rest_of-requires : goal.least-rest_of-requires
least-rest_of-requires g t c κs within =
    let core = c.args.core.now in let F = g.V.View.family c.args.view.now in let some : 0 < length c.args.parts.now = some_terms (term_of core) c.args.parts.now c.requires.sound.0 in (search (rules, the_lemmas), (within, (sound_at core.sets (term_of core) c.args.parts.now (length c.args.parts.now - 1) c.index-parts-left-2.result (omega (arith, some_terms (term_of core) c.args.parts.now c.requires.sound.0)) c.index-parts-left-2.is c.requires.sound.1, c.requires.within)))

pub least-range_of_rest-found-requires-clause-sound : goal.least-range_of_rest-found-requires-clause-sound
least-range_of_rest-found-requires-clause-sound g t c =
    let core = c.args.core.now in let F = g.V.View.family c.args.view.now in sound_at core.sets (term_of core) c.args.parts.now (length c.args.parts.now - 1) c.index-parts-left.result (omega (arith, some_terms (term_of core) c.args.parts.now c.requires.sound.0)) c.index-parts-left.is c.requires.sound.1

pub least-range_of_rest-found-requires-clause-within : goal.least-range_of_rest-found-requires-clause-within
least-range_of_rest-found-requires-clause-within g t c =
    let core = c.args.core.now in let F = g.V.View.family c.args.view.now in c.requires.within

pub least-range_of_rest-found-requires-clause-beside : goal.least-range_of_rest-found-requires-clause-beside
least-range_of_rest-found-requires-clause-beside g t c =
    let core = c.args.core.now in let F = g.V.View.family c.args.view.now in c.rest_of.ensures ∙ ap (λ z. rest F (term_of core z)) (one_place c.args.parts.now (length c.args.parts.now - 1) c.index-parts-left-2.result c.index-parts-left.result (omega (arith, some_terms (term_of core) c.args.parts.now c.requires.sound.0)) c.index-parts-left-2.is c.index-parts-left.is)

pub least-rest_of-requires-in-loop-left : goal.least-rest_of-requires-in-loop-left
least-rest_of-requires-in-loop-left g t c κs within =
    let core = c.args.core.now in let F = g.V.View.family c.args.view.now in (search (rules, the_lemmas), (within, (sound_at core.sets (term_of core) c.args.parts.now (c.loop-left.left - 1) c.index-parts-left-in-loop-left.result (omega (arith, c.loop-left.invariant.0, c.loop-left-test.true)) c.index-parts-left-in-loop-left.is c.requires.sound.1, c.requires.within)))

pub least-range_of_rest-requires-clause-sound : goal.least-range_of_rest-requires-clause-sound
least-range_of_rest-requires-clause-sound g t c =
    let core = c.args.core.now in let F = g.V.View.family c.args.view.now in sound_at core.sets (term_of core) c.args.parts.now (c.loop-left.left - 1) c.index-parts-left-in-loop-left.result (omega (arith, c.loop-left.invariant.0, c.loop-left-test.true)) c.index-parts-left-in-loop-left.is c.requires.sound.1

pub least-range_of_rest-requires-clause-within : goal.least-range_of_rest-requires-clause-within
least-range_of_rest-requires-clause-within g t c =
    let core = c.args.core.now in let F = g.V.View.family c.args.view.now in c.requires.within

pub least-range_of_rest-requires-clause-beside : goal.least-range_of_rest-requires-clause-beside
least-range_of_rest-requires-clause-beside g t c =
    let core = c.args.core.now in let F = g.V.View.family c.args.view.now in c.rest_of-in-loop-left.ensures

pub least-loop-left-init : goal.least-loop-left-init
least-loop-left-init g t c =
    let core = c.args.core.now in let F = g.V.View.family c.args.view.now in let some = some_terms (term_of core) c.args.parts.now c.requires.sound.0 in (omega (arith, some), extreme_last core F span_min c.args.parts.now c.index-parts-left.result c.rest_of.result c.range_of_rest-found.result some c.index-parts-left.is (c.rest_of.ensures ∙ ap (λ z. rest F (term_of core z)) (one_place c.args.parts.now (length c.args.parts.now - 1) c.index-parts-left-2.result c.index-parts-left.result (omega (arith, some)) c.index-parts-left-2.is c.index-parts-left.is)) c.range_of_rest-found.ensures)

pub least-loop-left-preserved : goal.least-loop-left-preserved
least-loop-left-preserved g t c =
    let core = c.args.core.now in let F = g.V.View.family c.args.view.now in (omega (arith, c.loop-left.invariant.0), extreme_next core F span_min c.args.parts.now c.loop-left.left c.index-parts-left-in-loop-left.result c.rest_of-in-loop-left.result c.range_of_rest.result c.least-found.result c.loop-left.found c.loop-left-test.true c.loop-left.invariant.0 c.index-parts-left-in-loop-left.is c.rest_of-in-loop-left.ensures c.range_of_rest.ensures c.loop-left.invariant.1 c.least-found.ensures)

pub least-returns : goal.least-returns
least-returns g t c =
    let core = c.args.core.now in let F = g.V.View.family c.args.view.now in c.loop-left.invariant.1 ∙ ap (λ k. rest F (Term.least (terms_of (map (term_of core) (drop k c.args.parts.now))))) (none_left c.loop-left.left c.loop-left-test.false)

pub greatest-bounds-parts-left : goal.greatest-bounds-parts-left
greatest-bounds-parts-left g t c =
    let core = c.args.core.now in let F = g.V.View.family c.args.view.now in let some = some_terms (term_of core) c.args.parts.now c.requires.sound.0 in omega (arith, some)

pub greatest-bounds-parts-left-2 : goal.greatest-bounds-parts-left-2
greatest-bounds-parts-left-2 g t c =
    let core = c.args.core.now in let F = g.V.View.family c.args.view.now in let some = some_terms (term_of core) c.args.parts.now c.requires.sound.0 in omega (arith, some)

pub greatest-overflow_sub-left : goal.greatest-overflow_sub-left
greatest-overflow_sub-left g t c =
    let core = c.args.core.now in let F = g.V.View.family c.args.view.now in let some = some_terms (term_of core) c.args.parts.now c.requires.sound.0 in omega (arith, some)

pub greatest-rest_of-requires : goal.greatest-rest_of-requires
greatest-rest_of-requires g t c κs within =
    let core = c.args.core.now in let F = g.V.View.family c.args.view.now in let some : 0 < length c.args.parts.now = some_terms (term_of core) c.args.parts.now c.requires.sound.0 in (search (rules, the_lemmas), (within, (sound_at core.sets (term_of core) c.args.parts.now (length c.args.parts.now - 1) c.index-parts-left-2.result (omega (arith, some_terms (term_of core) c.args.parts.now c.requires.sound.0)) c.index-parts-left-2.is c.requires.sound.1, c.requires.within)))

pub greatest-range_of_rest-found-requires-clause-sound : goal.greatest-range_of_rest-found-requires-clause-sound
greatest-range_of_rest-found-requires-clause-sound g t c =
    let core = c.args.core.now in let F = g.V.View.family c.args.view.now in sound_at core.sets (term_of core) c.args.parts.now (length c.args.parts.now - 1) c.index-parts-left.result (omega (arith, some_terms (term_of core) c.args.parts.now c.requires.sound.0)) c.index-parts-left.is c.requires.sound.1

pub greatest-range_of_rest-found-requires-clause-within : goal.greatest-range_of_rest-found-requires-clause-within
greatest-range_of_rest-found-requires-clause-within g t c =
    let core = c.args.core.now in let F = g.V.View.family c.args.view.now in c.requires.within

pub greatest-range_of_rest-found-requires-clause-beside : goal.greatest-range_of_rest-found-requires-clause-beside
greatest-range_of_rest-found-requires-clause-beside g t c =
    let core = c.args.core.now in let F = g.V.View.family c.args.view.now in c.rest_of.ensures ∙ ap (λ z. rest F (term_of core z)) (one_place c.args.parts.now (length c.args.parts.now - 1) c.index-parts-left-2.result c.index-parts-left.result (omega (arith, some_terms (term_of core) c.args.parts.now c.requires.sound.0)) c.index-parts-left-2.is c.index-parts-left.is)

pub greatest-rest_of-requires-in-loop-left : goal.greatest-rest_of-requires-in-loop-left
greatest-rest_of-requires-in-loop-left g t c κs within =
    let core = c.args.core.now in let F = g.V.View.family c.args.view.now in (search (rules, the_lemmas), (within, (sound_at core.sets (term_of core) c.args.parts.now (c.loop-left.left - 1) c.index-parts-left-in-loop-left.result (omega (arith, c.loop-left.invariant.0, c.loop-left-test.true)) c.index-parts-left-in-loop-left.is c.requires.sound.1, c.requires.within)))

pub greatest-range_of_rest-requires-clause-sound : goal.greatest-range_of_rest-requires-clause-sound
greatest-range_of_rest-requires-clause-sound g t c =
    let core = c.args.core.now in let F = g.V.View.family c.args.view.now in sound_at core.sets (term_of core) c.args.parts.now (c.loop-left.left - 1) c.index-parts-left-in-loop-left.result (omega (arith, c.loop-left.invariant.0, c.loop-left-test.true)) c.index-parts-left-in-loop-left.is c.requires.sound.1

pub greatest-range_of_rest-requires-clause-within : goal.greatest-range_of_rest-requires-clause-within
greatest-range_of_rest-requires-clause-within g t c =
    let core = c.args.core.now in let F = g.V.View.family c.args.view.now in c.requires.within

pub greatest-range_of_rest-requires-clause-beside : goal.greatest-range_of_rest-requires-clause-beside
greatest-range_of_rest-requires-clause-beside g t c =
    let core = c.args.core.now in let F = g.V.View.family c.args.view.now in c.rest_of-in-loop-left.ensures

pub greatest-loop-left-init : goal.greatest-loop-left-init
greatest-loop-left-init g t c =
    let core = c.args.core.now in let F = g.V.View.family c.args.view.now in let some = some_terms (term_of core) c.args.parts.now c.requires.sound.0 in (omega (arith, some), extreme_last core F span_max c.args.parts.now c.index-parts-left.result c.rest_of.result c.range_of_rest-found.result some c.index-parts-left.is (c.rest_of.ensures ∙ ap (λ z. rest F (term_of core z)) (one_place c.args.parts.now (length c.args.parts.now - 1) c.index-parts-left-2.result c.index-parts-left.result (omega (arith, some)) c.index-parts-left-2.is c.index-parts-left.is)) c.range_of_rest-found.ensures)

pub greatest-loop-left-preserved : goal.greatest-loop-left-preserved
greatest-loop-left-preserved g t c =
    let core = c.args.core.now in let F = g.V.View.family c.args.view.now in (omega (arith, c.loop-left.invariant.0), extreme_next core F span_max c.args.parts.now c.loop-left.left c.index-parts-left-in-loop-left.result c.rest_of-in-loop-left.result c.range_of_rest.result c.greatest-found.result c.loop-left.found c.loop-left-test.true c.loop-left.invariant.0 c.index-parts-left-in-loop-left.is c.rest_of-in-loop-left.ensures c.range_of_rest.ensures c.loop-left.invariant.1 c.greatest-found.ensures)

pub greatest-returns : goal.greatest-returns
greatest-returns g t c =
    let core = c.args.core.now in let F = g.V.View.family c.args.view.now in c.loop-left.invariant.1 ∙ ap (λ k. rest F (Term.greatest (terms_of (map (term_of core) (drop k c.args.parts.now))))) (none_left c.loop-left.left c.loop-left-test.false)

pub all-cons_range-requires : goal.all-cons_range-requires
all-cons_range-requires g t c κs within =
    let core = c.args.core.now in let F = g.V.View.family c.args.view.now in (search (rules, the_lemmas), (within, (sound_fact_at core.sets (fact core.tables core.resources) c.args.parts.now (c.loop-left.left - 1) c.index-parts-left.result (omega (arith, c.loop-left.invariant.0, c.loop-left-test.true)) c.index-parts-left.is c.requires.sound, c.requires.within)))

pub all-loop-left-preserved : goal.all-loop-left-preserved
all-loop-left-preserved g t c =
    let core = c.args.core.now in let F = g.V.View.family c.args.view.now in (omega (arith, c.loop-left.invariant.0), and_more core F c.args.parts.now c.loop-left.left c.index-parts-left.result c.cons_range.result c.least-found.result c.loop-left.found c.loop-left-test.true c.loop-left.invariant.0 c.index-parts-left.is c.cons_range.ensures c.loop-left.invariant.1 c.least-found.ensures)

pub all-returns : goal.all-returns
all-returns g t c =
    let core = c.args.core.now in let F = g.V.View.family c.args.view.now in c.loop-left.invariant.1 ∙ ap (λ k. fact_range F (Fact.and (facts_of (map (fact core.tables core.resources) (drop k c.args.parts.now))))) (none_left c.loop-left.left c.loop-left-test.false)

pub all-loop-left-init : goal.all-loop-left-init
all-loop-left-init g t c =
    let core = c.args.core.now in let F = g.V.View.family c.args.view.now in (omega arith, ap Some c.point.ensures ∙ ap (λ ys. fact_range F (Fact.and (facts_of (map (fact core.tables core.resources) ys)))) (sym (drop_none c.args.parts.now)))

pub any-cons_range-requires : goal.any-cons_range-requires
any-cons_range-requires g t c κs within =
    let core = c.args.core.now in let F = g.V.View.family c.args.view.now in (search (rules, the_lemmas), (within, (sound_fact_at core.sets (fact core.tables core.resources) c.args.parts.now (c.loop-left.left - 1) c.index-parts-left.result (omega (arith, c.loop-left.invariant.0, c.loop-left-test.true)) c.index-parts-left.is c.requires.sound, c.requires.within)))

pub any-loop-left-preserved : goal.any-loop-left-preserved
any-loop-left-preserved g t c =
    let core = c.args.core.now in let F = g.V.View.family c.args.view.now in (omega (arith, c.loop-left.invariant.0), or_more core F c.args.parts.now c.loop-left.left c.index-parts-left.result c.cons_range.result c.greatest-found.result c.loop-left.found c.loop-left-test.true c.loop-left.invariant.0 c.index-parts-left.is c.cons_range.ensures c.loop-left.invariant.1 c.greatest-found.ensures)

pub any-returns : goal.any-returns
any-returns g t c =
    let core = c.args.core.now in let F = g.V.View.family c.args.view.now in c.loop-left.invariant.1 ∙ ap (λ k. fact_range F (Fact.or (facts_of (map (fact core.tables core.resources) (drop k c.args.parts.now))))) (none_left c.loop-left.left c.loop-left-test.false)

pub any-loop-left-init : goal.any-loop-left-init
any-loop-left-init g t c =
    let core = c.args.core.now in let F = g.V.View.family c.args.view.now in (omega arith, ap Some c.point.ensures ∙ ap (λ ys. fact_range F (Fact.or (facts_of (map (fact core.tables core.resources) ys)))) (sym (drop_none c.args.parts.now)))

pub cons_range-returns-in-Fixed : goal.cons_range-returns-in-Fixed
cons_range-returns-in-Fixed g t c =
    let core = c.args.core.now in let F = g.V.View.family c.args.view.now in let e = c.truth.ensures in by_fact core F c.args.c.now _ _ (ap (fact core.tables core.resources) c.in-Fixed.is ∙ fact_Fixed core.tables core.resources c.in-Fixed.b) (ap Some e)

pub cons_range-returns-in-Bound : goal.cons_range-returns-in-Bound
cons_range-returns-in-Bound g t c =
    let core = c.args.core.now in let F = g.V.View.family c.args.view.now in by_fact core F c.args.c.now _ _ (ap (fact core.tables core.resources) c.in-Bound.is ∙ fact_Bound core.tables core.resources _) refl

pub cons_range-rest_of-requires : goal.cons_range-rest_of-requires
cons_range-rest_of-requires g t c κs within =
    let core = c.args.core.now in let F = g.V.View.family c.args.view.now in (search (rules, the_lemmas), (within, (cmp_first core c.in-Cmp.op c.in-Cmp.a c.in-Cmp.b _ c.get-in-Cmp.ensures (subst (IsSoundFact core.sets) (ap (fact core.tables core.resources) c.in-Cmp.is ∙ fact_Cmp core.tables core.resources c.in-Cmp.op c.in-Cmp.a c.in-Cmp.b) c.requires.sound), c.requires.within)))

pub cons_range-rest_of-requires-in-Cmp : goal.cons_range-rest_of-requires-in-Cmp
cons_range-rest_of-requires-in-Cmp g t c κs within =
    let core = c.args.core.now in let F = g.V.View.family c.args.view.now in (search (rules, the_lemmas), (within, (cmp_second core c.in-Cmp.op c.in-Cmp.a c.in-Cmp.b _ c.get-in-Cmp-3.ensures (subst (IsSoundFact core.sets) (ap (fact core.tables core.resources) c.in-Cmp.is ∙ fact_Cmp core.tables core.resources c.in-Cmp.op c.in-Cmp.a c.in-Cmp.b) c.requires.sound), c.requires.within)))

pub cons_range-compared-requires-clause-sound : goal.cons_range-compared-requires-clause-sound
cons_range-compared-requires-clause-sound g t c =
    let core = c.args.core.now in let F = g.V.View.family c.args.view.now in cmp_same core c.in-Cmp.op c.in-Cmp.a c.in-Cmp.b _ _ c.get.ensures c.get-in-Cmp-2.ensures (subst (IsSoundFact core.sets) (ap (fact core.tables core.resources) c.in-Cmp.is ∙ fact_Cmp core.tables core.resources c.in-Cmp.op c.in-Cmp.a c.in-Cmp.b) c.requires.sound)

pub cons_range-compared-requires-clause-within : goal.cons_range-compared-requires-clause-within
cons_range-compared-requires-clause-within g t c =
    let core = c.args.core.now in let F = g.V.View.family c.args.view.now in c.requires.within

pub cons_range-compared-requires-clause-first : goal.cons_range-compared-requires-clause-first
cons_range-compared-requires-clause-first g t c =
    let core = c.args.core.now in let F = g.V.View.family c.args.view.now in c.rest_of.ensures ∙ ap (λ z. rest F (term_of core z)) (c.get-in-Cmp.ensures ∙ sym c.get.ensures)

pub cons_range-compared-requires-clause-second : goal.cons_range-compared-requires-clause-second
cons_range-compared-requires-clause-second g t c =
    let core = c.args.core.now in let F = g.V.View.family c.args.view.now in c.rest_of-in-Cmp.ensures ∙ ap (λ z. rest F (term_of core z)) (c.get-in-Cmp-3.ensures ∙ sym c.get-in-Cmp-2.ensures)

pub cons_range-returns-in-Cmp : goal.cons_range-returns-in-Cmp
cons_range-returns-in-Cmp g t c =
    let core = c.args.core.now in let F = g.V.View.family c.args.view.now in by_fact core F c.args.c.now _ _ (ap (fact core.tables core.resources) c.in-Cmp.is ∙ fact_Cmp core.tables core.resources c.in-Cmp.op c.in-Cmp.a c.in-Cmp.b) (c.compared.ensures ∙ ap (λ z. fact_range F (compared c.in-Cmp.op (term_of core z) (term_of core c.get-in-Cmp-2.result.now))) c.get.ensures ∙ ap (λ z. fact_range F (compared c.in-Cmp.op (term_of core c.in-Cmp.a) (term_of core z))) c.get-in-Cmp-2.ensures)

pub cons_range-all-requires : goal.cons_range-all-requires
cons_range-all-requires g t c κs within =
    let core = c.args.core.now in let F = g.V.View.family c.args.view.now in (search (rules, the_lemmas), (within, (subst (λ z. AreSoundFacts core.sets (facts_of (map (fact core.tables core.resources) z))) (sym c.as_slice.ensures) (subst (IsSoundFact core.sets) (ap (fact core.tables core.resources) c.in-And.is ∙ fact_And core.tables core.resources c.in-And.parts) c.requires.sound), c.requires.within)))

pub cons_range-returns-in-And : goal.cons_range-returns-in-And
cons_range-returns-in-And g t c =
    let core = c.args.core.now in let F = g.V.View.family c.args.view.now in by_fact core F c.args.c.now _ _ (ap (fact core.tables core.resources) c.in-And.is ∙ fact_And core.tables core.resources c.in-And.parts) (c.all.ensures ∙ ap (λ z. fact_range F (Fact.and (facts_of (map (fact core.tables core.resources) z)))) c.as_slice.ensures)

pub cons_range-any-requires : goal.cons_range-any-requires
cons_range-any-requires g t c κs within =
    let core = c.args.core.now in let F = g.V.View.family c.args.view.now in (search (rules, the_lemmas), (within, (subst (λ z. AreSoundFacts core.sets (facts_of (map (fact core.tables core.resources) z))) (sym c.as_slice-in-Or.ensures) (subst (IsSoundFact core.sets) (ap (fact core.tables core.resources) c.in-Or.is ∙ fact_Or core.tables core.resources c.in-Or.parts) c.requires.sound), c.requires.within)))

pub cons_range-returns-in-Or : goal.cons_range-returns-in-Or
cons_range-returns-in-Or g t c =
    let core = c.args.core.now in let F = g.V.View.family c.args.view.now in by_fact core F c.args.c.now _ _ (ap (fact core.tables core.resources) c.in-Or.is ∙ fact_Or core.tables core.resources c.in-Or.parts) (c.any.ensures ∙ ap (λ z. fact_range F (Fact.or (facts_of (map (fact core.tables core.resources) z)))) c.as_slice-in-Or.ensures)

pub cons_range-cons_range-requires : goal.cons_range-cons_range-requires
cons_range-cons_range-requires g t c κs within =
    let core = c.args.core.now in let F = g.V.View.family c.args.view.now in (search (rules, the_lemmas), (within, (subst (λ z. IsSoundFact core.sets ((fact core.tables core.resources) z)) (sym c.get-in-Imp.ensures) (subst (IsSoundFact core.sets) (ap (fact core.tables core.resources) c.in-Imp.is ∙ fact_Imp core.tables core.resources c.in-Imp.a c.in-Imp.b) c.requires.sound).0, c.requires.within)))

pub cons_range-opposite-requires : goal.cons_range-opposite-requires
cons_range-opposite-requires g t c =
    let core = c.args.core.now in let F = g.V.View.family c.args.view.now in opposite_is F ((fact core.tables core.resources) c.get-in-Imp.result.now) c.cons_range.result c.cons_range.ensures

pub cons_range-cons_range-requires-in-Imp : goal.cons_range-cons_range-requires-in-Imp
cons_range-cons_range-requires-in-Imp g t c κs within =
    let core = c.args.core.now in let F = g.V.View.family c.args.view.now in (search (rules, the_lemmas), (within, (subst (λ z. IsSoundFact core.sets ((fact core.tables core.resources) z)) (sym c.get-in-Imp-2.ensures) (subst (IsSoundFact core.sets) (ap (fact core.tables core.resources) c.in-Imp.is ∙ fact_Imp core.tables core.resources c.in-Imp.a c.in-Imp.b) c.requires.sound).1.0, c.requires.within)))

pub cons_range-returns-in-Imp : goal.cons_range-returns-in-Imp
cons_range-returns-in-Imp g t c =
    let core = c.args.core.now in let F = g.V.View.family c.args.view.now in by_fact core F c.args.c.now _ _ (ap (fact core.tables core.resources) c.in-Imp.is ∙ fact_Imp core.tables core.resources c.in-Imp.a c.in-Imp.b) (imp_arm core F c.in-Imp.a c.in-Imp.b c.get-in-Imp.result.now c.get-in-Imp-2.result.now c.cons_range.result c.opposite.result c.cons_range-in-Imp.result c.greatest.result c.get-in-Imp.ensures c.get-in-Imp-2.ensures c.cons_range.ensures c.opposite.ensures c.cons_range-in-Imp.ensures c.greatest.ensures)

pub cons_range-cons_range-requires-in-Iff : goal.cons_range-cons_range-requires-in-Iff
cons_range-cons_range-requires-in-Iff g t c κs within =
    let core = c.args.core.now in let F = g.V.View.family c.args.view.now in (search (rules, the_lemmas), (within, (subst (λ z. IsSoundFact core.sets ((fact core.tables core.resources) z)) (sym c.get-in-Iff.ensures) (subst (IsSoundFact core.sets) (ap (fact core.tables core.resources) c.in-Iff.is ∙ fact_Iff core.tables core.resources c.in-Iff.a c.in-Iff.b) c.requires.sound).0, c.requires.within)))

pub cons_range-cons_range-requires-in-Iff-2 : goal.cons_range-cons_range-requires-in-Iff-2
cons_range-cons_range-requires-in-Iff-2 g t c κs within =
    let core = c.args.core.now in let F = g.V.View.family c.args.view.now in (search (rules, the_lemmas), (within, (subst (λ z. IsSoundFact core.sets ((fact core.tables core.resources) z)) (sym c.get-in-Iff-2.ensures) (subst (IsSoundFact core.sets) (ap (fact core.tables core.resources) c.in-Iff.is ∙ fact_Iff core.tables core.resources c.in-Iff.a c.in-Iff.b) c.requires.sound).1, c.requires.within)))

pub cons_range-returns-in-Iff : goal.cons_range-returns-in-Iff
cons_range-returns-in-Iff g t c =
    let core = c.args.core.now in let F = g.V.View.family c.args.view.now in by_fact core F c.args.c.now _ _ (ap (fact core.tables core.resources) c.in-Iff.is ∙ fact_Iff core.tables core.resources c.in-Iff.a c.in-Iff.b) (iff_arm core F c.in-Iff.a c.in-Iff.b c.get-in-Iff.result.now c.get-in-Iff-2.result.now c.cons_range-in-Iff.result c.cons_range-in-Iff-2.result c.same.result c.get-in-Iff.ensures c.get-in-Iff-2.ensures c.cons_range-in-Iff.ensures c.cons_range-in-Iff-2.ensures c.same.ensures)

pub cons_range-cons_range-requires-in-Not : goal.cons_range-cons_range-requires-in-Not
cons_range-cons_range-requires-in-Not g t c κs within =
    let core = c.args.core.now in let F = g.V.View.family c.args.view.now in (search (rules, the_lemmas), (within, (subst (λ z. IsSoundFact core.sets ((fact core.tables core.resources) z)) (sym c.get-in-Not.ensures) (subst (IsSoundFact core.sets) (ap (fact core.tables core.resources) c.in-Not.is ∙ fact_Not core.tables core.resources c.in-Not.a) c.requires.sound), c.requires.within)))

pub cons_range-opposite-requires-in-Not : goal.cons_range-opposite-requires-in-Not
cons_range-opposite-requires-in-Not g t c =
    let core = c.args.core.now in let F = g.V.View.family c.args.view.now in opposite_is F ((fact core.tables core.resources) c.get-in-Not.result.now) c.cons_range-in-Not.result c.cons_range-in-Not.ensures

pub cons_range-returns-in-Not : goal.cons_range-returns-in-Not
cons_range-returns-in-Not g t c =
    let core = c.args.core.now in let F = g.V.View.family c.args.view.now in by_fact core F c.args.c.now _ _ (ap (fact core.tables core.resources) c.in-Not.is ∙ fact_Not core.tables core.resources c.in-Not.a) (c.opposite-in-Not.ensures ∙ ap (lift1 flip) (c.cons_range-in-Not.ensures ∙ ap (λ z. fact_range F ((fact core.tables core.resources) z)) c.get-in-Not.ensures))

pub cons_range-all_differ-requires : goal.cons_range-all_differ-requires
cons_range-all_differ-requires g t c κs within =
    let core = c.args.core.now in let F = g.V.View.family c.args.view.now in (search (rules, the_lemmas), (within, (subst (λ z. IsSoundFact core.sets (Fact.different (terms_of (map (term_of core) z)))) (sym c.as_slice-in-AllDifferent.ensures) (subst (IsSoundFact core.sets) (ap (fact core.tables core.resources) c.in-AllDifferent.is ∙ fact_AllDifferent core.tables core.resources c.in-AllDifferent.parts) c.requires.sound), c.requires.within)))

pub cons_range-returns-in-AllDifferent : goal.cons_range-returns-in-AllDifferent
cons_range-returns-in-AllDifferent g t c =
    let core = c.args.core.now in let F = g.V.View.family c.args.view.now in by_fact core F c.args.c.now _ _ (ap (fact core.tables core.resources) c.in-AllDifferent.is ∙ fact_AllDifferent core.tables core.resources c.in-AllDifferent.parts) (c.all_differ.ensures ∙ ap (λ z. fact_range F (Fact.different (terms_of (map (term_of core) z)))) c.as_slice-in-AllDifferent.ensures)

pub cons_range-returns-in-None : goal.cons_range-returns-in-None
cons_range-returns-in-None g t c =
    let core = c.args.core.now in let F = g.V.View.family c.args.view.now in by_fact core F c.args.c.now _ _ (ap (fact core.tables core.resources) c.in-Capacity.is ∙ fact_Capacity core.tables core.resources c.in-Capacity.resource c.in-Capacity.time ∙ ap (λ o. capacity_at o c.in-Capacity.time) (sym c.in-None.ensures.value)) refl

pub cons_range-capacity-requires-clause-sound : goal.cons_range-capacity-requires-clause-sound
cons_range-capacity-requires-clause-sound g t c =
    let core = c.args.core.now in let F = g.V.View.family c.args.view.now in let fits : FitsSigned w64 c.in-Capacity.time = search rules in subst (λ z. IsSoundFact core.sets (capacity_at (Some c.in-Some.r.now) z)) (sym (to_z-of_z w64 c.in-Capacity.time fits)) (subst (IsSoundFact core.sets) (ap (fact core.tables core.resources) c.in-Capacity.is ∙ fact_Capacity core.tables core.resources c.in-Capacity.resource c.in-Capacity.time ∙ ap (λ o. capacity_at o c.in-Capacity.time) (sym c.in-Some.ensures.value)) c.requires.sound)

pub cons_range-capacity-requires-clause-within : goal.cons_range-capacity-requires-clause-within
cons_range-capacity-requires-clause-within g t c =
    let core = c.args.core.now in let F = g.V.View.family c.args.view.now in c.requires.within

pub cons_range-returns-in-Some : goal.cons_range-returns-in-Some
cons_range-returns-in-Some g t c =
    let core = c.args.core.now in let F = g.V.View.family c.args.view.now in let fits : FitsSigned w64 c.in-Capacity.time = search rules in by_fact core F c.args.c.now _ _ (ap (fact core.tables core.resources) c.in-Capacity.is ∙ fact_Capacity core.tables core.resources c.in-Capacity.resource c.in-Capacity.time ∙ ap (λ o. capacity_at o c.in-Capacity.time) (sym c.in-Some.ensures.value)) (subst (λ z. Some c.capacity.result ≡ fact_range F (capacity_at (Some c.in-Some.r.now) z)) (to_z-of_z w64 c.in-Capacity.time fits) c.capacity.ensures)

pub all_differ-rest_of-requires : goal.all_differ-rest_of-requires
all_differ-rest_of-requires g t c κs within =
    let core = c.args.core.now in let F = g.V.View.family c.args.view.now in (search (rules, the_lemmas), (within, (sound_at core.sets (term_of core) c.args.parts.now (c.loop-left.left - 1) c.index-parts-left.result (omega (arith, c.loop-left.invariant.0, c.loop-left-test.true)) c.index-parts-left.is c.requires.sound.1, c.requires.within)))

pub all_differ-rest_of-requires-in-loop-other : goal.all_differ-rest_of-requires-in-loop-other
all_differ-rest_of-requires-in-loop-other g t c κs within =
    let core = c.args.core.now in let F = g.V.View.family c.args.view.now in (search (rules, the_lemmas), (within, (sound_at core.sets (term_of core) c.args.parts.now (c.loop-other.other - 1) c.index-parts-other.result (omega (arith, c.loop-other.invariant.1, c.loop-other.invariant.0, c.loop-left-test.true)) c.index-parts-other.is c.requires.sound.1, c.requires.within)))

pub all_differ-rest_of-requires-in-loop-left : goal.all_differ-rest_of-requires-in-loop-left
all_differ-rest_of-requires-in-loop-left g t c κs within =
    let core = c.args.core.now in let F = g.V.View.family c.args.view.now in (search (rules, the_lemmas), (within, (sound_at core.sets (term_of core) c.args.parts.now (c.loop-left.left - 1) c.index-parts-left.result (omega (arith, c.loop-left.invariant.0, c.loop-left-test.true)) c.index-parts-left.is c.requires.sound.1, c.requires.within)))

pub all_differ-compared-differ-requires-clause-sound : goal.all_differ-compared-differ-requires-clause-sound
all_differ-compared-differ-requires-clause-sound g t c =
    let core = c.args.core.now in let F = g.V.View.family c.args.view.now in sound_pair_at core.sets (term_of core) c.args.parts.now (c.loop-left.left - 1) (c.loop-other.other - 1) c.index-parts-left.result c.index-parts-other.result (omega (arith, c.loop-other-test.true, c.loop-other.invariant.0, c.loop-left-test.true)) (omega (arith, c.loop-other.invariant.1, c.loop-other.invariant.0, c.loop-left-test.true)) c.index-parts-left.is c.index-parts-other.is c.requires.sound

pub all_differ-compared-differ-requires-clause-within : goal.all_differ-compared-differ-requires-clause-within
all_differ-compared-differ-requires-clause-within g t c =
    let core = c.args.core.now in let F = g.V.View.family c.args.view.now in c.requires.within

pub all_differ-compared-differ-requires-clause-first : goal.all_differ-compared-differ-requires-clause-first
all_differ-compared-differ-requires-clause-first g t c =
    let core = c.args.core.now in let F = g.V.View.family c.args.view.now in c.rest_of.ensures

pub all_differ-compared-differ-requires-clause-second : goal.all_differ-compared-differ-requires-clause-second
all_differ-compared-differ-requires-clause-second g t c =
    let core = c.args.core.now in let F = g.V.View.family c.args.view.now in c.rest_of-in-loop-other.ensures

pub all_differ-loop-other-init : goal.all_differ-loop-other-init
all_differ-loop-other-init g t c =
    let core = c.args.core.now in let F = g.V.View.family c.args.view.now in (omega (arith, c.loop-left.invariant.0, c.loop-left-test.true), omega arith, ap (λ ys. lift_onto span_min (map (λ e. fact_range F (compared Ne (term_of core c.index-parts-left.result) (term_of core e))) ys) c.loop-left.found) (sym (drop_none c.args.parts.now)))

pub all_differ-loop-other-preserved : goal.all_differ-loop-other-preserved
all_differ-loop-other-preserved g t c =
    let core = c.args.core.now in let F = g.V.View.family c.args.view.now in (omega (arith, c.loop-other-test.true), omega (arith, c.loop-other.invariant.1), pair_next F (term_of core) c.args.parts.now c.loop-other.other (term_of core c.index-parts-left.result) c.index-parts-other.result c.compared-differ.result c.loop-other.found c.least-found.result c.loop-left.found (omega (arith, c.loop-other.invariant.0)) c.loop-other.invariant.1 c.index-parts-other.is c.compared-differ.ensures c.loop-other.invariant.2 c.least-found.ensures)

pub all_differ-loop-left-preserved : goal.all_differ-loop-left-preserved
all_differ-loop-left-preserved g t c =
    let core = c.args.core.now in let F = g.V.View.family c.args.view.now in let same : c.loop-other.other ≡ c.loop-left.left = omega (arith, c.loop-other.invariant.0, c.loop-other-test.false, c.loop-left-test.true) in (omega (arith, c.loop-left.invariant.0), differ_next F (term_of core) c.args.parts.now c.loop-left.left c.loop-other.other c.index-parts-left.result c.rest_of-in-loop-left.result c.known.result c.loop-left.found c.least-found-in-loop-left.result c.loop-other.found c.loop-left-test.true c.loop-left.invariant.0 same c.index-parts-left.is c.rest_of-in-loop-left.ensures c.known.ensures c.loop-left.invariant.1 c.loop-other.invariant.2 c.least-found-in-loop-left.ensures)

pub all_differ-returns : goal.all_differ-returns
all_differ-returns g t c =
    let core = c.args.core.now in let F = g.V.View.family c.args.view.now in c.loop-left.invariant.1 ∙ ap (λ k. fact_range F (Fact.different (terms_of (map (term_of core) (drop k c.args.parts.now))))) (none_left c.loop-left.left c.loop-left-test.false)

pub all_differ-loop-left-init : goal.all_differ-loop-left-init
all_differ-loop-left-init g t c =
    let core = c.args.core.now in let F = g.V.View.family c.args.view.now in (omega arith, ap Some c.point.ensures ∙ ap (λ ys. fact_range F (Fact.different (terms_of (map (term_of core) ys)))) (sym (drop_none c.args.parts.now)))

pub all-bounds-parts-left : goal.all-bounds-parts-left
all-bounds-parts-left g t c =
    search rules

pub all-loop-left-smaller : goal.all-loop-left-smaller
all-loop-left-smaller g t c =
    search rules

pub all-offset_bounds-parts-left : goal.all-offset_bounds-parts-left
all-offset_bounds-parts-left g t c =
    search rules

pub all-overflow_sub-left : goal.all-overflow_sub-left
all-overflow_sub-left g t c =
    search rules

pub all_differ-bounds-parts-left : goal.all_differ-bounds-parts-left
all_differ-bounds-parts-left g t c =
    search rules

pub all_differ-bounds-parts-other : goal.all_differ-bounds-parts-other
all_differ-bounds-parts-other g t c =
    search rules

pub all_differ-loop-left-smaller : goal.all_differ-loop-left-smaller
all_differ-loop-left-smaller g t c =
    search rules

pub all_differ-loop-other-smaller : goal.all_differ-loop-other-smaller
all_differ-loop-other-smaller g t c =
    search rules

pub all_differ-offset_bounds-parts-left : goal.all_differ-offset_bounds-parts-left
all_differ-offset_bounds-parts-left g t c =
    search rules

pub all_differ-offset_bounds-parts-other : goal.all_differ-offset_bounds-parts-other
all_differ-offset_bounds-parts-other g t c =
    search rules

pub all_differ-overflow_add-left : goal.all_differ-overflow_add-left
all_differ-overflow_add-left g t c =
    search rules

pub all_differ-overflow_sub-left : goal.all_differ-overflow_sub-left
all_differ-overflow_sub-left g t c =
    search rules

pub all_differ-overflow_sub-other : goal.all_differ-overflow_sub-other
all_differ-overflow_sub-other g t c =
    search rules

pub any-bounds-parts-left : goal.any-bounds-parts-left
any-bounds-parts-left g t c =
    search rules

pub any-loop-left-smaller : goal.any-loop-left-smaller
any-loop-left-smaller g t c =
    search rules

pub any-offset_bounds-parts-left : goal.any-offset_bounds-parts-left
any-offset_bounds-parts-left g t c =
    search rules

pub any-overflow_sub-left : goal.any-overflow_sub-left
any-overflow_sub-left g t c =
    search rules

pub greatest-bounds-parts-left-in-loop-left : goal.greatest-bounds-parts-left-in-loop-left
greatest-bounds-parts-left-in-loop-left g t c =
    search rules

pub greatest-loop-left-smaller : goal.greatest-loop-left-smaller
greatest-loop-left-smaller g t c =
    search rules

pub greatest-offset_bounds-parts-left-2 : goal.greatest-offset_bounds-parts-left-2
greatest-offset_bounds-parts-left-2 g t c =
    search rules

pub greatest-offset_bounds-parts-left-in-loop-left : goal.greatest-offset_bounds-parts-left-in-loop-left
greatest-offset_bounds-parts-left-in-loop-left g t c =
    search rules

pub greatest-offset_bounds-parts-left : goal.greatest-offset_bounds-parts-left
greatest-offset_bounds-parts-left g t c =
    search rules

pub greatest-overflow_sub-left-in-loop-left : goal.greatest-overflow_sub-left-in-loop-left
greatest-overflow_sub-left-in-loop-left g t c =
    search rules

pub least-bounds-parts-left-in-loop-left : goal.least-bounds-parts-left-in-loop-left
least-bounds-parts-left-in-loop-left g t c =
    search rules

pub least-loop-left-smaller : goal.least-loop-left-smaller
least-loop-left-smaller g t c =
    search rules

pub least-offset_bounds-parts-left-2 : goal.least-offset_bounds-parts-left-2
least-offset_bounds-parts-left-2 g t c =
    search rules

pub least-offset_bounds-parts-left-in-loop-left : goal.least-offset_bounds-parts-left-in-loop-left
least-offset_bounds-parts-left-in-loop-left g t c =
    search rules

pub least-offset_bounds-parts-left : goal.least-offset_bounds-parts-left
least-offset_bounds-parts-left g t c =
    search rules

pub least-overflow_sub-left-in-loop-left : goal.least-overflow_sub-left-in-loop-left
least-overflow_sub-left-in-loop-left g t c =
    search rules

pub sum-bounds-parts-left : goal.sum-bounds-parts-left
sum-bounds-parts-left g t c =
    search rules

pub sum-loop-left-smaller : goal.sum-loop-left-smaller
sum-loop-left-smaller g t c =
    search rules

pub sum-offset_bounds-parts-left : goal.sum-offset_bounds-parts-left
sum-offset_bounds-parts-left g t c =
    search rules

pub sum-overflow_sub-left : goal.sum-overflow_sub-left
sum-overflow_sub-left g t c =
    search rules

pub is_reached-loop-at-init : goal.is_reached-loop-at-init
is_reached-loop-at-init g t c =
    let core = c.args.core.now in let F = g.V.View.family c.args.view.now in reach_start F (term_of core) (take c.args.outer c.args.dims.now) c.args.parts.now c.args.row c.args.count c.requires.whole c.requires.there

pub is_reached-bounds-dims-at : goal.is_reached-bounds-dims-at
is_reached-bounds-dims-at g t c =
    let core = c.args.core.now in let F = g.V.View.family c.args.view.now in omega (arith, c.loop-at-test.true, c.requires.some)

pub is_reached-bounds-parts-at : goal.is_reached-bounds-parts-at
is_reached-bounds-parts-at g t c =
    let core = c.args.core.now in let F = g.V.View.family c.args.view.now in omega (arith, c.loop-at-test.true, c.requires.some, fit_length core.sets (term_of core) c.args.dims.now c.args.parts.now c.requires.subscripts)

pub is_reached-nonzero_div-size : goal.is_reached-nonzero_div-size
is_reached-nonzero_div-size g t c =
    let core = c.args.core.now in let F = g.V.View.family c.args.view.now in (reach_sizes F (term_of core) (take c.args.outer c.args.dims.now) c.args.parts.now c.args.row c.loop-at.at c.loop-at.size c.loop-at.place c.as_slice-dim.result.now c.index-dims-at.result c.loop-at.invariant (omega (arith, c.loop-at-test.true, length_take c.args.dims.now c.args.outer c.requires.some)) (c.as_slice-dim.ensures ∙ c.index-dims-at.is ∙ sym (at_take c.args.dims.now c.args.outer c.loop-at.at c.index-dims-at.result c.loop-at-test.true))).some

pub is_reached-nonzero_div-place : goal.is_reached-nonzero_div-place
is_reached-nonzero_div-place g t c =
    let core = c.args.core.now in let F = g.V.View.family c.args.view.now in (reach_sizes F (term_of core) (take c.args.outer c.args.dims.now) c.args.parts.now c.args.row c.loop-at.at c.loop-at.size c.loop-at.place c.as_slice-dim.result.now c.index-dims-at.result c.loop-at.invariant (omega (arith, c.loop-at-test.true, length_take c.args.dims.now c.args.outer c.requires.some)) (c.as_slice-dim.ensures ∙ c.index-dims-at.is ∙ sym (at_take c.args.dims.now c.args.outer c.loop-at.at c.index-dims-at.result c.loop-at-test.true))).size_some

pub is_reached-nonzero_rem-place : goal.is_reached-nonzero_rem-place
is_reached-nonzero_rem-place g t c =
    let core = c.args.core.now in let F = g.V.View.family c.args.view.now in (reach_sizes F (term_of core) (take c.args.outer c.args.dims.now) c.args.parts.now c.args.row c.loop-at.at c.loop-at.size c.loop-at.place c.as_slice-dim.result.now c.index-dims-at.result c.loop-at.invariant (omega (arith, c.loop-at-test.true, length_take c.args.dims.now c.args.outer c.requires.some)) (c.as_slice-dim.ensures ∙ c.index-dims-at.is ∙ sym (at_take c.args.dims.now c.args.outer c.loop-at.at c.index-dims-at.result c.loop-at-test.true))).size_some

pub is_reached-bounds-dim-place : goal.is_reached-bounds-dim-place
is_reached-bounds-dim-place g t c =
    let core = c.args.core.now in let F = g.V.View.family c.args.view.now in (reach_sizes F (term_of core) (take c.args.outer c.args.dims.now) c.args.parts.now c.args.row c.loop-at.at c.loop-at.size c.loop-at.place c.as_slice-dim.result.now c.index-dims-at.result c.loop-at.invariant (omega (arith, c.loop-at-test.true, length_take c.args.dims.now c.args.outer c.requires.some)) (c.as_slice-dim.ensures ∙ c.index-dims-at.is ∙ sym (at_take c.args.dims.now c.args.outer c.loop-at.at c.index-dims-at.result c.loop-at-test.true))).index

pub is_reached-rest_of-requires : goal.is_reached-rest_of-requires
is_reached-rest_of-requires g t c κs within =
    let core = c.args.core.now in let F = g.V.View.family c.args.view.now in let there : c.loop-at.at < length c.args.parts.now = omega (arith, c.loop-at-test.true, c.requires.some, fit_length core.sets (term_of core) c.args.dims.now c.args.parts.now c.requires.subscripts) in (search (rules, the_lemmas), (within, (sound_at core.sets (term_of core) c.args.parts.now c.loop-at.at c.index-parts-at.result (omega (arith, c.loop-at-test.true, c.requires.some, fit_length core.sets (term_of core) c.args.dims.now c.args.parts.now c.requires.subscripts)) c.index-parts-at.is c.requires.sound, c.requires.within)))

pub is_reached-may_be-requires-clause-sound : goal.is_reached-may_be-requires-clause-sound
is_reached-may_be-requires-clause-sound g t c =
    let core = c.args.core.now in let F = g.V.View.family c.args.view.now in sound_at core.sets (term_of core) c.args.parts.now c.loop-at.at c.index-parts-at.result (omega (arith, c.loop-at-test.true, c.requires.some, fit_length core.sets (term_of core) c.args.dims.now c.args.parts.now c.requires.subscripts)) c.index-parts-at.is c.requires.sound

pub is_reached-may_be-requires-clause-small : goal.is_reached-may_be-requires-clause-small
is_reached-may_be-requires-clause-small g t c =
    let core = c.args.core.now in let F = g.V.View.family c.args.view.now in let index = (reach_sizes F (term_of core) (take c.args.outer c.args.dims.now) c.args.parts.now c.args.row c.loop-at.at c.loop-at.size c.loop-at.place c.as_slice-dim.result.now c.index-dims-at.result c.loop-at.invariant (omega (arith, c.loop-at-test.true, length_take c.args.dims.now c.args.outer c.requires.some)) (c.as_slice-dim.ensures ∙ c.index-dims-at.is ∙ sym (at_take c.args.dims.now c.args.outer c.loop-at.at c.index-dims-at.result c.loop-at-test.true))).index in let v : FitsSigned w128 (get_or c.as_slice-dim.result.now (c.loop-at.place / (c.loop-at.size / length c.as_slice-dim.result.now)) (pos 0)) = search rules in simp to_z-of_z (index_fits core.sets (term_of core) c.args.dims.now c.args.parts.now c.loop-at.at (c.loop-at.place / (c.loop-at.size / length c.as_slice-dim.result.now)) c.as_slice-dim.result.now c.index-dims-at.result c.index-parts-at.result c.requires.subscripts (omega (arith, c.loop-at-test.true, c.requires.some)) (c.as_slice-dim.ensures ∙ c.index-dims-at.is) c.index-parts-at.is index)

pub is_reached-may_be-requires-clause-within : goal.is_reached-may_be-requires-clause-within
is_reached-may_be-requires-clause-within g t c =
    let core = c.args.core.now in let F = g.V.View.family c.args.view.now in c.requires.within

pub is_reached-may_be-requires-clause-beside : goal.is_reached-may_be-requires-clause-beside
is_reached-may_be-requires-clause-beside g t c =
    let core = c.args.core.now in let F = g.V.View.family c.args.view.now in c.rest_of.ensures

pub is_reached-returns-then-not-may_be : goal.is_reached-returns-then-not-may_be
is_reached-returns-then-not-may_be g t c =
    let core = c.args.core.now in let F = g.V.View.family c.args.view.now in let index = (reach_sizes F (term_of core) (take c.args.outer c.args.dims.now) c.args.parts.now c.args.row c.loop-at.at c.loop-at.size c.loop-at.place c.as_slice-dim.result.now c.index-dims-at.result c.loop-at.invariant (omega (arith, c.loop-at-test.true, length_take c.args.dims.now c.args.outer c.requires.some)) (c.as_slice-dim.ensures ∙ c.index-dims-at.is ∙ sym (at_take c.args.dims.now c.args.outer c.loop-at.at c.index-dims-at.result c.loop-at-test.true))).index in let v : FitsSigned w128 (get_or c.as_slice-dim.result.now (c.loop-at.place / (c.loop-at.size / length c.as_slice-dim.result.now)) (pos 0)) = search rules in let m = subst (λ z. c.may_be.result ≡ may_be F (linear F (term_of core) (take c.args.outer c.args.dims.now) c.args.parts.now c.index-parts-at.result) z) (to_z-of_z w128 (get_or c.as_slice-dim.result.now (c.loop-at.place / (c.loop-at.size / length c.as_slice-dim.result.now)) (pos 0)) v) c.may_be.ensures in sym (reach_missed F (term_of core) (take c.args.outer c.args.dims.now) c.args.parts.now c.args.row c.loop-at.at c.loop-at.size c.loop-at.place c.as_slice-dim.result.now c.index-dims-at.result c.index-parts-at.result c.may_be.result c.loop-at.invariant (omega (arith, fit_length core.sets (term_of core) c.args.dims.now c.args.parts.now c.requires.subscripts, length_take c.args.dims.now c.args.outer c.requires.some, c.requires.some)) (omega (arith, c.loop-at-test.true, length_take c.args.dims.now c.args.outer c.requires.some)) (c.as_slice-dim.ensures ∙ c.index-dims-at.is ∙ sym (at_take c.args.dims.now c.args.outer c.loop-at.at c.index-dims-at.result c.loop-at-test.true)) c.index-parts-at.is m c.if-not-may_be.true)

pub is_reached-loop-at-preserved : goal.is_reached-loop-at-preserved
is_reached-loop-at-preserved g t c =
    let core = c.args.core.now in let F = g.V.View.family c.args.view.now in let index = (reach_sizes F (term_of core) (take c.args.outer c.args.dims.now) c.args.parts.now c.args.row c.loop-at.at c.loop-at.size c.loop-at.place c.as_slice-dim.result.now c.index-dims-at.result c.loop-at.invariant (omega (arith, c.loop-at-test.true, length_take c.args.dims.now c.args.outer c.requires.some)) (c.as_slice-dim.ensures ∙ c.index-dims-at.is ∙ sym (at_take c.args.dims.now c.args.outer c.loop-at.at c.index-dims-at.result c.loop-at-test.true))).index in let v : FitsSigned w128 (get_or c.as_slice-dim.result.now (c.loop-at.place / (c.loop-at.size / length c.as_slice-dim.result.now)) (pos 0)) = search rules in let m = subst (λ z. c.may_be.result ≡ may_be F (linear F (term_of core) (take c.args.outer c.args.dims.now) c.args.parts.now c.index-parts-at.result) z) (to_z-of_z w128 (get_or c.as_slice-dim.result.now (c.loop-at.place / (c.loop-at.size / length c.as_slice-dim.result.now)) (pos 0)) v) c.may_be.ensures in reach_next F (term_of core) (take c.args.outer c.args.dims.now) c.args.parts.now c.args.row c.loop-at.at c.loop-at.size c.loop-at.place c.as_slice-dim.result.now c.index-dims-at.result c.index-parts-at.result c.may_be.result c.loop-at.invariant (omega (arith, fit_length core.sets (term_of core) c.args.dims.now c.args.parts.now c.requires.subscripts, length_take c.args.dims.now c.args.outer c.requires.some, c.requires.some)) (omega (arith, c.loop-at-test.true, length_take c.args.dims.now c.args.outer c.requires.some)) (c.as_slice-dim.ensures ∙ c.index-dims-at.is ∙ sym (at_take c.args.dims.now c.args.outer c.loop-at.at c.index-dims-at.result c.loop-at-test.true)) c.index-parts-at.is m c.if-not-may_be.false

pub is_reached-returns : goal.is_reached-returns
is_reached-returns g t c =
    let core = c.args.core.now in let F = g.V.View.family c.args.view.now in sym (reach_whole F (term_of core) (take c.args.outer c.args.dims.now) c.args.parts.now c.args.row c.loop-at.at c.loop-at.size c.loop-at.place c.loop-at.invariant (omega (arith, c.loop-at-test.false, length_take c.args.dims.now c.args.outer c.requires.some)))

pub is_reached-loop-at-smaller : goal.is_reached-loop-at-smaller
is_reached-loop-at-smaller g t c =
    search rules

pub is_reached-offset_bounds-dim-place : goal.is_reached-offset_bounds-dim-place
is_reached-offset_bounds-dim-place g t c =
    search rules

pub is_reached-offset_bounds-dims-at : goal.is_reached-offset_bounds-dims-at
is_reached-offset_bounds-dims-at g t c =
    search rules

pub is_reached-offset_bounds-parts-at : goal.is_reached-offset_bounds-parts-at
is_reached-offset_bounds-parts-at g t c =
    search rules

pub cells-returns-then-is_empty : goal.cells-returns-then-is_empty
cells-returns-then-is_empty g t c =
    let core = c.args.core.now in let F = g.V.View.family c.args.view.now in no_cells F _ c.args.cells.now (empty_is (length c.args.cells.now) c.is_empty.result c.is_empty.ensures c.if-is_empty.true)

pub cells-bounds-cells-0 : goal.cells-bounds-cells-0
cells-bounds-cells-0 g t c =
    let core = c.args.core.now in let F = g.V.View.family c.args.view.now in let some_cells : 0 < length c.args.cells.now = some_is (length c.args.cells.now) c.is_empty.result c.is_empty.ensures c.if-is_empty.false in omega (arith, some_cells)

pub cells-cell_range-requires : goal.cells-cell_range-requires
cells-cell_range-requires g t c =
    let core = c.args.core.now in let F = g.V.View.family c.args.view.now in let some_cells : 0 < length c.args.cells.now = some_is (length c.args.cells.now) c.is_empty.result c.is_empty.ensures c.if-is_empty.false in subst (λ n. is_there n (get_or c.args.cells.now 0 (cell.Const (pos 0))) ≡ true) (sym (count_is core F c.requires.within)) (cell_there (length core.sets) c.args.cells.now 0 (cell.Const (pos 0)) some_cells c.requires.there)

pub cells-returns-then-is_empty-2 : goal.cells-returns-then-is_empty-2
cells-returns-then-is_empty-2 g t c =
    let core = c.args.core.now in let F = g.V.View.family c.args.view.now in one_cell F (may_be F) c.args.dims.now (linears F (terms_of (map (term_of core) c.args.parts.now))) c.args.cells.now (cell.Const (pos 0)) c.cell_range.result (empty_is (length c.args.dims.now) c.is_empty-2.result c.is_empty-2.ensures c.if-is_empty-2.true) c.requires.whole c.cell_range.ensures

pub cells-overflow_sub-last : goal.cells-overflow_sub-last
cells-overflow_sub-last g t c =
    let core = c.args.core.now in let F = g.V.View.family c.args.view.now in let some_dims : 0 < length c.args.dims.now = some_is (length c.args.dims.now) c.is_empty-2.result c.is_empty-2.ensures c.if-is_empty-2.false in omega (arith, some_dims)

pub cells-offset_bounds-parts-last : goal.cells-offset_bounds-parts-last
cells-offset_bounds-parts-last g t c =
    let core = c.args.core.now in let F = g.V.View.family c.args.view.now in let some_dims : 0 < length c.args.dims.now = some_is (length c.args.dims.now) c.is_empty-2.result c.is_empty-2.ensures c.if-is_empty-2.false in let there : (length c.args.dims.now - 1) < length c.args.parts.now = omega (arith, some_dims, fit_length core.sets (term_of core) c.args.dims.now c.args.parts.now c.requires.subscripts) in search rules

pub cells-bounds-parts-last : goal.cells-bounds-parts-last
cells-bounds-parts-last g t c =
    let core = c.args.core.now in let F = g.V.View.family c.args.view.now in let some_dims : 0 < length c.args.dims.now = some_is (length c.args.dims.now) c.is_empty-2.result c.is_empty-2.ensures c.if-is_empty-2.false in let there : (length c.args.dims.now - 1) < length c.args.parts.now = omega (arith, some_dims, fit_length core.sets (term_of core) c.args.dims.now c.args.parts.now c.requires.subscripts) in omega (arith, there)

pub cells-rest_of-beside-requires : goal.cells-rest_of-beside-requires
cells-rest_of-beside-requires g t c κs within =
    let core = c.args.core.now in let F = g.V.View.family c.args.view.now in let some_dims : 0 < length c.args.dims.now = some_is (length c.args.dims.now) c.is_empty-2.result c.is_empty-2.ensures c.if-is_empty-2.false in let there : (length c.args.dims.now - 1) < length c.args.parts.now = omega (arith, some_dims, fit_length core.sets (term_of core) c.args.dims.now c.args.parts.now c.requires.subscripts) in (search (rules, the_lemmas), (within, (sound_at core.sets (term_of core) c.args.parts.now (length c.args.dims.now - 1) c.index-parts-last.result (omega (arith, some_dims, fit_length core.sets (term_of core) c.args.dims.now c.args.parts.now c.requires.subscripts)) c.index-parts-last.is c.requires.sound, c.requires.within)))

pub cells-offset_bounds-dims-last : goal.cells-offset_bounds-dims-last
cells-offset_bounds-dims-last g t c =
    let core = c.args.core.now in let F = g.V.View.family c.args.view.now in let some_dims : 0 < length c.args.dims.now = some_is (length c.args.dims.now) c.is_empty-2.result c.is_empty-2.ensures c.if-is_empty-2.false in let there : (length c.args.dims.now - 1) < length c.args.dims.now = omega (arith, some_dims) in search rules

pub cells-bounds-dims-last : goal.cells-bounds-dims-last
cells-bounds-dims-last g t c =
    let core = c.args.core.now in let F = g.V.View.family c.args.view.now in let some_dims : 0 < length c.args.dims.now = some_is (length c.args.dims.now) c.is_empty-2.result c.is_empty-2.ensures c.if-is_empty-2.false in omega (arith, some_dims)

pub cells-nonzero_div-count : goal.cells-nonzero_div-count
cells-nonzero_div-count g t c =
    let core = c.args.core.now in let F = g.V.View.family c.args.view.now in let some_cells : 0 < length c.args.cells.now = some_is (length c.args.cells.now) c.is_empty.result c.is_empty.ensures c.if-is_empty.false in let some_dims : 0 < length c.args.dims.now = some_is (length c.args.dims.now) c.is_empty-2.result c.is_empty-2.ensures c.if-is_empty-2.false in let split : IsSplit c.args.dims.now c.args.parts.now c.args.cells.now (length c.args.dims.now - 1) c.as_slice-dim.result.now c.index-dims-last.result c.index-parts-last.result = record { last_is = omega (arith, some_dims); parts_are = fit_length core.sets (term_of core) c.args.dims.now c.args.parts.now c.requires.subscripts; dim_is = c.as_slice-dim.ensures ∙ c.index-dims-last.is; part_is = c.index-parts-last.is; whole = c.requires.whole; some = some_cells } in split_some c.args.dims.now c.args.parts.now c.args.cells.now (length c.args.dims.now - 1) c.as_slice-dim.result.now c.index-dims-last.result c.index-parts-last.result split

pub cells-loop-left-init : goal.cells-loop-left-init
cells-loop-left-init g t c =
    let core = c.args.core.now in let F = g.V.View.family c.args.view.now in let some_cells : 0 < length c.args.cells.now = some_is (length c.args.cells.now) c.is_empty.result c.is_empty.ensures c.if-is_empty.false in let some_dims : 0 < length c.args.dims.now = some_is (length c.args.dims.now) c.is_empty-2.result c.is_empty-2.ensures c.if-is_empty-2.false in let split : IsSplit c.args.dims.now c.args.parts.now c.args.cells.now (length c.args.dims.now - 1) c.as_slice-dim.result.now c.index-dims-last.result c.index-parts-last.result = record { last_is = omega (arith, some_dims); parts_are = fit_length core.sets (term_of core) c.args.dims.now c.args.parts.now c.requires.subscripts; dim_is = c.as_slice-dim.ensures ∙ c.index-dims-last.is; part_is = c.index-parts-last.is; whole = c.requires.whole; some = some_cells } in let count = split_count c.args.dims.now c.args.parts.now c.args.cells.now (length c.args.dims.now - 1) c.as_slice-dim.result.now c.index-dims-last.result c.index-parts-last.result split in (omega arith, split_start c.args.dims.now c.args.parts.now c.args.cells.now (length c.args.dims.now - 1) c.as_slice-dim.result.now c.index-dims-last.result c.index-parts-last.result split F (term_of core) (length c.args.cells.now / (length c.as_slice-dim.result.now)) count)

pub cells-overflow_sub-left : goal.cells-overflow_sub-left
cells-overflow_sub-left g t c =
    search rules

pub cells-is_reached-requires : goal.cells-is_reached-requires
cells-is_reached-requires g t c κs within =
    let core = c.args.core.now in let F = g.V.View.family c.args.view.now in let some_cells : 0 < length c.args.cells.now = some_is (length c.args.cells.now) c.is_empty.result c.is_empty.ensures c.if-is_empty.false in let some_dims : 0 < length c.args.dims.now = some_is (length c.args.dims.now) c.is_empty-2.result c.is_empty-2.ensures c.if-is_empty-2.false in let split : IsSplit c.args.dims.now c.args.parts.now c.args.cells.now (length c.args.dims.now - 1) c.as_slice-dim.result.now c.index-dims-last.result c.index-parts-last.result = record { last_is = omega (arith, some_dims); parts_are = fit_length core.sets (term_of core) c.args.dims.now c.args.parts.now c.requires.subscripts; dim_is = c.as_slice-dim.ensures ∙ c.index-dims-last.is; part_is = c.index-parts-last.is; whole = c.requires.whole; some = some_cells } in let count = split_count c.args.dims.now c.args.parts.now c.args.cells.now (length c.args.dims.now - 1) c.as_slice-dim.result.now c.index-dims-last.result c.index-parts-last.result split in (search (rules, the_lemmas), (within, (c.requires.sound, (c.requires.subscripts, (omega (arith, some_dims), (count, (omega (arith, c.loop-left.invariant.0, c.loop-left-test.true), c.requires.within)))))))

pub cells-overflow_mul-start : goal.cells-overflow_mul-start
cells-overflow_mul-start g t c =
    let core = c.args.core.now in let F = g.V.View.family c.args.view.now in let some_cells : 0 < length c.args.cells.now = some_is (length c.args.cells.now) c.is_empty.result c.is_empty.ensures c.if-is_empty.false in let some_dims : 0 < length c.args.dims.now = some_is (length c.args.dims.now) c.is_empty-2.result c.is_empty-2.ensures c.if-is_empty-2.false in let split : IsSplit c.args.dims.now c.args.parts.now c.args.cells.now (length c.args.dims.now - 1) c.as_slice-dim.result.now c.index-dims-last.result c.index-parts-last.result = record { last_is = omega (arith, some_dims); parts_are = fit_length core.sets (term_of core) c.args.dims.now c.args.parts.now c.requires.subscripts; dim_is = c.as_slice-dim.ensures ∙ c.index-dims-last.is; part_is = c.index-parts-last.is; whole = c.requires.whole; some = some_cells } in let count = split_count c.args.dims.now c.args.parts.now c.args.cells.now (length c.args.dims.now - 1) c.as_slice-dim.result.now c.index-dims-last.result c.index-parts-last.result split in let ends : ((c.loop-left.left - 1) * (length c.as_slice-dim.result.now)) + (length c.as_slice-dim.result.now) ≤ length c.args.cells.now = split_end c.args.dims.now c.args.parts.now c.args.cells.now (length c.args.dims.now - 1) c.as_slice-dim.result.now c.index-dims-last.result c.index-parts-last.result split (length c.args.cells.now / (length c.as_slice-dim.result.now)) c.loop-left.left count c.loop-left-test.true c.loop-left.invariant.0 in let start : ((c.loop-left.left - 1) * (length c.as_slice-dim.result.now)) ≤ length c.args.cells.now = omega (arith, ends) in search rules

pub cells-overflow_add-row : goal.cells-overflow_add-row
cells-overflow_add-row g t c =
    let core = c.args.core.now in let F = g.V.View.family c.args.view.now in let some_cells : 0 < length c.args.cells.now = some_is (length c.args.cells.now) c.is_empty.result c.is_empty.ensures c.if-is_empty.false in let some_dims : 0 < length c.args.dims.now = some_is (length c.args.dims.now) c.is_empty-2.result c.is_empty-2.ensures c.if-is_empty-2.false in let split : IsSplit c.args.dims.now c.args.parts.now c.args.cells.now (length c.args.dims.now - 1) c.as_slice-dim.result.now c.index-dims-last.result c.index-parts-last.result = record { last_is = omega (arith, some_dims); parts_are = fit_length core.sets (term_of core) c.args.dims.now c.args.parts.now c.requires.subscripts; dim_is = c.as_slice-dim.ensures ∙ c.index-dims-last.is; part_is = c.index-parts-last.is; whole = c.requires.whole; some = some_cells } in let count = split_count c.args.dims.now c.args.parts.now c.args.cells.now (length c.args.dims.now - 1) c.as_slice-dim.result.now c.index-dims-last.result c.index-parts-last.result split in let ends : ((c.loop-left.left - 1) * (length c.as_slice-dim.result.now)) + (length c.as_slice-dim.result.now) ≤ length c.args.cells.now = split_end c.args.dims.now c.args.parts.now c.args.cells.now (length c.args.dims.now - 1) c.as_slice-dim.result.now c.index-dims-last.result c.index-parts-last.result split (length c.args.cells.now / (length c.as_slice-dim.result.now)) c.loop-left.left count c.loop-left-test.true c.loop-left.invariant.0 in search rules

pub cells-offset_bounds-cells-start : goal.cells-offset_bounds-cells-start
cells-offset_bounds-cells-start g t c =
    let core = c.args.core.now in let F = g.V.View.family c.args.view.now in let some_cells : 0 < length c.args.cells.now = some_is (length c.args.cells.now) c.is_empty.result c.is_empty.ensures c.if-is_empty.false in let some_dims : 0 < length c.args.dims.now = some_is (length c.args.dims.now) c.is_empty-2.result c.is_empty-2.ensures c.if-is_empty-2.false in let split : IsSplit c.args.dims.now c.args.parts.now c.args.cells.now (length c.args.dims.now - 1) c.as_slice-dim.result.now c.index-dims-last.result c.index-parts-last.result = record { last_is = omega (arith, some_dims); parts_are = fit_length core.sets (term_of core) c.args.dims.now c.args.parts.now c.requires.subscripts; dim_is = c.as_slice-dim.ensures ∙ c.index-dims-last.is; part_is = c.index-parts-last.is; whole = c.requires.whole; some = some_cells } in let count = split_count c.args.dims.now c.args.parts.now c.args.cells.now (length c.args.dims.now - 1) c.as_slice-dim.result.now c.index-dims-last.result c.index-parts-last.result split in let ends : ((c.loop-left.left - 1) * (length c.as_slice-dim.result.now)) + (length c.as_slice-dim.result.now) ≤ length c.args.cells.now = split_end c.args.dims.now c.args.parts.now c.args.cells.now (length c.args.dims.now - 1) c.as_slice-dim.result.now c.index-dims-last.result c.index-parts-last.result split (length c.args.cells.now / (length c.as_slice-dim.result.now)) c.loop-left.left count c.loop-left-test.true c.loop-left.invariant.0 in let start : ((c.loop-left.left - 1) * (length c.as_slice-dim.result.now)) ≤ length c.args.cells.now = omega (arith, ends) in search rules

pub cells-slice_bounds-row-count : goal.cells-slice_bounds-row-count
cells-slice_bounds-row-count g t c =
    omega arith

pub cells-slice_bounds-row-start : goal.cells-slice_bounds-row-start
cells-slice_bounds-row-start g t c =
    search rules

pub cells-slice_bounds-row-end : goal.cells-slice_bounds-row-end
cells-slice_bounds-row-end g t c =
    let core = c.args.core.now in let F = g.V.View.family c.args.view.now in let some_cells : 0 < length c.args.cells.now = some_is (length c.args.cells.now) c.is_empty.result c.is_empty.ensures c.if-is_empty.false in let some_dims : 0 < length c.args.dims.now = some_is (length c.args.dims.now) c.is_empty-2.result c.is_empty-2.ensures c.if-is_empty-2.false in let split : IsSplit c.args.dims.now c.args.parts.now c.args.cells.now (length c.args.dims.now - 1) c.as_slice-dim.result.now c.index-dims-last.result c.index-parts-last.result = record { last_is = omega (arith, some_dims); parts_are = fit_length core.sets (term_of core) c.args.dims.now c.args.parts.now c.requires.subscripts; dim_is = c.as_slice-dim.ensures ∙ c.index-dims-last.is; part_is = c.index-parts-last.is; whole = c.requires.whole; some = some_cells } in let count = split_count c.args.dims.now c.args.parts.now c.args.cells.now (length c.args.dims.now - 1) c.as_slice-dim.result.now c.index-dims-last.result c.index-parts-last.result split in let ends : ((c.loop-left.left - 1) * (length c.as_slice-dim.result.now)) + (length c.as_slice-dim.result.now) ≤ length c.args.cells.now = split_end c.args.dims.now c.args.parts.now c.args.cells.now (length c.args.dims.now - 1) c.as_slice-dim.result.now c.index-dims-last.result c.index-parts-last.result split (length c.args.cells.now / (length c.as_slice-dim.result.now)) c.loop-left.left count c.loop-left-test.true c.loop-left.invariant.0 in omega (arith, ends)

pub cells-joined_row-found-requires-clause-sound : goal.cells-joined_row-found-requires-clause-sound
cells-joined_row-found-requires-clause-sound g t c =
    let core = c.args.core.now in let F = g.V.View.family c.args.view.now in let some_dims : 0 < length c.args.dims.now = some_is (length c.args.dims.now) c.is_empty-2.result c.is_empty-2.ensures c.if-is_empty-2.false in sound_at core.sets (term_of core) c.args.parts.now (length c.args.dims.now - 1) c.index-parts-last.result (omega (arith, some_dims, fit_length core.sets (term_of core) c.args.dims.now c.args.parts.now c.requires.subscripts)) c.index-parts-last.is c.requires.sound

pub cells-joined_row-found-requires-clause-small : goal.cells-joined_row-found-requires-clause-small
cells-joined_row-found-requires-clause-small g t c =
    let core = c.args.core.now in let F = g.V.View.family c.args.view.now in let some_dims : 0 < length c.args.dims.now = some_is (length c.args.dims.now) c.is_empty-2.result c.is_empty-2.ensures c.if-is_empty-2.false in fit_at core.sets (term_of core) c.args.dims.now c.args.parts.now (length c.args.dims.now - 1) c.as_slice-dim.result.now c.index-dims-last.result c.index-parts-last.result c.requires.subscripts (omega (arith, some_dims)) (c.as_slice-dim.ensures ∙ c.index-dims-last.is) c.index-parts-last.is

pub cells-joined_row-found-requires-clause-whole : goal.cells-joined_row-found-requires-clause-whole
cells-joined_row-found-requires-clause-whole g t c =
    let core = c.args.core.now in let F = g.V.View.family c.args.view.now in let some_cells : 0 < length c.args.cells.now = some_is (length c.args.cells.now) c.is_empty.result c.is_empty.ensures c.if-is_empty.false in let some_dims : 0 < length c.args.dims.now = some_is (length c.args.dims.now) c.is_empty-2.result c.is_empty-2.ensures c.if-is_empty-2.false in let split : IsSplit c.args.dims.now c.args.parts.now c.args.cells.now (length c.args.dims.now - 1) c.as_slice-dim.result.now c.index-dims-last.result c.index-parts-last.result = record { last_is = omega (arith, some_dims); parts_are = fit_length core.sets (term_of core) c.args.dims.now c.args.parts.now c.requires.subscripts; dim_is = c.as_slice-dim.ensures ∙ c.index-dims-last.is; part_is = c.index-parts-last.is; whole = c.requires.whole; some = some_cells } in let count = split_count c.args.dims.now c.args.parts.now c.args.cells.now (length c.args.dims.now - 1) c.as_slice-dim.result.now c.index-dims-last.result c.index-parts-last.result split in let ends : ((c.loop-left.left - 1) * (length c.as_slice-dim.result.now)) + (length c.as_slice-dim.result.now) ≤ length c.args.cells.now = split_end c.args.dims.now c.args.parts.now c.args.cells.now (length c.args.dims.now - 1) c.as_slice-dim.result.now c.index-dims-last.result c.index-parts-last.result split (length c.args.cells.now / (length c.as_slice-dim.result.now)) c.loop-left.left count c.loop-left-test.true c.loop-left.invariant.0 in ap (λ m. length (take m (drop ((c.loop-left.left - 1) * (length c.as_slice-dim.result.now)) c.args.cells.now))) (plus_less ((c.loop-left.left - 1) * (length c.as_slice-dim.result.now)) (length c.as_slice-dim.result.now)) ∙ length_slice c.args.cells.now ((c.loop-left.left - 1) * (length c.as_slice-dim.result.now)) (length c.as_slice-dim.result.now) ends

pub cells-joined_row-found-requires-clause-there : goal.cells-joined_row-found-requires-clause-there
cells-joined_row-found-requires-clause-there g t c =
    let core = c.args.core.now in let F = g.V.View.family c.args.view.now in slice_there (length core.sets) c.args.cells.now ((c.loop-left.left - 1) * (length c.as_slice-dim.result.now)) (((c.loop-left.left - 1) * (length c.as_slice-dim.result.now)) + (length c.as_slice-dim.result.now) - ((c.loop-left.left - 1) * (length c.as_slice-dim.result.now))) c.requires.there

pub cells-joined_row-found-requires-clause-within : goal.cells-joined_row-found-requires-clause-within
cells-joined_row-found-requires-clause-within g t c =
    c.requires.within

pub cells-joined_row-found-requires-clause-beside : goal.cells-joined_row-found-requires-clause-beside
cells-joined_row-found-requires-clause-beside g t c =
    c.rest_of-beside.ensures

pub cells-loop-left-smaller-then-is_reached : goal.cells-loop-left-smaller-then-is_reached
cells-loop-left-smaller-then-is_reached g t c =
    search rules

pub cells-loop-left-smaller : goal.cells-loop-left-smaller
cells-loop-left-smaller g t c =
    search rules

pub cells-loop-left-preserved-then-is_reached : goal.cells-loop-left-preserved-then-is_reached
cells-loop-left-preserved-then-is_reached g t c =
    let core = c.args.core.now in let F = g.V.View.family c.args.view.now in let some_cells : 0 < length c.args.cells.now = some_is (length c.args.cells.now) c.is_empty.result c.is_empty.ensures c.if-is_empty.false in let some_dims : 0 < length c.args.dims.now = some_is (length c.args.dims.now) c.is_empty-2.result c.is_empty-2.ensures c.if-is_empty-2.false in let split : IsSplit c.args.dims.now c.args.parts.now c.args.cells.now (length c.args.dims.now - 1) c.as_slice-dim.result.now c.index-dims-last.result c.index-parts-last.result = record { last_is = omega (arith, some_dims); parts_are = fit_length core.sets (term_of core) c.args.dims.now c.args.parts.now c.requires.subscripts; dim_is = c.as_slice-dim.ensures ∙ c.index-dims-last.is; part_is = c.index-parts-last.is; whole = c.requires.whole; some = some_cells } in let count = split_count c.args.dims.now c.args.parts.now c.args.cells.now (length c.args.dims.now - 1) c.as_slice-dim.result.now c.index-dims-last.result c.index-parts-last.result split in (omega (arith, c.loop-left.invariant.0), split_joined c.args.dims.now c.args.parts.now c.args.cells.now (length c.args.dims.now - 1) c.as_slice-dim.result.now c.index-dims-last.result c.index-parts-last.result split F (term_of core) (length c.args.cells.now / (length c.as_slice-dim.result.now)) c.loop-left.left c.is_reached.result c.loop-left.found c.joined_row-found.result (take (((c.loop-left.left - 1) * (length c.as_slice-dim.result.now)) + (length c.as_slice-dim.result.now) - ((c.loop-left.left - 1) * (length c.as_slice-dim.result.now))) (drop ((c.loop-left.left - 1) * (length c.as_slice-dim.result.now)) c.args.cells.now)) count c.loop-left-test.true c.loop-left.invariant.0 c.is_reached.ensures c.if-is_reached.true c.loop-left.invariant.1 (ap (λ m. take m (drop ((c.loop-left.left - 1) * (length c.as_slice-dim.result.now)) c.args.cells.now)) (plus_less ((c.loop-left.left - 1) * (length c.as_slice-dim.result.now)) (length c.as_slice-dim.result.now))) c.joined_row-found.ensures)

pub cells-loop-left-preserved : goal.cells-loop-left-preserved
cells-loop-left-preserved g t c =
    let core = c.args.core.now in let F = g.V.View.family c.args.view.now in let some_cells : 0 < length c.args.cells.now = some_is (length c.args.cells.now) c.is_empty.result c.is_empty.ensures c.if-is_empty.false in let some_dims : 0 < length c.args.dims.now = some_is (length c.args.dims.now) c.is_empty-2.result c.is_empty-2.ensures c.if-is_empty-2.false in let split : IsSplit c.args.dims.now c.args.parts.now c.args.cells.now (length c.args.dims.now - 1) c.as_slice-dim.result.now c.index-dims-last.result c.index-parts-last.result = record { last_is = omega (arith, some_dims); parts_are = fit_length core.sets (term_of core) c.args.dims.now c.args.parts.now c.requires.subscripts; dim_is = c.as_slice-dim.ensures ∙ c.index-dims-last.is; part_is = c.index-parts-last.is; whole = c.requires.whole; some = some_cells } in let count = split_count c.args.dims.now c.args.parts.now c.args.cells.now (length c.args.dims.now - 1) c.as_slice-dim.result.now c.index-dims-last.result c.index-parts-last.result split in (omega (arith, c.loop-left.invariant.0), split_skipped c.args.dims.now c.args.parts.now c.args.cells.now (length c.args.dims.now - 1) c.as_slice-dim.result.now c.index-dims-last.result c.index-parts-last.result split F (term_of core) (length c.args.cells.now / (length c.as_slice-dim.result.now)) c.loop-left.left c.is_reached.result c.loop-left.found count c.loop-left-test.true c.loop-left.invariant.0 c.is_reached.ensures c.if-is_reached.false c.loop-left.invariant.1)

pub cells-returns : goal.cells-returns
cells-returns g t c =
    let core = c.args.core.now in let F = g.V.View.family c.args.view.now in let some_cells : 0 < length c.args.cells.now = some_is (length c.args.cells.now) c.is_empty.result c.is_empty.ensures c.if-is_empty.false in let some_dims : 0 < length c.args.dims.now = some_is (length c.args.dims.now) c.is_empty-2.result c.is_empty-2.ensures c.if-is_empty-2.false in let split : IsSplit c.args.dims.now c.args.parts.now c.args.cells.now (length c.args.dims.now - 1) c.as_slice-dim.result.now c.index-dims-last.result c.index-parts-last.result = record { last_is = omega (arith, some_dims); parts_are = fit_length core.sets (term_of core) c.args.dims.now c.args.parts.now c.requires.subscripts; dim_is = c.as_slice-dim.ensures ∙ c.index-dims-last.is; part_is = c.index-parts-last.is; whole = c.requires.whole; some = some_cells } in split_whole c.args.dims.now c.args.parts.now c.args.cells.now (length c.args.dims.now - 1) c.as_slice-dim.result.now c.index-dims-last.result c.index-parts-last.result split F (term_of core) c.loop-left.left c.loop-left.found (none_left c.loop-left.left c.loop-left-test.false) c.loop-left.invariant.1
