use Rattle.std.proofs.Common.{rules, ◌∙◌, sym, subst}
use Rattle.std.specs.Prelude.{FitsSigned, None, Some}
use mir.Syntax.{w128}
use Rattle.std.proofs.lemmas.Int.{to_z-of_z}
use Rattle.opl_expr.specs.Range.{coef}
use Rattle.opl_range.specs.Between.{term_of, IsLastFactor}
use Rattle.opl_all_different.proofs.Readings.{read_none, read_one, read_two}
use Rattle.opl_all_different.proofs.reading.part_of.Goals as goal

pub returns-in-None : goal.returns-in-None
returns-in-None c =
    let t = term_of c.args.core.now c.args.e.now in
    let k : FitsSigned w128 c.constant_part-constant.result = search rules in
    let l = subst (λ n. IsLastFactor (coef t) n None) c.len.ensures c.in-None.ensures in
    simp to_z-of_z (read_none c.args.core.now t c.constant_part-constant.result c.requires.sound (sym c.is_linear.ensures ∙ c.if-not-is_linear.false) c.constant_part-constant.ensures l)

pub returns-in-None-last_of : goal.returns-in-None-last_of
returns-in-None-last_of c =
    let t = term_of c.args.core.now c.args.e.now in
    let k : FitsSigned w128 c.constant_part-constant.result = search rules in
    let a : FitsSigned w128 c.in-Some.factor = search rules in
    let l = subst (λ n. IsLastFactor (coef t) n (Some (c.in-Some.variable, c.in-Some.factor))) c.len.ensures c.in-Some.ensures in
    simp to_z-of_z (read_one c.args.core.now t c.constant_part-constant.result c.in-Some.variable c.in-Some.factor c.requires.sound (sym c.is_linear.ensures ∙ c.if-not-is_linear.false) c.constant_part-constant.ensures l c.in-None-last_of.ensures)

pub returns-in-Some-last_of : goal.returns-in-Some-last_of
returns-in-Some-last_of c =
    let t = term_of c.args.core.now c.args.e.now in
    let l = subst (λ n. IsLastFactor (coef t) n (Some (c.in-Some.variable, c.in-Some.factor))) c.len.ensures c.in-Some.ensures in
    read_two c.args.core.now t (c.in-Some.variable, c.in-Some.factor) c.in-Some-last_of._another l c.in-Some-last_of.ensures
