use Rattle.opl_choices.proofs.AnswerParts.{part, fact_part, boxed, fact_boxed, parts, fact_parts, made_Const, made_Var, made_Ask, made_Neg, made_Abs, made_Truth, made_Div, made_Rem, made_Mul, made_Sum, made_Min, made_Max, made_At, made_Fixed, made_Cmp, made_And, made_Or, made_Imp, made_Iff, made_Not, made_AllDifferent, made_Capacity, made_Bound}
use Rattle.std.proofs.Common.{rules}
use Rattle.std.specs.Prelude.{FitsSigned}
use Rattle.std.proofs.lemmas.Int.{to_z-of_z}
use mir.Syntax.{w64, w128}
use Rattle.opl_choices.proofs.answers.+answers.Goals as goal

pub answered_term-returns-in_ok-new-in-Const : goal.answered_term-returns-in_ok-new-in-Const
answered_term-returns-in_ok-new-in-Const g t c =
    let fits : FitsSigned w128 c.in-Const.k = search rules in
    boxed _ _ _ _ _ _ c.in_ok-new-in-Const.ensures (made_Const _ _ _ _ _ _ c.in-Const.is (to_z-of_z w128 c.in-Const.k fits))

pub answered_term-returns-in_ok-new-in-Var : goal.answered_term-returns-in_ok-new-in-Var
answered_term-returns-in_ok-new-in-Var g t c =
    boxed _ _ _ _ _ _ c.in_ok-new-in-Var.ensures (made_Var _ _ _ _ _ c.in-Var.is)

pub answered_term-returns-in_ok-new-in-Ask : goal.answered_term-returns-in_ok-new-in-Ask
answered_term-returns-in_ok-new-in-Ask g t c =
    let fits : FitsSigned w128 c.answer.result = search rules in
    boxed _ _ _ _ _ _ c.in_ok-new-in-Ask.ensures (made_Ask _ _ _ _ _ _ _ c.in-Ask.is (simp to_z-of_z c.answer.ensures))

pub answered_term-returns-in_ok-new-in-Neg : goal.answered_term-returns-in_ok-new-in-Neg
answered_term-returns-in_ok-new-in-Neg g t c =
    boxed _ _ _ _ _ _ c.in_ok-new-in-Neg.ensures (made_Neg _ _ _ _ _ _ c.in-Neg.is (part _ _ _ _ _ _ c.get.ensures c.in_ok-part-in-Neg.ensures))

pub answered_term-returns-in_ok-new-in-Abs : goal.answered_term-returns-in_ok-new-in-Abs
answered_term-returns-in_ok-new-in-Abs g t c =
    boxed _ _ _ _ _ _ c.in_ok-new-in-Abs.ensures (made_Abs _ _ _ _ _ _ c.in-Abs.is (part _ _ _ _ _ _ c.get-in-Abs.ensures c.in_ok-part-in-Abs.ensures))

pub answered_term-returns-in_ok-new-in-Truth : goal.answered_term-returns-in_ok-new-in-Truth
answered_term-returns-in_ok-new-in-Truth g t c =
    boxed _ _ _ _ _ _ c.in_ok-new-in-Truth.ensures (made_Truth _ _ _ _ _ _ c.in-Truth.is (fact_part _ _ _ _ _ _ c.get-in-Truth.ensures c.in_ok-part-in-Truth.ensures))

pub answered_term-returns-in_ok-new-in-Div : goal.answered_term-returns-in_ok-new-in-Div
answered_term-returns-in_ok-new-in-Div g t c =
    boxed _ _ _ _ _ _ c.in_ok-new-in-Div.ensures (made_Div _ _ _ _ _ _ _ _ c.in-Div.is (part _ _ _ _ _ _ c.get-in-Div.ensures c.in_ok-first-in-Div.ensures) (part _ _ _ _ _ _ c.get-in-Div-2.ensures c.in_ok-second-in-Div.ensures))

pub answered_term-returns-in_ok-new-in-Rem : goal.answered_term-returns-in_ok-new-in-Rem
answered_term-returns-in_ok-new-in-Rem g t c =
    boxed _ _ _ _ _ _ c.in_ok-new-in-Rem.ensures (made_Rem _ _ _ _ _ _ _ _ c.in-Rem.is (part _ _ _ _ _ _ c.get-in-Rem.ensures c.in_ok-first-in-Rem.ensures) (part _ _ _ _ _ _ c.get-in-Rem-2.ensures c.in_ok-second-in-Rem.ensures))

pub answered_term-returns-in_ok-new-in-Mul : goal.answered_term-returns-in_ok-new-in-Mul
answered_term-returns-in_ok-new-in-Mul g t c =
    boxed _ _ _ _ _ _ c.in_ok-new-in-Mul.ensures (made_Mul _ _ _ _ _ _ _ _ _ c.in-Mul.is c.get-in-Mul-3.ensures c.get-in-Mul-4.ensures c.answered_product-product.ensures)

pub answered_term-returns-in_ok-new-in-Sum : goal.answered_term-returns-in_ok-new-in-Sum
answered_term-returns-in_ok-new-in-Sum g t c =
    boxed _ _ _ _ _ _ c.in_ok-new-in-Sum.ensures (made_Sum _ _ _ _ _ _ c.in-Sum.is (parts _ _ _ _ _ _ c.as_slice.ensures c.in_ok-parts-in-Sum.ensures))

pub answered_term-returns-in_ok-new-in-Min : goal.answered_term-returns-in_ok-new-in-Min
answered_term-returns-in_ok-new-in-Min g t c =
    boxed _ _ _ _ _ _ c.in_ok-new-in-Min.ensures (made_Min _ _ _ _ _ _ c.in-Min.is (parts _ _ _ _ _ _ c.as_slice-in-Min.ensures c.in_ok-parts-in-Min.ensures))

pub answered_term-returns-in_ok-new-in-Max : goal.answered_term-returns-in_ok-new-in-Max
answered_term-returns-in_ok-new-in-Max g t c =
    boxed _ _ _ _ _ _ c.in_ok-new-in-Max.ensures (made_Max _ _ _ _ _ _ c.in-Max.is (parts _ _ _ _ _ _ c.as_slice-in-Max.ensures c.in_ok-parts-in-Max.ensures))

pub answered_term-returns-in_ok-new-in-At : goal.answered_term-returns-in_ok-new-in-At
answered_term-returns-in_ok-new-in-At g t c =
    boxed _ _ _ _ _ _ c.in_ok-new-in-At.ensures (made_At _ _ _ _ _ _ _ c.in-At.is (parts _ _ _ _ _ _ c.as_slice-in-At.ensures c.in_ok-parts-in-At.ensures))

pub answered-returns-in_ok-new-in-Fixed : goal.answered-returns-in_ok-new-in-Fixed
answered-returns-in_ok-new-in-Fixed g t c =
    fact_boxed _ _ _ _ _ _ c.in_ok-new-in-Fixed.ensures (made_Fixed _ _ _ _ _ c.in-Fixed.is)

pub answered-returns-in_ok-new-in-Cmp : goal.answered-returns-in_ok-new-in-Cmp
answered-returns-in_ok-new-in-Cmp g t c =
    fact_boxed _ _ _ _ _ _ c.in_ok-new-in-Cmp.ensures (made_Cmp _ _ _ _ _ _ _ _ _ c.in-Cmp.is (part _ _ _ _ _ _ c.get.ensures c.in_ok-first-in-Cmp.ensures) (part _ _ _ _ _ _ c.get-in-Cmp.ensures c.in_ok-second-in-Cmp.ensures))

pub answered-returns-in_ok-new-in-And : goal.answered-returns-in_ok-new-in-And
answered-returns-in_ok-new-in-And g t c =
    fact_boxed _ _ _ _ _ _ c.in_ok-new-in-And.ensures (made_And _ _ _ _ _ _ c.in-And.is (fact_parts _ _ _ _ _ _ c.as_slice.ensures c.in_ok-parts-in-And.ensures))

pub answered-returns-in_ok-new-in-Or : goal.answered-returns-in_ok-new-in-Or
answered-returns-in_ok-new-in-Or g t c =
    fact_boxed _ _ _ _ _ _ c.in_ok-new-in-Or.ensures (made_Or _ _ _ _ _ _ c.in-Or.is (fact_parts _ _ _ _ _ _ c.as_slice-in-Or.ensures c.in_ok-parts-in-Or.ensures))

pub answered-returns-in_ok-new-in-Imp : goal.answered-returns-in_ok-new-in-Imp
answered-returns-in_ok-new-in-Imp g t c =
    fact_boxed _ _ _ _ _ _ c.in_ok-new-in-Imp.ensures (made_Imp _ _ _ _ _ _ _ _ c.in-Imp.is (fact_part _ _ _ _ _ _ c.get-in-Imp.ensures c.in_ok-first-in-Imp.ensures) (fact_part _ _ _ _ _ _ c.get-in-Imp-2.ensures c.in_ok-second-in-Imp.ensures))

pub answered-returns-in_ok-new-in-Iff : goal.answered-returns-in_ok-new-in-Iff
answered-returns-in_ok-new-in-Iff g t c =
    fact_boxed _ _ _ _ _ _ c.in_ok-new-in-Iff.ensures (made_Iff _ _ _ _ _ _ _ _ c.in-Iff.is (fact_part _ _ _ _ _ _ c.get-in-Iff.ensures c.in_ok-first-in-Iff.ensures) (fact_part _ _ _ _ _ _ c.get-in-Iff-2.ensures c.in_ok-second-in-Iff.ensures))

pub answered-returns-in_ok-new-in-Not : goal.answered-returns-in_ok-new-in-Not
answered-returns-in_ok-new-in-Not g t c =
    fact_boxed _ _ _ _ _ _ c.in_ok-new-in-Not.ensures (made_Not _ _ _ _ _ _ c.in-Not.is (fact_part _ _ _ _ _ _ c.get-in-Not.ensures c.in_ok-part-in-Not.ensures))

pub answered-returns-in_ok-new-in-AllDifferent : goal.answered-returns-in_ok-new-in-AllDifferent
answered-returns-in_ok-new-in-AllDifferent g t c =
    fact_boxed _ _ _ _ _ _ c.in_ok-new-in-AllDifferent.ensures (made_AllDifferent _ _ _ _ _ _ _ c.in-AllDifferent.is c.as_slice-in-AllDifferent.ensures c.in_ok-parts-in-AllDifferent.ensures)

pub answered-returns-in_ok-new-in-Capacity : goal.answered-returns-in_ok-new-in-Capacity
answered-returns-in_ok-new-in-Capacity g t c =
    let fits : FitsSigned w64 c.in-Capacity.time = search rules in
    fact_boxed _ _ _ _ _ _ c.in_ok-new-in-Capacity.ensures (made_Capacity _ _ _ _ _ _ _ c.in-Capacity.is (to_z-of_z w64 c.in-Capacity.time fits))

pub answered-returns-in_ok-new-in-Bound : goal.answered-returns-in_ok-new-in-Bound
answered-returns-in_ok-new-in-Bound g t c =
    fact_boxed _ _ _ _ _ _ c.in_ok-new-in-Bound.ensures (made_Bound _ _ _ _ _ _ c.in-Bound.is c.is_single.ensures)
