use Rattle.opl_choices.proofs.AnswerParts.{number_Const, number_Var, number_Sum, number_Neg, number_Mul, number_Div, number_Rem, number_Abs, number_Min, number_Max, number_At, number_Truth, number_Ask}
use Rattle.opl_choices.proofs.answers.is_number.Goals as goal

pub returns-in-Const : goal.returns-in-Const
returns-in-Const c = number_Const _ _ _ _ c.in-Const.is

pub returns-in-Var : goal.returns-in-Var
returns-in-Var c = number_Var _ _ _ _ c.in-Var.is

pub returns-in-Sum : goal.returns-in-Sum
returns-in-Sum c = number_Sum _ _ _ _ c.in-Sum.is

pub returns-in-Neg : goal.returns-in-Neg
returns-in-Neg c = number_Neg _ _ _ _ c.in-Neg.is

pub returns-in-Mul : goal.returns-in-Mul
returns-in-Mul c = number_Mul _ _ _ _ _ c.in-Mul.is

pub returns-in-Div : goal.returns-in-Div
returns-in-Div c = number_Div _ _ _ _ _ c.in-Div.is

pub returns-in-Rem : goal.returns-in-Rem
returns-in-Rem c = number_Rem _ _ _ _ _ c.in-Rem.is

pub returns-in-Abs : goal.returns-in-Abs
returns-in-Abs c = number_Abs _ _ _ _ c.in-Abs.is

pub returns-in-Min : goal.returns-in-Min
returns-in-Min c = number_Min _ _ _ _ c.in-Min.is

pub returns-in-Max : goal.returns-in-Max
returns-in-Max c = number_Max _ _ _ _ c.in-Max.is

pub returns-in-At : goal.returns-in-At
returns-in-At c = number_At _ _ _ _ _ c.in-At.is

pub returns-in-Truth : goal.returns-in-Truth
returns-in-Truth c = number_Truth _ _ _ _ c.in-Truth.is

pub returns-in-Ask : goal.returns-in-Ask
returns-in-Ask c = number_Ask _ _ _ _ _ c.in-Ask.is
