-- What holds of addends.
use Rattle.std.specs.Prelude.{◌≡◌, ℕ, ◌&&◌, Bool, false, List}
use Rattle.opl_domain.specs.Arithmetic.{span_add}
use Rattle.opl_domain.specs.Family.{Family, Full}
use Rattle.opl_expr.specs.declared.forms.Op.{Op}
use Rattle.opl_expr.specs.Forms.{Term, compared}
use Rattle.opl_expr.specs.Options.{lift}
use Rattle.opl_expr.specs.Range.{pure, is_refuted}
use Rattle.opl_filter.specs.Fresh.{DifferAt}
use Rattle.opl_addends.specs.Addends.{AreApart, total, mentioning, others}
use Rattle.opl_addends.specs.Demands.{is_sum_refuted, demand_of, addends_of}

-- the sum of the ranges of the addends decides a comparison, where no variable has a factor in two of them and a side isn't linear
abbrev pub AddendsDecide : Type 0
AddendsDecide =
    (op : Op) (a b : Term) (F : Family) → Full F → (pure a && pure b) ≡ false → AreApart (addends_of op a b) →
    is_refuted F (compared op a b) ≡ is_sum_refuted (demand_of op) (addends_of op a b) F

-- the sum is that of the addends that mention a variable and of the others
abbrev pub SumsSplit : Type 0
SumsSplit = (F : Family) (x : ℕ) (ss : List (Bool × Term)) → total F ss ≡ lift span_add (total F (others x ss)) (total F (mentioning x ss))

-- with another set for one variable, the sum of the others stays
abbrev pub OthersStay : Type 0
OthersStay = (F G : Family) (x : ℕ) (ss : List (Bool × Term)) → DifferAt x F G → total F (others x ss) ≡ total G (others x ss)
