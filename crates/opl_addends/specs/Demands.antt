-- What sums are to be, and which families refute that they are.
use Rattle.std.specs.Prelude.{Bool, true, List, pos, int_le, int_lt, Option, Some, None}
use Rattle.opl_domain.specs.Span.{Span, is_point}
use Rattle.opl_domain.specs.Family.{Family}
use Rattle.opl_expr.specs.declared.forms.Op.{Op}
use Rattle.opl_expr.specs.declared.forms.Op.TheVariants.{Eq, Ne, Lt, Le, Gt, Ge}
use Rattle.opl_expr.specs.Forms.{Term}
use Rattle.opl_expr.specs.Range.{misses_zero}
use Rattle.opl_addends.specs.declared.sum.Demand.{Demand}
use Rattle.opl_addends.specs.declared.sum.Demand.TheVariants as demand
use Rattle.opl_addends.specs.Addends.{total, addends_between}

-- no number of the interval is as demanded
abbrev pub is_refuted_by : Demand → Span → Bool
is_refuted_by demand.AtMost r = int_lt (pos 0) r.low
is_refuted_by demand.Below r = int_le (pos 0) r.low
is_refuted_by demand.Zero r = misses_zero r
is_refuted_by demand.Different r = is_point (pos 0) r

-- so it is, or the interval is missing
abbrev pub is_refuted_if : Demand → Option Span → Bool
is_refuted_if d None = true
is_refuted_if d (Some r) = is_refuted_by d r

-- the family refutes that the sum of the addends is as demanded
abbrev pub is_sum_refuted : Demand → List (Bool × Term) → Family → Bool
is_sum_refuted d ss F = is_refuted_if d (total F ss)

-- what a comparison demands of the difference of its sides, and the addends of that
abbrev pub demand_of : Op → Demand
demand_of Eq = demand.Zero
demand_of Ne = demand.Different
demand_of Lt = demand.Below
demand_of Le = demand.AtMost
demand_of Gt = demand.Below
demand_of Ge = demand.AtMost

abbrev pub addends_of : Op → Term → Term → List (Bool × Term)
addends_of Eq a b = addends_between a b
addends_of Ne a b = addends_between a b
addends_of Lt a b = addends_between a b
addends_of Le a b = addends_between a b
addends_of Gt a b = addends_between b a
addends_of Ge a b = addends_between b a
