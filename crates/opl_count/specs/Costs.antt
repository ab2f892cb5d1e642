-- What is paid: the weights of the literals that a family refutes, beside what is paid anyway.
use Rattle.std.specs.Prelude.{ℕ, ◌+◌, ◌<◌, ◌^◌, Bool, cond, List, [], ◌∷◌, nat_lt}
use Rattle.opl_domain.specs.Family.{Family}
use Rattle.opl_expr.specs.declared.model.Core.{Core}
use Rattle.opl_expr.specs.Forms.{Fact}
use Rattle.opl_filter.specs.Mentions.{lists}
use Rattle.opl_filter.specs.Filtering.{refutes}
use Rattle.opl_reify.specs.Parts.{fact_in, IsPart}
use Rattle.opl_count.specs.declared.sum.Literal.{Literal}
use Rattle.opl_count.specs.declared.sum.Costs.{Costs}

-- the constraint of a literal
abbrev pub fact_of : Core → Literal → Fact
fact_of core l = fact_in core l.part

-- what is paid for a literal
abbrev pub price : Core → Family → Literal → ℕ
price core F l = cond (refutes (fact_of core l) F) l.weight 0

-- what is paid for literals together
abbrev pub prices : Core → Family → List Literal → ℕ
prices core F [] = 0
prices core F (l ∷ ls) = price core F l + prices core F ls

-- the most that can be paid for literals
abbrev pub weights : List Literal → ℕ
weights [] = 0
weights (l ∷ ls) = l.weight + weights ls

-- the most that can be paid for those of them that have variable x
abbrev pub weights_on : ℕ → List Literal → ℕ
weights_on x [] = 0
weights_on x (l ∷ ls) = cond (lists l.part.variables x) l.weight 0 + weights_on x ls

-- each literal is a comparison of a core
abbrev pub HaveParts : Core → List Literal → Type 0
HaveParts core [] = Unit {0}
HaveParts core (l ∷ ls) = IsPart core l.part × HaveParts core ls

-- so it is, and all sums fit
pub record IsMade (core : Core) (c : Costs) : Type 0 where
  pub parts : HaveParts core c.literals
  pub fits : c.paid + weights c.literals < 2 ^ 128

-- with the family more is paid than there is room for
abbrev pub is_over : Core → Costs → Family → Bool
is_over core c F = nat_lt c.room (c.paid + prices core F c.literals)
