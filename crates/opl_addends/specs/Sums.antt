-- Sums that were made, and the variables that their addends mention.
use Rattle.std.specs.Prelude.{◌≡◌, ℕ, Bool, false, List, [], map, slice_get, Some}
use Rattle.opl_domain.specs.Span.{Span}
use Rattle.opl_domain.specs.Family.{Family, Below}
use Rattle.opl_expr.specs.declared.model.Core.{Core}
use Rattle.opl_expr.specs.Solutions.{declared}
use Rattle.opl_filter.specs.Mentions.{lists}
use Rattle.opl_filter.specs.Rounds.{AreThere}
use Rattle.opl_trace.specs.Stable.{IsMonotone}
use Rattle.opl_addends.specs.declared.sum.Addend.{Addend}
use Rattle.opl_addends.specs.declared.sum.Mention.{Mention}
use Rattle.opl_addends.specs.declared.sum.Sum.{Sum}
use Rattle.opl_addends.specs.Addends.{plains, picked, total, mentioning, others, CanAdd}
use Rattle.opl_addends.specs.Demands.{is_sum_refuted}

-- whether a family refutes that the sum is as demanded
abbrev pub is_refuted : Core → Sum → Family → Bool
is_refuted core s = is_sum_refuted s.demand (plains core s.addends)

-- the places are those of the addends that mention the variable
abbrev pub IsMention : Core → List Addend → Mention → Type 0
IsMention core addends m = plains core (picked addends m.places) ≡ mentioning m.variable (plains core addends)

-- the variables of mentions
abbrev pub variables : List Mention → List ℕ
variables = map (λ m. m.variable)

-- the addends can be added, a family below one that refutes the sum does so too, and there is a mention for each variable
pub record IsSum (core : Core) (s : Sum) : Type 0 where
  pub can_add : CanAdd core.sets (plains core s.addends)
  pub falls : IsMonotone (is_refuted core s)
  pub each : (i : ℕ) (m : Mention) → slice_get s.mentions i ≡ Some m → IsMention core s.addends m
  pub there : (F : Family) → Below F (declared core) → AreThere (variables s.mentions) F
  pub covered : (x : ℕ) → lists (variables s.mentions) x ≡ false → mentioning x (plains core s.addends) ≡ []

-- the ranges of the addends that don't mention the variable come to `kept`
pub record CanAsk (core : Core) (s : Sum) (m : Mention) (kept : Span) (F : Family) : Type 0 where
  pub can_add : CanAdd core.sets (plains core s.addends)
  pub mention : IsMention core s.addends m
  pub within : Below F (declared core)
  pub others : total F (others m.variable (plains core s.addends)) ≡ Some kept
