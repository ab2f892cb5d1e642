-- Members: the constraints that an engine filters, and the variables that wake them.
use Rattle.std.specs.Prelude.{◌≡◌, ℕ, ◌<◌, Bool, true, false, cond, is_some, List, length, slice_get, ℤ, Option, Some, None}
use Rattle.opl_expr.specs.declared.model.Core.{Core}
use Rattle.opl_expr.specs.declared.forms.Cons.{Cons}
use Rattle.opl_expr.specs.Forms.{Term, Fact, fact}
use Rattle.opl_expr.specs.Sound.{IsSoundTerm, IsSoundFact}
use Rattle.opl_filter.specs.Mentions.{lists, term_mentions, AreVariables}
use Rattle.opl_trace.specs.Answers.{is_value}
use Rattle.opl_trace.specs.Marks.{objective}
use Rattle.opl_trace.specs.Objective.{Objective, better_than}
use Rattle.opl_objective_filter.specs.declared.objective_filter.ObjectiveFilter.{ObjectiveFilter}
use Rattle.opl_objective_filter.specs.ObjectiveFilters.{IsFilterOf}
use Rattle.opl_engine.specs.declared.own_filter.OwnFilter.{OwnFilter}
use Rattle.opl_engine.specs.OwnFilters.{IsOwnFilterIfAny, sees_ends_if_any, means_if_any}
use Rattle.opl_engine.specs.declared.member.Member.{Member}
use Rattle.opl_engine.specs.declared.member.Member.TheVariants as member

-- the bound that a best value sets, as one constraint; it always holds where there is no objective, or no best value yet
abbrev pub bound_fact : Option Objective → Option ℤ → Fact
bound_fact None b = Fact.fixed true
bound_fact (Some g) None = Fact.fixed true
bound_fact (Some g) (Some b) = better_than g b

-- a constraint of a core
abbrev pub fact_at : Core → Option Cons → Fact
fact_at core None = Fact.fixed true
fact_at core (Some c) = fact core.tables core.resources c

-- the constraint that a member stands for
abbrev pub fact_of : Core → Member → Fact
fact_of core (member.Bound best variables form) = bound_fact (objective core) best
fact_of core (member.Declared k variables form) = fact_at core (slice_get core.cons k)
fact_of core (member.Posted c variables form) = fact core.tables core.resources c.value
fact_of core (member.Value x v) = is_value x v

-- the variables that can wake a member: those that its constraint mentions. The value of a variable, once it is there, stays.
abbrev pub names : Member → ℕ → Bool
names (member.Bound best variables form) x = lists variables x
names (member.Declared k variables form) x = lists variables x
names (member.Posted c variables form) x = lists variables x
names (member.Value y v) x = false

-- whether these wake it by the ends of their sets alone
abbrev pub sees_ends : Member → Bool
sees_ends (member.Bound best variables form) = is_some form
sees_ends (member.Declared k variables form) = sees_ends_if_any form
sees_ends (member.Posted c variables form) = sees_ends_if_any form
sees_ends (member.Value y v) = false

-- the variables that wake a member by each value that they lose
abbrev pub wakes_on : Member → ℕ → Bool
wakes_on m x = cond (sees_ends m) false (names m x)

-- the variables that wake a member by the ends of their sets alone
abbrev pub wakes_by_ends : Member → ℕ → Bool
wakes_by_ends m x = cond (sees_ends m) (names m x) false

-- the list has the variables of an expression, and no others
abbrev pub AreVariablesOf : List ℕ → Term → Type 0
AreVariablesOf variables t = (x : ℕ) → lists variables x ≡ term_mentions t x

-- a sound constraint, with its variables
pub record IsListed (core : Core) (c : Fact) (variables : List ℕ) : Type 0 where
  pub sound : IsSoundFact core.sets c
  pub named : AreVariables variables c

-- the same, and if there is a filter of its own, it is that of the constraint
abbrev pub IsConstraint : Core → Fact → List ℕ → Option OwnFilter → Type 0
IsConstraint core c variables form = IsListed core c variables × IsOwnFilterIfAny core c form

-- a sound objective, with its variables
pub record IsGoal (core : Core) (g : Objective) (variables : List ℕ) : Type 0 where
  pub sound : IsSoundTerm core.sets g.term
  pub named : AreVariablesOf variables g.term

-- a filter of the objective, where there is one, is that of it
abbrev pub IsObjectiveFilterIfAny : Core → Objective → Option ObjectiveFilter → Type 0
IsObjectiveFilterIfAny core g None = Unit {0}
IsObjectiveFilterIfAny core g (Some f) = IsFilterOf core g f

-- each of the list is a variable of the core
abbrev pub AreThere : Core → List ℕ → Type 0
AreThere core variables = (x : ℕ) → lists variables x ≡ true → x < length core.sets

-- a member of a core
abbrev pub IsMember : Core → Member → Type 0
IsMember core (member.Bound best variables form) = AreThere core variables × ((g : Objective) → objective core ≡ Some g → IsGoal core g variables × IsObjectiveFilterIfAny core g form)
IsMember core (member.Declared k variables form) = (k < length core.cons) × IsConstraint core (fact_at core (slice_get core.cons k)) variables form
IsMember core (member.Posted c variables form) = IsConstraint core (fact core.tables core.resources c.value) variables form
IsMember core (member.Value x v) = x < length core.sets

-- what a member takes places of notes to stand for, and what all members do
abbrev pub means_member : Core → Member → (ℕ → Fact) → ℕ → Type 0
means_member core (member.Bound best variables form) facts n = Unit {0}
means_member core (member.Declared k variables form) facts n = means_if_any core form facts n
means_member core (member.Posted c variables form) facts n = means_if_any core form facts n
means_member core (member.Value x v) facts n = Unit {0}

abbrev pub means_members : Core → List Member → (ℕ → Fact) → ℕ → Type 0
means_members core ms facts n = (i : ℕ) (m : Member) → slice_get ms i ≡ Some m → means_member core m facts n
