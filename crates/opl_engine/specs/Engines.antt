-- What an engine keeps.
use Rattle.std.specs.Prelude.{◌≡◌, ℕ, ◌^◌, ◌<◌, true, List, map, drop, length, slice_get, ℤ, Option, Some, None}
use Rattle.opl_expr.specs.declared.model.Core.{Core}
use Rattle.opl_expr.specs.Forms.{Fact}
use Rattle.opl_expr.specs.Solutions.{base}
use Rattle.opl_closure.specs.Members.{Each}
use Rattle.opl_closure.specs.Waits.{waits}
use Rattle.opl_objective_filter.specs.declared.objective_filter.ObjectiveFilter.{ObjectiveFilter}
use Rattle.opl_engine.specs.declared.member.Member.{Member}
use Rattle.opl_engine.specs.declared.member.Member.TheVariants as member
use Rattle.opl_engine.specs.declared.opening.Opening.{Opening}
use Rattle.opl_engine.specs.Crowds.{Crowd, no_notes}
use Rattle.opl_trace.specs.Marks.{objective}
use Rattle.opl_engine.specs.Members.{bound_fact, fact_of, means_members, IsMember}
use Rattle.opl_engine.specs.States.{AreOpenings}

-- the first member is the bound of a best value
pub record IsBounded (core : Core) (best : Option ℤ) (ms : List Member) : Type 0 where
  pub value : Option ℤ
  pub variables : List ℕ
  pub form : Option ObjectiveFilter
  pub first : slice_get ms 0 ≡ Some (member.Bound value variables form)
  pub same : bound_fact (objective core) value ≡ bound_fact (objective core) best

-- the members are those of the core, the bound first, and the openings are in order, the last one first; notes have a level for each
pub record IsEngine (core : Core) (best : Option ℤ) (crowd : Crowd) (openings : List Opening) : Type 0 where
  pub few : length core.sets < 2 ^ 32
  pub bounded : IsBounded core best crowd.members
  pub variables : crowd.variables ≡ length core.sets
  pub made : Each (λ i m. IsMember core m) crowd.members
  pub levels : AreOpenings (length crowd.members) openings
  pub notes : length crowd.notes.below ≡ length openings

-- a member that is the bound without a best value
pub record IsFirst (core : Core) (m : Member) : Type 0 where
  pub variables : List ℕ
  pub form : Option ObjectiveFilter
  pub is : m ≡ member.Bound None variables form
  pub made : IsMember core m

-- the bound without a best value, and members for some constraints
pub record IsGrown (core : Core) (P : List Fact) (crowd : Crowd) : Type 0 where
  pub bounded : IsBounded core None crowd.members
  pub variables : crowd.variables ≡ length core.sets
  pub made : Each (λ i m. IsMember core m) crowd.members
  pub posted : drop 1 (map (fact_of core) crowd.members) ≡ P

-- all members have places in notes, in which nothing is noted
pub record HasPlaces (core : Core) (crowd : Crowd) : Type 0 where
  pub places : ℕ
  pub notes : crowd.notes ≡ no_notes places
  pub facts : ℕ → Fact
  pub meant : means_members core crowd.members facts places

-- the same for the constraints of a core, and everybody waits
pub record IsBase (core : Core) (crowd : Crowd) : Type 0 where
  pub few : length core.sets < 2 ^ 32
  pub grown : IsGrown core (base core) crowd
  pub waiting : (i : ℕ) → i < length crowd.members → waits crowd.waits i ≡ true
  pub placed : HasPlaces core crowd
