-- Filters of their own that some kinds of constraints have.
use Rattle.std.specs.Prelude.{◌≡◌, ℕ, ◌≤◌, Bool, true, false, Option, Some, None}
use Rattle.opl_expr.specs.declared.model.Core.{Core}
use Rattle.opl_expr.specs.declared.forms.Cons.{Cons}
use Rattle.opl_expr.specs.Forms.{Fact}
use Rattle.opl_linear_filter.specs.Ends as linear
use Rattle.opl_linear_filter.specs.LinearForms.{IsMade, IsFilterOf, ComparesLinear}
use Rattle.opl_all_different.specs.DifferentForms.{IsMade as IsMadeOfSingles, IsFilterOf as IsDifferenceFor, SeparatesVariables}
use Rattle.opl_reify.specs.Ends as disjunction
use Rattle.opl_reify.specs.Disjunctions.{IsMadeOfParts, IsDisjunctionFor, IsDisjunction}
use Rattle.opl_connective.specs.Ends as connective
use Rattle.opl_connective.specs.Connectives.{IsMadeOfNodes, IsConnectiveFor}
use Rattle.opl_connective.specs.Kinds.{Connects}
use Rattle.opl_count.specs.CountFilters.{IsMadeOfCounts, IsCountFor, ComparesCounts}
use Rattle.opl_count.specs.Places.{means_counts, Extends}
use Rattle.opl_addends.specs.AddendsFilters.{IsMadeOfAddends, IsAddendsFor, ComparesAddends}
use Rattle.opl_engine.specs.declared.own_filter.OwnFilter.{OwnFilter}
use Rattle.opl_engine.specs.declared.own_filter.OwnFilter.TheVariants as own

-- a filter was made with a core
abbrev pub IsMadeWith : Core → OwnFilter → Type 0
IsMadeWith core (own.Linear f) = IsMade core f
IsMadeWith core (own.Different f) = IsMadeOfSingles core f
IsMadeWith core (own.Reify f) = IsMadeOfParts core f
IsMadeWith core (own.Connective f) = IsMadeOfNodes core f
IsMadeWith core (own.Count f) = IsMadeOfCounts core f
IsMadeWith core (own.Addends f) = IsMadeOfAddends core f

-- it is the filter of a constraint
abbrev pub IsOwnFilter : Core → Fact → OwnFilter → Type 0
IsOwnFilter core c (own.Linear f) = IsFilterOf core c f
IsOwnFilter core c (own.Different f) = IsDifferenceFor core c f
IsOwnFilter core c (own.Reify f) = IsDisjunctionFor core c f
IsOwnFilter core c (own.Connective f) = IsConnectiveFor core c f
IsOwnFilter core c (own.Count f) = IsCountFor core c f
IsOwnFilter core c (own.Addends f) = IsAddendsFor core c f

-- a filter, where there is one, is that of a constraint
abbrev pub IsOwnFilterIfAny : Core → Fact → Option OwnFilter → Type 0
IsOwnFilterIfAny core c None = Unit {0}
IsOwnFilterIfAny core c (Some f) = IsOwnFilter core c f

-- whether the ends of the sets alone decide what a filter removes
abbrev pub sees_ends : OwnFilter → Bool
sees_ends (own.Linear f) = linear.sees_ends f
sees_ends (own.Different f) = true
sees_ends (own.Reify f) = disjunction.sees_ends f
sees_ends (own.Connective f) = connective.sees_ends f
sees_ends (own.Count f) = false
sees_ends (own.Addends f) = false

-- so it is of a filter, where there is one; without one all values count
abbrev pub sees_ends_if_any : Option OwnFilter → Bool
sees_ends_if_any None = false
sees_ends_if_any (Some f) = sees_ends f

-- what it takes places of notes to stand for: a counting sum its literals
abbrev pub means_own : Core → OwnFilter → (ℕ → Fact) → ℕ → Type 0
means_own core (own.Linear f) facts n = Unit {0}
means_own core (own.Different f) facts n = Unit {0}
means_own core (own.Reify f) facts n = Unit {0}
means_own core (own.Connective f) facts n = Unit {0}
means_own core (own.Count f) facts n = means_counts core f facts n
means_own core (own.Addends f) facts n = Unit {0}

abbrev pub means_if_any : Core → Option OwnFilter → (ℕ → Fact) → ℕ → Type 0
means_if_any core None facts n = Unit {0}
means_if_any core (Some f) facts n = means_own core f facts n

-- the filter is as before, but for its places, which lie between two numbers
pub record GivesOwnPlaces (old new : OwnFilter) (first n : ℕ) : Type 0 where
  pub more : first ≤ n
  pub constraint : (core : Core) (c : Fact) → IsOwnFilter core c old → IsOwnFilter core c new
  pub ends : sees_ends new ≡ sees_ends old
  pub places : (core : Core) (facts : ℕ → Fact) → Extends (means_own core new) facts first n

-- of whichever constraint the old filter is, the new one is too; it takes places to stand for the same constraints, and the ends of the sets decide it if they decided the old one
pub record KeepsConstraints (old new : Option OwnFilter) : Type 0 where
  pub constraint : (core : Core) (c : Fact) → IsOwnFilterIfAny core c old → IsOwnFilterIfAny core c new
  pub means : (core : Core) (facts : ℕ → Fact) (n : ℕ) → means_if_any core old facts n → means_if_any core new facts n
  pub ends : sees_ends_if_any new ≡ sees_ends_if_any old

-- so it is once a filter, where there is one, was given places between two numbers
pub record GivesPlacesIfAny (old new : Option OwnFilter) (first n : ℕ) : Type 0 where
  pub more : first ≤ n
  pub constraint : (core : Core) (c : Fact) → IsOwnFilterIfAny core c old → IsOwnFilterIfAny core c new
  pub ends : sees_ends_if_any new ≡ sees_ends_if_any old
  pub places : (core : Core) (facts : ℕ → Fact) → Extends (means_if_any core new) facts first n

-- a constraint is of the kind that such a filter is for
abbrev pub IsOfKind : Core → Cons → OwnFilter → Type 0
IsOfKind core c (own.Linear f) = ComparesLinear core c
IsOfKind core c (own.Different f) = SeparatesVariables core c
IsOfKind core c (own.Reify f) = IsDisjunction core c
IsOfKind core c (own.Connective f) = Connects core c
IsOfKind core c (own.Count f) = ComparesCounts core c
IsOfKind core c (own.Addends f) = ComparesAddends core c

-- each comparison no two addends of which have the same variable with a factor has a filter, and what has a filter is of its kind
abbrev pub IsThereForAddends : Core → Cons → Option OwnFilter → Type 0
IsThereForAddends core c None = ComparesAddends core c → ⊥
IsThereForAddends core c (Some f) = IsOfKind core c f

-- so has each comparison of counting sums
abbrev pub IsThereForCounts : Core → Cons → Option OwnFilter → Type 0
IsThereForCounts core c None = (ComparesCounts core c → ⊥) × (ComparesAddends core c → ⊥)
IsThereForCounts core c (Some f) = IsOfKind core c f

-- so has each constraint that connectives build of comparisons of linear sides
abbrev pub IsThereForConnectives : Core → Cons → Option OwnFilter → Type 0
IsThereForConnectives core c None = (Connects core c → ⊥) × (ComparesCounts core c → ⊥) × (ComparesAddends core c → ⊥)
IsThereForConnectives core c (Some f) = IsOfKind core c f

-- so has each disjunction whose parts compare linear sides
abbrev pub IsThereForDisjunctions : Core → Cons → Option OwnFilter → Type 0
IsThereForDisjunctions core c None = (IsDisjunction core c → ⊥) × (Connects core c → ⊥) × (ComparesCounts core c → ⊥) × (ComparesAddends core c → ⊥)
IsThereForDisjunctions core c (Some f) = IsOfKind core c f

-- so has each alldifferent of linear parts with at most one variable each, no two of them the same
abbrev pub IsThereForDifferences : Core → Cons → Option OwnFilter → Type 0
IsThereForDifferences core c None = (SeparatesVariables core c → ⊥) × (IsDisjunction core c → ⊥) × (Connects core c → ⊥) × (ComparesCounts core c → ⊥) × (ComparesAddends core c → ⊥)
IsThereForDifferences core c (Some f) = IsOfKind core c f

-- and so has each comparison of linear sides
abbrev pub IsThereForKinds : Core → Cons → Option OwnFilter → Type 0
IsThereForKinds core c None = (ComparesLinear core c → ⊥) × (SeparatesVariables core c → ⊥) × (IsDisjunction core c → ⊥) × (Connects core c → ⊥) × (ComparesCounts core c → ⊥) × (ComparesAddends core c → ⊥)
IsThereForKinds core c (Some f) = IsOfKind core c f
