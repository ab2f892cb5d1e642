-- Places of notes for the literals of sums: what is noted at one is that its literal is refuted.
use Rattle.std.specs.Prelude.{◌≡◌, ℕ, ◌+◌, ◌<◌, ◌≤◌, ◌^◌, ◌⊎◌, Bool, true, false, List, length, slice_get, slice_set, Option, Some, None}
use Rattle.opl_expr.specs.declared.model.Core.{Core}
use Rattle.opl_expr.specs.Forms.{Fact}
use Rattle.opl_trail.specs.Levels.{Levels}
use Rattle.opl_count.specs.declared.sum.Literal.{Literal}
use Rattle.opl_count.specs.declared.sum.Sum.{Sum}
use Rattle.opl_count.specs.declared.count_filter.CountFilter.{CountFilter}
use Rattle.opl_count.specs.Costs.{fact_of}
use Rattle.opl_count.specs.Sums.{IsSum}
use Rattle.opl_count.specs.CountFilters.{IsMadeOfCounts, IsCountFor}

-- from the first place on, if there is one, the places stand for the constraints of literals, one behind another
pub record StandFor (core : Core) (ls : List Literal) (first : ℕ) (facts : ℕ → Fact) (n : ℕ) : Type 0 where
  pub there : first + length ls ≤ n
  pub few : first + length ls < 2 ^ 32
  pub each : (i : ℕ) (l : Literal) → slice_get ls i ≡ Some l → facts (first + i) ≡ fact_of core l

abbrev pub means_literals : Core → List Literal → Option ℕ → (ℕ → Fact) → ℕ → Type 0
means_literals core ls None facts n = Unit {0}
means_literals core ls (Some first) facts n = StandFor core ls first facts n

abbrev pub means_sum : Core → Sum → (ℕ → Fact) → ℕ → Type 0
means_sum core s = means_literals core s.costs.literals s.first_place

-- so it is for two sums
abbrev pub means_both : Core → Sum → Sum → (ℕ → Fact) → ℕ → Type 0
means_both core s t facts n = means_sum core s facts n × means_sum core t facts n

abbrev pub means_counts : Core → CountFilter → (ℕ → Fact) → ℕ → Type 0
means_counts core f = means_both core f.first f.second

-- something was noted at a place, or was so already; or nothing was
abbrev pub Writes : Levels → ℕ → Bool → Levels → Type 0
Writes old p false new = new ≡ old
Writes old p true new = (new ≡ old) ⊎ (new ≡ record { top = slice_set old.top p 1; below = old.below })

-- ---- places that are given

-- what stands for the constraints of n places can be told, whatever those of the first ones stand for
pub record Extends (means : (ℕ → Fact) → ℕ → Type 0) (facts : ℕ → Fact) (first n : ℕ) : Type 0 where
  pub wider : ℕ → Fact
  pub same : (p : ℕ) → p < first → wider p ≡ facts p
  pub meant : means wider n

-- the sum is as before, but for its places, which lie between two numbers
pub record GivesPlacesTo (old new : Sum) (first n : ℕ) : Type 0 where
  pub more : first ≤ n
  pub made : (core : Core) → IsSum core old → IsSum core new
  pub same : new.costs ≡ old.costs
  pub places : (core : Core) (facts : ℕ → Fact) → Extends (means_sum core new) facts first n

-- so is a filter
pub record GivesPlaces (old new : CountFilter) (first n : ℕ) : Type 0 where
  pub more : first ≤ n
  pub made : (core : Core) → IsMadeOfCounts core old → IsMadeOfCounts core new
  pub filter : (core : Core) (c : Fact) → IsCountFor core c old → IsCountFor core c new
  pub places : (core : Core) (facts : ℕ → Fact) → Extends (means_counts core new) facts first n
