-- Constraints that parts differ, and what a filter of one has.
use Rattle.std.specs.Prelude.{◌≡◌, ◌≢◌, ℕ, ◌+◌, ◌<◌, List, length, map, unsigned_abs, Option, Some, None}
use Rattle.opl_expr.specs.declared.model.Core.{Core}
use Rattle.opl_expr.specs.declared.forms.Expr.{Expr}
use Rattle.opl_expr.specs.declared.forms.Cons.{Cons}
use Rattle.opl_expr.specs.declared.forms.Cons.TheVariants as constraint
use Rattle.opl_expr.specs.Forms.{Terms, Fact, terms_of}
use Rattle.opl_expr.specs.Sound.{IsSmall}
use Rattle.opl_range.specs.Between.{term_of}
use Rattle.opl_all_different.specs.declared.different_filter.DifferentFilter.{DifferentFilter}
use Rattle.opl_all_different.specs.Parts.{part_at, weight_of, AreSeparate, ArePartsOf}
use Rattle.opl_all_different.specs.Reading.{AreSingleVariables}

-- the parts name variables of the core, none of them twice, all sums fit, and there is a mark for each part
pub record IsMade (core : Core) (f : DifferentFilter) : Type 0 where
  pub separate : AreSeparate (length core.sets) f.parts
  pub own : (i : ℕ) → i < length f.parts → IsSmall (weight_of core.sets (part_at f.parts i))
  pub pairs : (i j : ℕ) → i < length f.parts → j < length f.parts → j ≢ i → IsSmall (unsigned_abs (part_at f.parts j).constant + weight_of core.sets (part_at f.parts i))
  pub marks : length f.done.items ≡ length f.parts

-- the filter is that of a constraint, which says that these parts differ
pub record IsFilterOf (core : Core) (c : Fact) (f : DifferentFilter) : Type 0 where
  pub terms : Terms
  pub is : c ≡ Fact.different terms
  pub parts : ArePartsOf (length core.sets) terms f.parts
  pub made : IsMade core f

-- a constraint says that expressions differ which are linear, each of at most one variable, no two of the same
pub record SeparatesVariables (core : Core) (c : Cons) : Type 0 where
  pub expressions : List Expr
  pub is : c ≡ constraint.AllDifferent expressions
  pub single : AreSingleVariables core expressions

-- the filter of expressions that are to differ, where they are so, and none where they aren't
abbrev pub IsMadeForParts : Core → List Expr → Option DifferentFilter → Type 0
IsMadeForParts core es None = AreSingleVariables core es → ⊥
IsMadeForParts core es (Some f) = IsFilterOf core (Fact.different (terms_of (map (term_of core) es))) f × AreSingleVariables core es

-- a filter is there where a constraint says so, and there alone
abbrev pub IsThereFor : Core → Cons → Option DifferentFilter → Type 0
IsThereFor core c None = SeparatesVariables core c → ⊥
IsThereFor core c (Some f) = SeparatesVariables core c

-- a filter, where there is one, is that of a constraint
abbrev pub IsFilterIfAny : Core → Fact → Option DifferentFilter → Type 0
IsFilterIfAny core c None = Unit {0}
IsFilterIfAny core c (Some f) = IsFilterOf core c f
