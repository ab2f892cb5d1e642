-- Trees that were made for constraints, and which of their parts a family refutes.
use Rattle.std.specs.Prelude.{◌≡◌, ℕ, ◌≤◌, ◌<◌, Bool, true, false, not, List, length, map, slice_get, ℤ, Option, Some, None}
use Rattle.opl_domain.specs.Family.{Family, Below, Full, only}
use Rattle.opl_expr.specs.declared.model.Core.{Core}
use Rattle.opl_expr.specs.Forms.{Fact}
use Rattle.opl_expr.specs.Range.{fact_range}
use Rattle.opl_filter.specs.Mentions.{lists}
use Rattle.opl_reify.specs.Parts.{fact_in, IsPart, IsPartOf}
use Rattle.opl_connective.specs.declared.node.Node.{Node}
use Rattle.opl_connective.specs.declared.refuting.Side.{Side}
use Rattle.opl_connective.specs.declared.refuting.Side.TheVariants as side
use Rattle.opl_connective.specs.Trees.{Tree, Trees, trees_of, tree, holds, all_hold, is_refuted, iff_refuted}
use Rattle.opl_connective.specs.Trees.Tree.{literal, and, or, iff}
use Rattle.opl_connective.specs.Trees.Trees.{no_trees, more_trees}

-- the variables are among those of the core, and the range of the constraint depends on no others
pub record AreNamed (core : Core) (variables : List ℕ) (c : Fact) : Type 0 where
  pub there : (x : ℕ) → lists variables x ≡ true → x < length core.sets
  pub others : (F : Family) (x : ℕ) (v : ℤ) → Full F → lists variables x ≡ false → fact_range (only F x v) c ≡ fact_range F c

module _ (core : Core) where
  abbrev mutual
    -- each comparison has its filter, and its opposite too, and the variables are those that matter
    pub IsTree : Tree → Type 0
    IsTree (literal p q) = IsPart core p × IsPartOf core (Fact.not (fact_in core p)) q
    IsTree (Tree.not t) = IsTree t
    IsTree (and xs ts) = AreNamed core xs (Fact.and (all_hold core ts)) × AreTrees ts
    IsTree (or xs ts) = AreNamed core xs (Fact.or (all_hold core ts)) × AreTrees ts
    IsTree (iff xs s t) = AreNamed core xs (Fact.iff (holds core s) (holds core t)) × IsTree s × IsTree t

    pub AreTrees : Trees → Type 0
    AreTrees no_trees = Unit {0}
    AreTrees (more_trees t ts) = IsTree t × AreTrees ts

-- the trees of nodes are so
abbrev pub AreNodes : Core → List Node → Type 0
AreNodes core nodes = AreTrees core (trees_of (map tree nodes))

-- whether the family refutes the tree at a place, or its opposite, if there is one there
abbrev pub TellsAt : Core → Family → Bool → List Tree → Bool → ℕ → Type 0
TellsAt core F opposite ts told i = (t : Tree) → slice_get ts i ≡ Some t → is_refuted core opposite t F ≡ told

-- the first tree from a place on of which that is so
pub record IsFirst (core : Core) (F : Family) (opposite : Bool) (ts : List Tree) (told : Bool) (from at : ℕ) : Type 0 where
  pub least : from ≤ at
  pub there : at < length ts
  pub is : TellsAt core F opposite ts told at
  pub before : (i : ℕ) → from ≤ i → i < at → TellsAt core F opposite ts (not told) i

-- so it is, or it is so of none from there on
abbrev pub First : Core → Family → Bool → List Tree → Bool → ℕ → Option ℕ → Type 0
First core F opposite ts told from None = (i : ℕ) → from ≤ i → TellsAt core F opposite ts (not told) i
First core F opposite ts told from (Some at) = IsFirst core F opposite ts told from at

-- the family does not refute the node at a place, or its opposite, and there is one
pub record IsOpenAt (core : Core) (F : Family) (opposite : Bool) (nodes : List Node) (i : ℕ) : Type 0 where
  pub there : i < length nodes
  pub is : TellsAt core F opposite (map tree nodes) false i

-- the family refutes neither the tree nor its opposite
pub record IsOpen (core : Core) (F : Family) (t : Tree) : Type 0 where
  pub holds : is_refuted core true t F ≡ false
  pub fails : is_refuted core false t F ≡ false

-- where one of two trees is decided, families within refute that they are alike, or that they differ, where they refute the other or its
-- opposite; else both are open
abbrev pub LeavesSide : Core → Family → Bool → Tree → Tree → Side → Type 0
LeavesSide core F opposite s t (side.First b) = (G : Family) → Full G → Below G F → is_refuted core b s G ≡ iff_refuted core opposite s t G
LeavesSide core F opposite s t (side.Second b) = (G : Family) → Full G → Below G F → is_refuted core b t G ≡ iff_refuted core opposite s t G
LeavesSide core F opposite s t side.Both = IsOpen core F s × IsOpen core F t
