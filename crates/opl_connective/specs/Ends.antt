-- Connectives of which a family refutes what the ends of its sets tell.
use Rattle.std.specs.Prelude.{◌≡◌, Bool, true, false, cond, ◌&&◌, not, length}
use Rattle.opl_expr.specs.declared.model.Core.{Core}
use Rattle.opl_expr.specs.Forms.{Fact}
use Rattle.opl_linear_filter.specs.Ends.{SeesEnds}
use Rattle.opl_reify.specs.Ends.{part_sees_ends}
use Rattle.opl_connective.specs.declared.connective_filter.ConnectiveFilter.{ConnectiveFilter}
use Rattle.opl_connective.specs.Trees.{Tree, Trees, tree}
use Rattle.opl_connective.specs.Trees.Tree.{literal, and, or, iff}
use Rattle.opl_connective.specs.Trees.Trees.{no_trees, more_trees}
use Rattle.opl_connective.specs.Connectives.{IsConnectiveFor}

abbrev mutual
  -- whether the ends of the sets alone decide a tree, or its opposite
  pub tree_sees_ends : Bool → Tree → Bool
  tree_sees_ends o (literal p q) = cond o (part_sees_ends q) (part_sees_ends p)
  tree_sees_ends o (Tree.not t) = tree_sees_ends (not o) t
  tree_sees_ends o (and xs ts) = trees_see_ends o ts
  tree_sees_ends o (or xs ts) = trees_see_ends o ts
  tree_sees_ends o (iff xs s t) = tree_sees_ends false s && (tree_sees_ends true s && (tree_sees_ends false t && tree_sees_ends true t))

  pub trees_see_ends : Bool → Trees → Bool
  trees_see_ends o no_trees = true
  trees_see_ends o (more_trees t ts) = tree_sees_ends o t && trees_see_ends o ts

-- whether they decide the constraint of a filter
abbrev pub sees_ends : ConnectiveFilter → Bool
sees_ends f = tree_sees_ends false (tree f.node)

-- where they do, the constraint of the filter is refuted by ends
abbrev pub EndsDecide : Type 0
EndsDecide = (core : Core) (c : Fact) (f : ConnectiveFilter) → IsConnectiveFor core c f → sees_ends f ≡ true → SeesEnds (length core.sets) c
