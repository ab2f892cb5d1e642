-- What a filter of connectives has of the constraint that it is made for.
use Rattle.std.specs.Prelude.{◌≡◌, List, [], ◌∷◌, Option, Some, None}
use Rattle.opl_domain.specs.Family.{Family}
use Rattle.opl_expr.specs.declared.model.Core.{Core}
use Rattle.opl_expr.specs.Forms.{Fact}
use Rattle.opl_expr.specs.Range.{fact_range}
use Rattle.opl_connective.specs.declared.node.Node.{Node}
use Rattle.opl_connective.specs.declared.connective_filter.ConnectiveFilter.{ConnectiveFilter}
use Rattle.opl_connective.specs.Trees.{tree, holds}
use Rattle.opl_connective.specs.Nodes.{IsTree}

-- the node has the range of the constraint, over every family
pub record IsNodeOf (core : Core) (c : Fact) (node : Node) : Type 0 where
  pub made : IsTree core (tree node)
  pub same : (F : Family) → fact_range F c ≡ fact_range F (holds core (tree node))

-- so it is, if there is a node
abbrev pub IsNodeIfAny : Core → Fact → Option Node → Type 0
IsNodeIfAny core c None = Unit {0}
IsNodeIfAny core c (Some node) = IsNodeOf core c node

-- one node for each constraint, in their order
abbrev pub AreNodesOf : Core → List Fact → List Node → Type 0
AreNodesOf core [] [] = Unit {0}
AreNodesOf core [] (n ∷ ns) = ⊥
AreNodesOf core (c ∷ cs) [] = ⊥
AreNodesOf core (c ∷ cs) (n ∷ ns) = IsNodeOf core c n × AreNodesOf core cs ns

abbrev pub AreNodesIfAny : Core → List Fact → Option (List Node) → Type 0
AreNodesIfAny core cs None = Unit {0}
AreNodesIfAny core cs (Some ns) = AreNodesOf core cs ns

-- the filter was made with a core
abbrev pub IsMadeOfNodes : Core → ConnectiveFilter → Type 0
IsMadeOfNodes core f = IsTree core (tree f.node)

-- the filter is that of a constraint
abbrev pub IsConnectiveFor : Core → Fact → ConnectiveFilter → Type 0
IsConnectiveFor core c f = IsNodeOf core c f.node

-- a filter, where there is one, is that of a constraint
abbrev pub IsConnectiveIfAny : Core → Fact → Option ConnectiveFilter → Type 0
IsConnectiveIfAny core c None = Unit {0}
IsConnectiveIfAny core c (Some f) = IsConnectiveFor core c f
