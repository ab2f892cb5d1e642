use Rattle.std.proofs.Common.{map}
use Rattle.opl_connective.specs.Trees.{tree}
use Rattle.opl_connective.proofs.Going.{Gone}
use Rattle.opl_connective.proofs.rounds.+rounds.Given as goal

abbrev pub invariant-round_all-loop-node : goal.invariant-round_all-loop-node
invariant-round_all-loop-node g l = Gone l.core l.is_opposite (map tree l.nodes) (g.N.View.family l.initial.n) (g.N.View.family l.n) l.node-index × g.N.Narrow.leads_to l.initial.n l.n
