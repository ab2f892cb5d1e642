use Rattle.std.proofs.Common.{◌≡◌, ◌+◌, drop}
use Rattle.opl_truths.specs.Conditions.{nodes_in}
use Rattle.opl_truths.proofs.measure.list_nodes.Given as goal

-- the nodes so far and those of what is left are those of all
abbrev pub invariant-loop-part : goal.invariant-loop-part
invariant-loop-part l = nodes_in l.parts + 1 ≡ l.nodes + nodes_in (drop l.part-index l.parts)
