use Rattle.std.proofs.Common.{◌≡◌, map, drop}
use Rattle.opl_meaning.specs.Runs.{first_of}
use Rattle.opl_runs.specs.Items.{item_unrun}
use Rattle.opl_runs.proofs.runs.+items.Given as goal

abbrev pub invariant-each-loop-part : goal.invariant-each-loop-part
invariant-each-loop-part l = first_of (map item_unrun l.parts) ≡ first_of (map item_unrun (drop l.part-index l.parts))
