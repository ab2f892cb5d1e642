use Rattle.std.proofs.Common.{◌≡◌, ◌≤◌, max, drop}
use Rattle.opl_truths.specs.Conditions.{deepest}
use Rattle.opl_truths.proofs.measure.list_depth.Given as goal

-- the depth so far and that of what is left give that of all
abbrev pub invariant-loop-part : goal.invariant-loop-part
invariant-loop-part l = (deepest l.parts ≡ max l.depth (deepest (drop l.part-index l.parts))) × (l.depth ≤ 2050)
