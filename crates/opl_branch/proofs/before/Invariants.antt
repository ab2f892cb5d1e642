use Rattle.std.proofs.Common.{◌≡◌, drop}
use Rattle.opl_branch.specs.Firsts.{is_before}
use Rattle.opl_branch.proofs.before.Given as goal

abbrev pub invariant-loop-place : goal.invariant-loop-place
invariant-loop-place l = is_before l.a l.b ≡ is_before (drop l.place l.a) (drop l.place l.b)
