use Rattle.std.proofs.Common.{◌≡◌, ◌+◌, ◌*◌, ◌++◌, drop, map}
use Rattle.opl_bind.proofs.taken.behind_group.Given as goal

abbrev pub invariant-loop-place : goal.invariant-loop-place
invariant-loop-place l = map (λ p. l.group * l.size + p) l.places ≡ l.all.items ++ map (λ p. l.group * l.size + p) (drop l.place-index l.places)
