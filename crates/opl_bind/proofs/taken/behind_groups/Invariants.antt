use Rattle.std.proofs.Common.{◌≡◌, ◌+◌, ◌*◌, ◌++◌, drop, map}
use Rattle.std.specs.List.{flat_map}
use Rattle.opl_bind.proofs.taken.behind_groups.Given as goal

abbrev pub invariant-loop-group : goal.invariant-loop-group
invariant-loop-group l =
    flat_map (λ n. map (λ p. n * l.size + p) l.places) l.groups
    ≡ l.all.items ++ flat_map (λ n. map (λ p. n * l.size + p) l.places) (drop l.group-index l.groups)
