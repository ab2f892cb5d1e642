use Rattle.std.proofs.Common.{◌≡◌, map, drop}
use Rattle.opl_eval.specs.Visible.{seen}
use Rattle.opl_bind.specs.Bind as spec
use Rattle.opl_bind.proofs.model.add_each.Given as goal

abbrev pub invariant-loop-place : goal.invariant-loop-place
invariant-loop-place l =
    spec.with_values l.declaration 0 (map (λ name. name.now) l.names) (seen l.fn.environment)
    ≡ spec.with_values l.declaration l.place (map (λ name. name.now) (drop l.place l.names)) (seen l.environment)
