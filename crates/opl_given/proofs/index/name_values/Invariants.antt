use Rattle.std.proofs.Common.{◌≡◌, ◌++◌, drop}
use Rattle.opl_given.specs.Axes.{names_from}
use Rattle.opl_given.proofs.index.name_values.Given as goal

abbrev pub invariant-loop-place : goal.invariant-loop-place
invariant-loop-place l = names_from l.declaration 0 l.names ≡ l.values ++ names_from l.declaration l.place (drop l.place l.names)
