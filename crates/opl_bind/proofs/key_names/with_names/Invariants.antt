use Rattle.std.proofs.Common.{◌≡◌, ◌++◌, ◌∷◌, drop, map}
use Rattle.opl_eval.specs.Visible.{parameter_of}
use Rattle.opl_bind.specs.Keys.{chosen, named_all}
use Rattle.opl_bind.proofs.key_names.with_names.Given as goal

abbrev pub invariant-loop-dim : goal.invariant-loop-dim
invariant-loop-dim l =
    map parameter_of l.parameters ++ named_all (l.first ∷ l.rest) (chosen l.key)
    ≡ map parameter_of l.all.items ++ named_all (drop l.dim-index l.rest) (chosen l.left)
