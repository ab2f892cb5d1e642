use Rattle.std.proofs.Common.{◌≡◌, take, true, length}
use Rattle.std.specs.Prelude.{nat_lt}
use Rattle.std.specs.List.{list_all}
use Rattle.opl_sound.proofs.steps.are_variables.Given as goal

abbrev pub invariant-loop-x : goal.invariant-loop-x
invariant-loop-x l = list_all (λ x. nat_lt x (length l.core.sets)) (take l.x-index l.variables) ≡ true
