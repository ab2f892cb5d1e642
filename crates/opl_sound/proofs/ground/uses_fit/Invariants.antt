use Rattle.std.proofs.Common.{◌≡◌, take, true}
use Rattle.std.specs.List.{list_all}
use Rattle.opl_sound.specs.Ground.{use_fits}
use Rattle.opl_sound.proofs.ground.uses_fit.Given as goal

abbrev pub invariant-loop-u : goal.invariant-loop-u
invariant-loop-u l = list_all (use_fits l.core.sets) (take l.u-index l.uses) ≡ true
