use Rattle.std.proofs.Common.{◌≡◌, take, true}
use Rattle.std.specs.List.{list_all}
use Rattle.opl_sound.specs.Ground.{resource_fits}
use Rattle.opl_sound.proofs.ground.resources_fit.Given as goal

abbrev pub invariant-loop-resource : goal.invariant-loop-resource
invariant-loop-resource l = list_all (resource_fits l.core.sets) (take l.resource-index l.resources) ≡ true
