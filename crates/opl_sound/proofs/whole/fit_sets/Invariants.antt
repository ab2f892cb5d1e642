use Rattle.std.proofs.Common.{◌≡◌, take, true}
use Rattle.std.specs.List.{list_all}
use Rattle.opl_sound.specs.Cores.{fits_set}
use Rattle.opl_sound.proofs.whole.fit_sets.Given as goal

abbrev pub invariant-loop-ends : goal.invariant-loop-ends
invariant-loop-ends l = list_all fits_set (take l.ends-index l.sets) ≡ true
