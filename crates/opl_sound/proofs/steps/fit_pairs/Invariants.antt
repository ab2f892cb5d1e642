use Rattle.std.proofs.Common.{◌≡◌, take, true}
use Rattle.std.specs.List.{list_all}
use Rattle.opl_sound.specs.Cores.{fits_pair}
use Rattle.opl_sound.proofs.steps.fit_pairs.Given as goal

abbrev pub invariant-loop-first : goal.invariant-loop-first
invariant-loop-first l = list_all (fits_pair l.core.sets) (take l.first-index l.pairs) ≡ true
