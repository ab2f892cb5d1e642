use Rattle.std.proofs.Common.{◌≡◌, map, drop}
use Rattle.opl_declared.specs.Kept.{names_in}
use Rattle.opl_draft.specs.Clean.{all_clean}
use Rattle.opl_runs.specs.Items.{item_clean}
use Rattle.opl_runs.proofs.clean.+items.Given as goal

abbrev pub invariant-each-loop-part : goal.invariant-each-loop-part
invariant-each-loop-part l =
    all_clean (map (item_clean l.scope.items.now (names_in l.scope.declared)) l.parts)
    ≡ all_clean (map (item_clean l.scope.items.now (names_in l.scope.declared)) (drop l.part-index l.parts))
