-- What a path still has to do, as plain tasks.
use Rattle.std.specs.Prelude.{List, [], ◌∷◌, drop}
use Rattle.opl_steps.specs.Tasks as plain
use Rattle.opl_steps.specs.Tasks.Task.{values}
use Rattle.opl_search.specs.declared.tail.Tail.{Tail}
use Rattle.opl_search.specs.declared.tail.Tail.TheOpen.{Tail-F}
use Rattle.opl_search.specs.declared.tail.Tail.TheFolds.{fold-Tail}

-- one task, and what follows it as plain tasks already
abbrev pub tail_layer : Tail-F (List plain.Task) → List plain.Task
tail_layer (Tail-F.End) = []
tail_layer (Tail-F.Label xs k rest) = values (drop k xs.value) ∷ rest.value

unfoldable pub tail_of : Tail → List plain.Task
tail_of = fold-Tail (List plain.Task) tail_layer
