use Rattle.std.proofs.Common.{◌≡◌, drop}
use Rattle.opl_given.specs.Given as spec
use Rattle.opl_given.specs.Readings.{given_of, texts_of}
use Rattle.opl_given.proofs.given.give_items.Given as goal

abbrev pub invariant-loop-item : goal.invariant-loop-item
invariant-loop-item l =
    spec.give_items (texts_of l.awaiting) l.file (given_of l.fn.given) l.items
    ≡ spec.give_items (texts_of l.awaiting) l.file (given_of l.given) (drop l.item-index l.items)
