use Rattle.std.proofs.Common.{◌≡◌, ◌++◌, drop, map}
use Rattle.opl_bind.specs.Keys.{chosen}
use Rattle.opl_show.specs.Readings.{names_of}
use Rattle.opl_show.specs.Texts.{behind, joined, value_text}
use Rattle.opl_names.proofs.element.push_key.Given as goal

abbrev pub invariant-loop-turn : goal.invariant-loop-turn
invariant-loop-turn l =
    let text = value_text (names_of l.enumerations) in
    l.text.items ++ behind (map text (chosen (drop l.turn-index l.others))) ≡ l.fn.text.items ++ joined (map text (chosen l.key))
