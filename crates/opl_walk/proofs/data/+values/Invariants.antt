use Rattle.std.proofs.Common.{◌≡◌, true, map, drop}
use Rattle.opl_token.specs.declared.sign.Sign.TheVariants as signs
use Rattle.opl_tree.specs.Marks.{several}
use Rattle.opl_data.specs.Marks.{marks_value, marks_pair}
use Rattle.opl_walk.specs.Told.{told, listed}
use Rattle.opl_walk.proofs.data.+values.Given as goal

abbrev pub invariant-walk_pairs-loop-pair : goal.invariant-walk_pairs-loop-pair
invariant-walk_pairs-loop-pair g l =
    let tell = told g.V.Visitor.token g.V.Visitor.opens in
    g.V.Visitor.is_whole l.visitor ≡ true → (g.V.Visitor.is_whole l.fn.visitor ≡ true) × (tell l.level (listed l.is_first signs.Comma (map marks_pair (drop l.pair-index l.pairs))) l.visitor ≡ tell l.fn.level (several signs.Comma (map marks_pair l.fn.pairs)) l.fn.visitor)

abbrev pub invariant-walk_values-loop-value : goal.invariant-walk_values-loop-value
invariant-walk_values-loop-value g l =
    let tell = told g.V.Visitor.token g.V.Visitor.opens in
    g.V.Visitor.is_whole l.visitor ≡ true → (g.V.Visitor.is_whole l.fn.visitor ≡ true) × (tell l.level (listed l.is_first signs.Comma (map marks_value (drop l.value-index l.values))) l.visitor ≡ tell l.fn.level (listed l.fn.is_first signs.Comma (map marks_value l.fn.values)) l.fn.visitor)
