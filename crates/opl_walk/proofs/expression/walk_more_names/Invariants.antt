use Rattle.std.proofs.Common.{◌≡◌, true, map, drop}
use Rattle.opl_token.specs.declared.sign.Sign.TheVariants as signs
use Rattle.opl_tree.specs.Marks.{behind, marks_name}
use Rattle.opl_walk.specs.Told.{told}
use Rattle.opl_walk.proofs.expression.walk_more_names.Given as goal

abbrev pub invariant-loop-name : goal.invariant-loop-name
invariant-loop-name g l =
    let tell = told g.V.Visitor.token g.V.Visitor.opens l.level in
    g.V.Visitor.is_whole l.visitor ≡ true → (g.V.Visitor.is_whole l.fn.visitor ≡ true) × (tell (behind signs.Comma (map marks_name (drop l.name-index l.names))) l.visitor ≡ tell (behind signs.Comma (map marks_name l.fn.names)) l.fn.visitor)
