use Rattle.std.proofs.Common.{map}
use Rattle.opl_token.specs.declared.sign.Sign.TheVariants as signs
use Rattle.opl_tree.specs.Marks.{behind, marks_item}
use Rattle.opl_walk.proofs.Telling.{ToldTo}
use Rattle.opl_walk.proofs.instruction.+items.Given as goal

abbrev pub invariant-walk_items-loop-item : goal.invariant-walk_items-loop-item
invariant-walk_items-loop-item g l = ToldTo g.V.Visitor.is_whole g.V.Visitor.token g.V.Visitor.opens l.level (λ ts. behind signs.Semicolon (map marks_item ts)) l.item-items l.item-index l.initial.visitor l.visitor
