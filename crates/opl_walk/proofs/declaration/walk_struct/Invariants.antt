use Rattle.std.proofs.Common.{map}
use Rattle.opl_tree.specs.Marks.{joined, marks_field}
use Rattle.opl_walk.proofs.Telling.{ToldTo}
use Rattle.opl_walk.proofs.declaration.walk_struct.Given as goal

abbrev pub invariant-loop-field : goal.invariant-loop-field
invariant-loop-field g l = ToldTo g.V.Visitor.is_whole g.V.Visitor.token g.V.Visitor.opens l.inner (λ ts. joined (map marks_field ts)) l.field-items l.field-index l.initial.visitor l.visitor
