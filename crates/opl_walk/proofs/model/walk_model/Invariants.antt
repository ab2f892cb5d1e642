use Rattle.std.proofs.Common.{map}
use Rattle.opl_tree.specs.Marks.{joined, marks_decl}
use Rattle.opl_walk.proofs.Telling.{ToldTo}
use Rattle.opl_walk.proofs.model.walk_model.Given as goal

abbrev pub invariant-loop-decl : goal.invariant-loop-decl
invariant-loop-decl g l = ToldTo g.V.Visitor.is_whole g.V.Visitor.token g.V.Visitor.opens 0 (λ ts. joined (map marks_decl ts)) l.decl-items l.decl-index l.initial.visitor l.visitor
