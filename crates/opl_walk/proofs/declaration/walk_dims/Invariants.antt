use Rattle.std.proofs.Common.{map}
use Rattle.opl_token.specs.declared.sign.Sign.TheVariants as signs
use Rattle.opl_tree.specs.Marks.{behind, marks_dim}
use Rattle.opl_walk.proofs.Telling.{ToldTo}
use Rattle.opl_walk.proofs.declaration.walk_dims.Given as goal

abbrev pub invariant-loop-dim : goal.invariant-loop-dim
invariant-loop-dim g l = ToldTo g.V.Visitor.is_whole g.V.Visitor.token g.V.Visitor.opens l.inner (λ ts. behind signs.Comma (map marks_dim ts)) l.dim-items l.dim-index l.initial.visitor l.visitor
