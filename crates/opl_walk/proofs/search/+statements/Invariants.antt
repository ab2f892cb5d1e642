use Rattle.std.proofs.Common.{map}
use Rattle.opl_token.specs.declared.sign.Sign.TheVariants as signs
use Rattle.opl_tree.specs.Marks.{behind, marks_statement, marks_statements}
use Rattle.opl_walk.proofs.Telling.{ToldTo}
use Rattle.opl_walk.proofs.search.+statements.Given as goal

abbrev pub invariant-walk_statements-loop-statement : goal.invariant-walk_statements-loop-statement
invariant-walk_statements-loop-statement g l = ToldTo g.V.Visitor.is_whole g.V.Visitor.token g.V.Visitor.opens l.level (λ ts. behind signs.Semicolon (map marks_statement ts)) l.statement-items l.statement-index l.initial.visitor l.visitor

abbrev pub invariant-walk_statement-loop-alternative : goal.invariant-walk_statement-loop-alternative
invariant-walk_statement-loop-alternative g l = ToldTo g.V.Visitor.is_whole g.V.Visitor.token g.V.Visitor.opens l.inner (λ ts. behind signs.Bar (map marks_statements ts)) l.alternative-items l.alternative-index l.initial.visitor l.visitor
