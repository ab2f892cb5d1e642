use Rattle.std.proofs.Common.{◌≡◌, map, take}
use Rattle.opl_expr.specs.Forms.{term, fact}
use Rattle.opl_trace.specs.Answers.{answered, answered_term}
use Rattle.opl_choices.proofs.answers.+answers.Given as goal

abbrev pub invariant-answered_terms-loop-part : goal.invariant-answered_terms-loop-part
invariant-answered_terms-loop-part g l = map (term l.core.tables l.core.resources) l.answers ≡ map (λ e. answered_term (g.V.View.family l.view) (term l.core.tables l.core.resources e)) (take l.part-index l.parts)

abbrev pub invariant-all_answered-loop-part : goal.invariant-all_answered-loop-part
invariant-all_answered-loop-part g l = map (fact l.core.tables l.core.resources) l.answers ≡ map (λ c. answered (g.V.View.family l.view) (fact l.core.tables l.core.resources c)) (take l.part-index l.parts)
