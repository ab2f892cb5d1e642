use Rattle.opl_expr.specs.Forms.{term, fact}
use Rattle.opl_filter.specs.Mentions.{term_mentions, mentions}
use Rattle.opl_filter.proofs.Adding.{AddsFirst}
use Rattle.opl_filter.proofs.variables.+variables.Given as goal

abbrev pub invariant-add_facts-loop-part : goal.invariant-add_facts-loop-part
invariant-add_facts-loop-part l = AddsFirst (λ e. mentions (fact l.core.tables l.core.resources e)) l.parts l.part-index l.initial.found l.found

abbrev pub invariant-add_terms-loop-part : goal.invariant-add_terms-loop-part
invariant-add_terms-loop-part l = AddsFirst (λ e. term_mentions (term l.core.tables l.core.resources e)) l.parts l.part-index l.initial.found l.found
