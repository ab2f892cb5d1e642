use Rattle.std.proofs.Common.{sym, ap, ◌∙◌, subst}
use Rattle.opl_expr.specs.Forms.{fact, compared}
use Rattle.opl_expr.specs.Range.{is_refuted}
use Rattle.opl_expr.specs.Sound.{IsSoundFact}
use Rattle.opl_expr.proofs.Plain.{fact_Cmp}
use Rattle.opl_range.specs.Between.{term_of}
use Rattle.opl_range.proofs.Arms.{cmp_same}
use Rattle.opl_range.proofs.Compare.{refuted_by}
use Rattle.opl_range.proofs.ranges.refuted.Goals as goal

pub refuted_comparison-requires-clause-sound : goal.refuted_comparison-requires-clause-sound
refuted_comparison-requires-clause-sound g c =
    let core = c.args.core.now in
    cmp_same core c.in-Cmp.op c.in-Cmp.a c.in-Cmp.b _ _ c.get.ensures c.get-in-Cmp.ensures (subst (IsSoundFact core.sets) (ap (fact core.tables core.resources) c.in-Cmp.is ∙ fact_Cmp core.tables core.resources c.in-Cmp.op c.in-Cmp.a c.in-Cmp.b) c.requires.sound)

pub returns-in-Cmp : goal.returns-in-Cmp
returns-in-Cmp g c =
    let core = c.args.core.now in
    let F = g.V.View.family c.args.view.now in
    c.refuted_comparison.ensures
    ∙ ap (λ z. is_refuted F (compared c.in-Cmp.op (term_of core z) (term_of core c.get-in-Cmp.result.now))) c.get.ensures
    ∙ ap (λ z. is_refuted F (compared c.in-Cmp.op (term_of core c.in-Cmp.a) (term_of core z))) c.get-in-Cmp.ensures
    ∙ sym (ap (λ z. is_refuted F (fact core.tables core.resources z)) c.in-Cmp.is ∙ ap (is_refuted F) (fact_Cmp core.tables core.resources c.in-Cmp.op c.in-Cmp.a c.in-Cmp.b))

pub returns-in_default : goal.returns-in_default
returns-in_default g c =
    refuted_by (g.V.View.family c.args.view.now) (fact c.args.core.now.tables c.args.core.now.resources c.args.c.now) c.cons_range.result c.is_possible.result c.cons_range.ensures c.is_possible.ensures
