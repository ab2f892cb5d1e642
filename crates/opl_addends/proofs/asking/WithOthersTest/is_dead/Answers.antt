use Rattle.std.proofs.Common.{◌∙◌, ap, sym}
use Rattle.opl_addends.specs.Addends.{plains}
use Rattle.opl_addends.specs.Demands.{is_refuted_by}
use Rattle.opl_addends.proofs.Going.{mention_can_add, mention_total, missing_refuted, asked_refuted, asked_fits}
use Rattle.opl_addends.proofs.asking.WithOthersTest.is_dead.Goals as goal

pub total_at-requires-clause-sound : goal.total_at-requires-clause-sound
total_at-requires-clause-sound g c =
    let t = c.args.self.now in
    mention_can_add t.core.now t.sum.now t.mention.now c.as_slice-places.result.now c.as_slice-places.ensures c.requires.mention c.requires.can_add

pub add-requires : goal.add-requires
add-requires g c =
    let t = c.args.self.now in
    let F = g.V.View.family c.args.view.now in
    asked_fits t.core.now F t.mention.now.variable (plains t.core.now t.sum.now.addends) t.others c.in-Some.own c.requires.within c.requires.can_add c.requires.others
    (c.in-Some.ensures ∙ mention_total t.core.now t.sum.now t.mention.now F c.as_slice-places.result.now c.as_slice-places.ensures c.requires.mention)

pub returns-in-None : goal.returns-in-None
returns-in-None g c =
    let t = c.args.self.now in
    let F = g.V.View.family c.args.view.now in
    sym (missing_refuted t.core.now t.sum.now F t.mention.now.variable (c.in-None.ensures ∙ mention_total t.core.now t.sum.now t.mention.now F c.as_slice-places.result.now c.as_slice-places.ensures c.requires.mention))

pub returns-in-Some : goal.returns-in-Some
returns-in-Some g c =
    let t = c.args.self.now in
    let F = g.V.View.family c.args.view.now in
    c.is_refuted_by.ensures ∙ ap (is_refuted_by t.sum.now.demand) c.add.ensures
    ∙ asked_refuted t.core.now t.sum.now F t.mention.now.variable t.others c.in-Some.own c.requires.others
    (c.in-Some.ensures ∙ mention_total t.core.now t.sum.now t.mention.now F c.as_slice-places.result.now c.as_slice-places.ensures c.requires.mention)
