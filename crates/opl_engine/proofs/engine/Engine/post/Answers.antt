use Rattle.std.proofs.Common.{◌<◌, ◌^◌, ◌∙◌, [], ◌∷◌, ◌++◌, length, reverse, ap, sym, subst, arith}
use Rattle.opl_expr.specs.declared.model.Core.{Core}
use Rattle.opl_expr.specs.Forms.{fact}
use Rattle.opl_engine.specs.declared.member.Member.TheVariants as member
use Rattle.opl_engine.specs.States.{Parts, seen}
use Rattle.opl_engine.proofs.Made.{member_there, posted_made, posted_sound, posted_form}
use Rattle.opl_engine.proofs.Placing.{means_nothing}
use Rattle.opl_engine.proofs.Changes.{posts, posts_keep, stays, stays_engine}
use Rattle.opl_engine.proofs.engine.Engine.post.Goals as goal

pub invariant_of-self : goal.invariant_of-self
invariant_of-self c =
    let s = c.self.inside in
    stays_engine s.core.value s.best s.members c.add.new.self (reverse s.openings.items) c.in_err-add.ensures.err c.self.invariant

pub returns-in_err-add-clause-same : goal.returns-in_err-add-clause-same
returns-in_err-add-clause-same c =
    let s = c.self.inside in
    (stays s.core.value s.best s.members c.add.new.self (reverse s.openings.items) c.args.self.now c.in_err-add.ensures.err c.self.view_is).same

pub returns-in_err-add-clause-fits : goal.returns-in_err-add-clause-fits
returns-in_err-add-clause-fits c =
    let s = c.self.inside in
    (stays s.core.value s.best s.members c.add.new.self (reverse s.openings.items) c.args.self.now c.in_err-add.ensures.err c.self.view_is).fits

pub returns-clause-same : goal.returns-clause-same
returns-clause-same c =
    let s = c.self.inside in
    (posts s.core.value s.best s.members c.add.new.self (reverse s.openings.items) c.take_places.new.self (seen c.args.self.now) c.self.invariant (ap seen c.self.view_is) c.in_ok-add.ensures.ok c.add.ensures.long
    (means_nothing (member.Posted c.args.c c.in_ok-variables.variables c.in_ok-form.form) c.take_places.new.self c.take_places.result c.take_places.ensures.within c.take_places.ensures.places s.core.value)).same

pub returns-clause-fits : goal.returns-clause-fits
returns-clause-fits c =
    let s = c.self.inside in
    (posts s.core.value s.best s.members c.add.new.self (reverse s.openings.items) c.take_places.new.self (seen c.args.self.now) c.self.invariant (ap seen c.self.view_is) c.in_ok-add.ensures.ok c.add.ensures.long
    (means_nothing (member.Posted c.args.c c.in_ok-variables.variables c.in_ok-form.form) c.take_places.new.self c.take_places.result c.take_places.ensures.within c.take_places.ensures.places s.core.value)).fits

pub add-requires : goal.add-requires
add-requires c = λ x h.
    let s = c.self.inside in
    let xs = c.in_ok-variables.variables in
    let m = posted_made s.core.value c.args.self.now.core c.as_ref.result.now c.args.c.value c.as_ref-2.result.now xs (ap (λ (p : Parts). p.core) c.self.view_is) c.as_ref.ensures c.as_ref-2.ensures c.requires c.in_ok-variables.ensures in
    let f = posted_form s.core.value c.as_ref-3.result.now c.args.c.value c.as_ref-4.result.now c.in_ok-form.form c.as_ref-3.ensures c.as_ref-4.ensures c.in_ok-form.ensures.filter in
    let l = member_there s.core.value c.take_places.new.self x (c.take_places.ensures.places.made s.core.value (m, f)) h in
    omega (arith, l, c.self.invariant.variables)

pub invariant_of-self-2 : goal.invariant_of-self-2
invariant_of-self-2 c =
    let s = c.self.inside in
    let xs = c.in_ok-variables.variables in
    let m = posted_made s.core.value c.args.self.now.core c.as_ref.result.now c.args.c.value c.as_ref-2.result.now xs (ap (λ (p : Parts). p.core) c.self.view_is) c.as_ref.ensures c.as_ref-2.ensures c.requires c.in_ok-variables.ensures in
    let f = posted_form s.core.value c.as_ref-3.result.now c.args.c.value c.as_ref-4.result.now c.in_ok-form.form c.as_ref-3.ensures c.as_ref-4.ensures c.in_ok-form.ensures.filter in
    posts_keep s.core.value s.best s.members c.add.new.self (reverse s.openings.items) c.take_places.new.self c.self.invariant (c.take_places.ensures.places.made s.core.value (m, f)) c.in_ok-add.ensures.ok

pub new-requires-clause-few : goal.new-requires-clause-few
new-requires-clause-few c = subst (λ (k : Core). length k.sets < 2 ^ 32) (sym c.as_ref-3.ensures) c.self.invariant.few

pub new-requires-clause-sound : goal.new-requires-clause-sound
new-requires-clause-sound c =
    let s = c.self.inside in
    posted_sound s.core.value c.args.self.now.core c.as_ref-3.result.now c.args.c.value c.as_ref-4.result.now (ap (λ (p : Parts). p.core) c.self.view_is) c.as_ref-3.ensures c.as_ref-4.ensures c.requires

pub returns-clause-ok : goal.returns-clause-ok
returns-clause-ok c =
    let s = c.self.inside in
    (posts s.core.value s.best s.members c.add.new.self (reverse s.openings.items) c.take_places.new.self (seen c.args.self.now) c.self.invariant (ap seen c.self.view_is) c.in_ok-add.ensures.ok c.add.ensures.long
    (means_nothing (member.Posted c.args.c c.in_ok-variables.variables c.in_ok-form.form) c.take_places.new.self c.take_places.result c.take_places.ensures.within c.take_places.ensures.places s.core.value)).posted
    ∙ ap (λ d. (seen c.args.self.now).posted ++ d ∷ []) (c.take_places.ensures.places.constraint s.core.value ∙ ap (λ (p : Parts). fact p.core.tables p.core.resources c.args.c.value) c.self.view_is)
