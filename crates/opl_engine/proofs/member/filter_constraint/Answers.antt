use Rattle.std.proofs.Common.{subst, sym}
use Rattle.opl_expr.specs.Forms.{fact}
use Rattle.opl_notes.specs.Noted.{Knows, Tells}
use Rattle.opl_notes.proofs.Rightness.{tells_none}
use Rattle.opl_engine.specs.OwnFilters.{means_if_any}
use Rattle.opl_engine.proofs.OwnKinds.{made_with, own_is, keeps}
use Rattle.opl_engine.proofs.member.filter_constraint.Goals as goal

pub filter-requires-clause-made : goal.filter-requires-clause-made
filter-requires-clause-made g c =
    let core = c.args.core.now in
    let d = fact core.tables core.resources c.args.c.now in
    made_with core d c.in-Some.filter (own_is core d c.args.form.now c.in-Some.filter c.requires.form c.in-Some.is)

pub returns-in-Some-clause-between : goal.returns-in-Some-clause-between
returns-in-Some-clause-between g c =
    let core = c.args.core.now in
    let d = fact core.tables core.resources c.args.c.now in
    c.filter.ensures.between d (own_is core d c.args.form.now c.in-Some.filter c.requires.form c.in-Some.is)

pub returns-in-Some-clause-outcome : goal.returns-in-Some-clause-outcome
returns-in-Some-clause-outcome g c =
    let core = c.args.core.now in
    let d = fact core.tables core.resources c.args.c.now in
    c.filter.ensures.outcome d (own_is core d c.args.form.now c.in-Some.filter c.requires.form c.in-Some.is)

pub returns-in-Some-clause-form : goal.returns-in-Some-clause-form
returns-in-Some-clause-form g c = keeps c.args.form.now c.in-Some.filter c.filter.new.self c.in-Some.is c.filter.ensures.constraint c.filter.ensures.means c.filter.ensures.ends

pub filter-requires-clause-knows : goal.filter-requires-clause-knows
filter-requires-clause-knows g c = subst (λ o. Knows (means_if_any c.args.core.now o) c.args.notes.now.top (g.N.View.family c.args.n.now)) c.in-Some.is c.requires.knows

pub returns-in-None-clause-tells : goal.returns-in-None-clause-tells
returns-in-None-clause-tells g c =
    let b = c.sweep.ensures.between in
    tells_none (means_if_any c.args.core.now c.args.form.now) c.args.notes.now (g.N.View.family c.args.n.now) (g.N.View.family c.sweep.new.n) b.sets.full b.below

pub returns-in-Some-clause-tells : goal.returns-in-Some-clause-tells
returns-in-Some-clause-tells g c =
    let core = c.args.core.now in
    let d = fact core.tables core.resources c.args.c.now in
    subst (λ o. Tells (means_if_any core o) c.args.notes.now (g.N.View.family c.args.n.now) c.filter.new.notes (g.N.View.family c.filter.new.n)) (sym c.in-Some.is) (c.filter.ensures.tells d (own_is core d c.args.form.now c.in-Some.filter c.requires.form c.in-Some.is))
