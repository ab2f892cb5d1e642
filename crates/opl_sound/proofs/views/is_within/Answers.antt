use Rattle.std.proofs.Common.{◌≡◌, ◌<◌, length, sym, ◌∙◌, ap, get_or, pos, arith, subst, true}
use Rattle.opl_sound.proofs.Within.{LieBetween, other_variables, one_not_within, next_within, all_within}
use Rattle.opl_sound.proofs.views.is_within.Goals as goal

pub returns-then-count-sets : goal.returns-then-count-sets
returns-then-count-sets g c =
    other_variables c.args.core.now (g.V.View.family c.args.view.now) c.vars-count.result c.vars-count.ensures.count (λ e. c.if-count-sets.true (e ∙ ap length (sym c.as_slice-sets.ensures)))

pub returns-then-not-lies_between : goal.returns-then-not-lies_between
returns-then-not-lies_between g c =
    let F = g.V.View.family c.args.view.now in
    let there : c.loop-x.x < length c.args.core.now.sets = omega (arith, c.loop-x-test.true, c.if-count-sets.false, ap length c.as_slice-sets.ensures) in
    one_not_within c.args.core.now F c.loop-x.x c.lies_between.result there (subst (λ ps. LieBetween F c.loop-x.x (get_or ps c.loop-x.x (pos 0, pos 0)) → c.lies_between.result ≡ true) c.as_slice-sets.ensures c.lies_between.ensures.1) c.if-not-lies_between.true

pub loop-x-preserved : goal.loop-x-preserved
loop-x-preserved g c =
    let F = g.V.View.family c.args.view.now in
    let there : c.loop-x.x < length c.args.core.now.sets = omega (arith, c.loop-x-test.true, c.if-count-sets.false, ap length c.as_slice-sets.ensures) in
    next_within c.args.core.now F c.loop-x.x c.lies_between.result there (subst (λ ps. c.lies_between.result ≡ true → LieBetween F c.loop-x.x (get_or ps c.loop-x.x (pos 0, pos 0))) c.as_slice-sets.ensures c.lies_between.ensures.0) c.if-not-lies_between.false
    c.loop-x.invariant

pub returns : goal.returns
returns g c =
    all_within c.args.core.now (g.V.View.family c.args.view.now) c.vars-count.result c.loop-x.x c.vars-count.ensures.count (c.if-count-sets.false ∙ ap length c.as_slice-sets.ensures) c.loop-x-test.false c.loop-x.invariant
